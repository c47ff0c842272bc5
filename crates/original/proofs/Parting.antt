-- The rows where the Rust and we part, and the one inside, by computation.
use mathlib.Core.Bool.{true, false}
use mathlib.Core.List.{List, [], ◌∷◌}
use mathlib.Core.Path.{◌≡◌, refl, ◌∙◌}
use Prim.Native.Nat.{◌<◌, ◌≤◌}
use native.Mathlib.Omega.{arith}
use Rattle.facts.specs.Counter.{carries, step, step_if}
use Rattle.facts.proofs.ChoiceLaws.{false≢true}
use Rattle.clock_registers.specs.Fit as registers-fit
use Rattle.clock_registers.specs.Seconds.{second_on, seconds_on}
use Rattle.clock.specs.Access.{shown_of, written_of, latched_of}
use Rattle.clock.specs.Fit.{fit_clock}
use Rattle.clock.specs.Ticking.{moving, tick, ticks}
use Rattle.mbc3.specs.Registers as mbc3
use Rattle.timer.specs.Advance as timer
use Rattle.timer.specs.ClockWindow.{window_read, window_written}
use Rattle.image.specs.Image.{padded_length}
use Rattle.mapper.specs.Mappers as mapper
use Rattle.window.specs.Window as window
use Rattle.cartridge.specs.Fit.{fit_board, fit_cart}
use Rattle.access.specs.Verdict.{noes, verdict_of}
use Rattle.bus.specs.Bus as bus
use Rattle.bus.specs.Advance.{advance_of}
use Rattle.bus.specs.Run.{run_of}
use Rattle.original.specs.Machine.{ok, bind}
use Rattle.original.specs.Rtc as rtc
use Rattle.original.specs.Mbc3 as rust
use Rattle.original.specs.Cartridge as cartridge
use Rattle.original.specs.Domain.{since, InDomain}
use Rattle.original.specs.Clauses.{all_hold, kept}
use Rattle.original.specs.Follows.{Ahead, Follows}
use Rattle.original.specs.Same.{Same}
use Rattle.original.specs.Step.{clocks_of, original_run}
use Rattle.original.proofs.DomainLaws.{kept_domain}
use Rattle.original.specs.Parting.{Row, registers_of, clock_of, machine_of, rtc_at, rust_of, cartridge_of, Holds, within, carry_set, minute_sixty, hour_twenty_four, while_frozen, before_latch, before_write, before_next, time_over, elsewhere, bad_selection, AllHold, end, row, rows}

-- the state of a row is shared
shared_by : (r : Row) → r.second < 60 → r.register < 5 → r.due ≤ 1 → (clock_of r).running.carry ≡ false
    → Same [] (since r.due 0) (machine_of r) (cartridge_of r)
shared_by r h n k c =
    let ahead : Ahead r.due (clock_of r) (registers_of r) r.last =
    record {
      running = refl;
      time = refl;
      copy = λ e. false≢true e;
      frozen = λ e. false≢true e;
      halted = λ e. false≢true e;
      clear = c;
      carry = refl;
      minute = λ e. omega arith;
      hour = λ e. omega arith;
      fit = record { second = omega arith; minute = omega arith; hour = omega arith; day = omega arith };
      sub = omega arith;
    } in
    let follows : Follows r.due (clock_of r) (rtc_at r) =
    record { registers = registers_of r; last = r.last; is = refl; ahead = ahead } in
    record {
      rom = refl;
      ram = refl;
      octets = tt;
      mapper = (rust_of r, refl, record { rtc = rtc_at r; is = refl; clocked = follows; register = n; few = k });
    }

-- one more row, by what it computes to
also : {rs : List Row} (r : Row) → r.second < 60 → r.register < 5 → r.due ≤ 1 → (clock_of r).running.carry ≡ false
    → fit_cart (machine_of r).cart ≡ true → kept [] (machine_of r) (since r.due 0) r.accesses ≡ r.keeps
    → (run_of [] (machine_of r) r.accesses).answers ≡ r.ours
    → bind (original_run (cartridge_of r) r.accesses) (λ x. ok x.answers) ≡ r.theirs → AllHold rs → AllHold (r ∷ rs)
also r h n b c f k x y =
    row
    (record {
      ready = record { fit = f; image = refl; area = refl };
      shared = shared_by r h n b c;
      keeps = k;
      ours = x;
      theirs = y;
    })

pub all_hold_lem : AllHold rows
unfolding
    bus.read_of
    bus.read_verdict
    bus.write_of
    bus.write_verdict
    bus.area_after
    advance_of
    verdict_of
    noes
    fit_cart
    fit_board
    padded_length
    mapper.holds
    mbc3.fit_registers
    fit_clock
    registers-fit.fit_registers
    window.read_of
    window.area_after
    window.mapper_after
    window_read
    window_written
    shown_of
    written_of
    latched_of
    mbc3.written
    mbc3.latched
    mbc3.selected
    mbc3.selectable
    timer.clocks_on
    ticks
    tick
    moving
    seconds_on
    second_on
    carries
    step
    step_if
    original_run
    clocks_of
    cartridge.read_ram
    cartridge.write_ram
    cartridge.write_to_bank_controller
    cartridge.clock_mapper
    rust.map_ram_read
    rust.map_ram_write
    rust.rtc_read
    rust.rtc_write
    rust.write_bank_controller_register
    rust.clock
    rtc.read_register
    rtc.write_register
    rtc.set_latch
    rtc.update_registers
    rtc.add_to_registers
    rtc.clock_second_part
all_hold_lem =
    also within (omega arith) (omega arith) (omega arith) refl refl refl refl refl
    (also carry_set (omega arith) (omega arith) (omega arith) refl refl refl refl refl
    (also minute_sixty (omega arith) (omega arith) (omega arith) refl refl refl refl refl
    (also hour_twenty_four (omega arith) (omega arith) (omega arith) refl refl refl refl refl
    (also while_frozen (omega arith) (omega arith) (omega arith) refl refl refl refl refl
    (also before_latch (omega arith) (omega arith) (omega arith) refl refl refl refl refl
    (also before_write (omega arith) (omega arith) (omega arith) refl refl refl refl refl
    (also before_next (omega arith) (omega arith) (omega arith) refl refl refl refl refl
    (also time_over (omega arith) (omega arith) (omega arith) refl refl refl refl refl
    (also elsewhere (omega arith) (omega arith) (omega arith) refl refl refl refl refl
    (also bad_selection (omega arith) (omega arith) (omega arith) refl refl refl refl refl
    end))))))))))

-- and where all clauses hold the list is in the domain
pub in_domain : {r : Row} → Holds r → r.keeps ≡ all_hold → InDomain [] (machine_of r) (since r.due 0) r.accesses
in_domain {r} h e = kept_domain [] (machine_of r) (since r.due 0) r.accesses (h.keeps ∙ e)
