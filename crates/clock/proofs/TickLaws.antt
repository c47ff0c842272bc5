-- n ticks of a clock that is not halted are n steps of the sub-second, and as many seconds as those carry. A halted
-- clock stays.
use mathlib.Core.Bool.{Bool, true, false}
use mathlib.Core.Path.{◌≡◌, refl, sym, ap, ◌∙◌}
use Prim.Native.Nat.{ℕ, zero, suc, ◌+◌, ◌≤◌}
use native.Mathlib.Nat.{add-zero, add-suc, add_assoc, le_refl, le_trans}
use native.Mathlib.Numerals.{add-one}
use native.Mathlib.Omega.{arith}
use Rattle.facts.specs.Choice.{pick, bit}
use Rattle.facts.specs.Counter.{steps, count}
use Rattle.facts.proofs.CounterLaws.{steps_suc, count_suc, low_digits, plain_grows}
use Rattle.clock.specs.Fit.{fit_clock}
use Rattle.clock_registers.specs.Seconds.{second_on, seconds_on}
use Rattle.clock.specs.Ticking.{clocks, moving, tick, ticks}
use Rattle.clock_registers.specs.declared.Registers.{Registers}
use Rattle.clock.specs.declared.Clock.{Clock}
use Rattle.clock.proofs.FitLaws.{fit_parts, parts_fit}
use Rattle.clock_registers.proofs.SecondLaws.{seconds_halt, seconds_fit}

-- the whole seconds in n ticks
abbrev pub seconds_in : ℕ → Clock → ℕ
seconds_in n c = count clocks n c.sub

unfoldable pub after : ℕ → Clock → Clock
after n c =
    record {
      running = seconds_on (seconds_in n c) c.running;
      sub = steps clocks n c.sub;
      time = c.time + seconds_in n c;
      latched = c.latched;
      frozen = c.frozen;
    }

seconds_bit : (k : ℕ) (r : Registers) (b : Bool)
    → pick b (second_on (seconds_on k r)) (seconds_on k r) ≡ seconds_on (k + bit b) r
unfolding seconds_on
seconds_bit k r true = rw add-one
seconds_bit k r false = rw add-zero

after_suc : (n : ℕ) (c : Clock) → moving (after n c) ≡ after (suc n) c
unfolding moving after
after_suc n c = simp (count_suc, steps_suc, seconds_bit, add_assoc)

after_zero : (c : Clock) → after 0 c ≡ c
unfolding after steps count seconds_on
after_zero c = simp add-zero

-- The families below are written: `rw` would put the test's value into the record's own field too.
pub halted_ticks : (n : ℕ) (c : Clock) → c.running.halt ≡ true → ticks n c ≡ c
unfolding ticks tick
halted_ticks zero c h = refl
halted_ticks (suc n) c h = ap tick (halted_ticks n c h) ∙ ap (λ (b : Bool). pick b c (moving c)) h

pub moving_tick : (c : Clock) → c.running.halt ≡ false → tick c ≡ moving c
unfolding tick
moving_tick c h = ap (λ (b : Bool). pick b c (moving c)) h

still_moving : (n : ℕ) (c : Clock) → c.running.halt ≡ false → (after n c).running.halt ≡ false
unfolding after
still_moving n c h = seconds_halt (seconds_in n c) c.running ∙ h

pub moving_ticks : (n : ℕ) (c : Clock) → c.running.halt ≡ false → ticks n c ≡ after n c
unfolding ticks
moving_ticks zero c h = sym (after_zero c)
moving_ticks (suc n) c h =
    ap tick (moving_ticks n c h) ∙ moving_tick (after n c) (still_moving n c h) ∙ after_suc n c

pub ticks_time : (n : ℕ) (c : Clock) → c.running.halt ≡ false → (ticks n c).time ≡ c.time + seconds_in n c
unfolding after
ticks_time n c h = ap (λ (x : Clock). x.time) (moving_ticks n c h)

-- ticks join
pub ticks_add : (a b : ℕ) (c : Clock) → ticks (a + b) c ≡ ticks b (ticks a c)
unfolding ticks
ticks_add a zero c = rw add-zero
ticks_add a (suc b) c = rw add-suc (ap tick (ticks_add a b c))

-- the time never goes back
tick_time : (c : Clock) → c.time ≤ (tick c).time
unfolding tick moving
tick_time c = go c.running.halt
  where
    go : (b : Bool) → c.time ≤ (pick b c (moving c)).time
    go true = le_refl c.time
    go false = omega arith

pub time_grows : (n : ℕ) (c : Clock) → c.time ≤ (ticks n c).time
unfolding ticks
time_grows zero c = le_refl c.time
time_grows (suc n) c = le_trans (time_grows n c) (tick_time (ticks n c))

-- ticks keep the widths
pub ticks_fit : (n : ℕ) (c : Clock) → fit_clock c ≡ true → fit_clock (ticks n c) ≡ true
unfolding after
ticks_fit n c e = go c.running.halt refl
  where
    go : (b : Bool) → c.running.halt ≡ b → fit_clock (ticks n c) ≡ true
    go true h = ap fit_clock (halted_ticks n c h) ∙ e
    go false h =
        let f = fit_parts c e in
        ap fit_clock (moving_ticks n c h)
        ∙ parts_fit (after n c)
        (record {
          running = seconds_fit (seconds_in n c) c.running f.running;
          frozen = f.frozen;
          sub = (low_digits clocks (omega arith) (plain_grows 2097152) n c.sub f.sub).0;
        })
