-- Demand 3: "For every clock whose registers are within their widths, second 61 included: an advance by n is n single ticks; one by a and
-- then one by b is one by a + b; and 44,236,800 seconds, 512 days, is the period, and nothing less, of second, minute, hour and day."
-- First of a clock, then of a cartridge as the player advances it. The theorems speak of the clock's `advance_of`, `shown_of`, `written_of`,
-- `latched_of` and `forward_of` and of the bus's `advance_of` (here `advances.advance_of`): the contracts say that the code's answers equal
-- these.
use Rattle.std.specs.Prelude.{Ok, Err, Some, None}
use mathlib.Core.Bool.{Bool, true, false}
use mathlib.Core.Logic.{◌↔◌}
use mathlib.Core.Path.{◌≡◌, refl, sym, ap, ◌∙◌, subst}
use Prim.Native.Nat.{ℕ, ◌+◌, ◌/◌, ◌%◌, ◌<◌, ◌≤◌}
use mathlib.Core.List.{List}
use lib.ListN.{get_or, replicate}
use Rattle.clock_registers.specs.Fit.{fit_registers}
use Rattle.clock.specs.Fit.{fit_clock}
use Rattle.clock_registers.specs.Seconds.{forward_of}
use Rattle.clock.specs.Ticking.{ticks, advance_of}
use Rattle.clock_registers.specs.Access.{registers}
use Rattle.clock.specs.Access.{start_at, shown_of, written_of, latched_of}
use Rattle.clock_registers.specs.declared.Registers.{Registers}
use Rattle.clock.specs.declared.Clock.{Clock}
use Rattle.clock.specs.declared.AdvanceRefusal.TheVariants.{Late}
use Rattle.clock.proofs.FitLaws.{fit_parts}
use Rattle.clock.proofs.AnswerLaws.{halted_answer}
use Rattle.clock.proofs.KeptLaws.{advance_taken, advance_fit, write_fit, latch_fit, start_fit}
use Rattle.clock_registers.proofs.KeptLaws.{forward_fit}
use Rattle.battery.specs.Battery.{clock_in}
use Rattle.cartridge.specs.Fit.{fit_cart}
use Rattle.cartridge.specs.declared.Cartridge.{Cartridge}
use Rattle.cartridge.proofs.Laws.{fit_registers_lem}
use Rattle.bus.specs.Advance as advances
use Rattle.runs.specs.Time.{then_advance, single_ticks, Proper, SameTime, seconds_of, period, period_on, keeps}
use Rattle.runs.specs.Advances as cartridge
use Rattle.runs.specs.Advances.{Timed, with_clock_of, from_clock, single_advances}
use Rattle.bytes_le.specs.Little.{Octets}
use Rattle.states.specs.Layout.{encode_of}
use Rattle.states.specs.Reading.{decode_of}
use Rattle.flat_write.specs.Calls.{state_advanced}
use Rattle.player.proofs.imf_advance.Reads as imf-advance
use Rattle.shipped.specs.Moves.{moved_by, moved_of, then_moved, single_moves, SameMoved, ones_left}
use Rattle.shipped.specs.Along.{Outs, outs}
use Rattle.shipped.specs.Sequence.{Kept, kept}
use Rattle.shipped.specs.Made.{Call, AllMade}
use Rattle.shipped.proofs.Demand3 as shipped
use Rattle.bus.specs.Run as run
use Rattle.player.specs.Bus as exported
use Rattle.runs.proofs.MapperLaws.{clock_fits}
use Rattle.runs.proofs.AdvanceLaws as laws
use Rattle.runs.proofs.TimeLaws.{joined, by_singles, late_exactly, taken_exactly, no_sooner, comes_back, seconds_proper, whole_seconds, taken_seconds, ticks_carry, written_carry, written_reading, frozen_reading}

-- 1. Advancing by n gives exactly what n single ticks give,
pub advance_is_ticks : (c : Clock) (n : ℕ) → fit_clock c ≡ true
    → (advance_of c n ≡ Ok (ticks n c)) ↔ ((ticks n c).time ≤ 18446744073709551615)
advance_is_ticks = taken_exactly

-- and is refused with 17 exactly where n ticks would carry the time past 2^64 - 1;
pub refused_where_time_passes : (c : Clock) (n : ℕ) → fit_clock c ≡ true
    → (advance_of c n ≡ Err Late) ↔ (18446744073709551615 < (ticks n c).time)
refused_where_time_passes = late_exactly

-- the same of the code's own answers to n single ticks, on every clock, fit or not.
pub advance_is_single_ticks : (n : ℕ) (c : Clock) → advance_of c n ≡ single_ticks n c
advance_is_single_ticks = by_singles

-- 2. By a and then by b is by a + b, and one is taken exactly if the other is: a refusal on the way is the refusal.
pub advances_join : (c : Clock) (a b : ℕ) → advance_of c (a + b) ≡ then_advance (advance_of c a) b
advances_join = joined

-- 3. Demand 3: "They come back once second and minute are below 60 and the hour below 24", after 44,236,800 seconds, with the carry set,
pub period_comes_back : (c : Clock) → fit_clock c ≡ true → Proper c.running → c.running.halt ≡ false
    → c.time + period ≤ 18446744073709551615
    → advance_of c (seconds_of period) ≡ Ok (period_on c)
period_comes_back c f p h t =
    let r = c.running in
    taken_seconds c period f h t
    (comes_back r (fit_parts c f).running p
    ∙ ap (λ (b : Bool). registers r.second r.minute r.hour r.day b true) h)

-- and no smaller positive number of seconds does.
pub period_is_least : (c d : Clock) (k : ℕ) → fit_clock c ≡ true → Proper c.running → c.running.halt ≡ false
    → 0 < k → k < period → advance_of c (seconds_of k) ≡ Ok d → SameTime d.running c.running → ⊥
period_is_least c d k f p h pos less e same =
    let q = (advance_taken c d (seconds_of k) e).is ∙ whole_seconds c k f h in
    no_sooner c.running (fit_parts c f).running p k pos less (subst (λ (x : Clock). SameTime x.running c.running) q same)

-- A game may write second 61 or hour 30, which no period brings back. Demand 3: "which they are within 122,764 seconds .. on every clock that runs", and the two above hold from then on.
pub soon_proper : (c d : Clock) (k : ℕ) → fit_clock c ≡ true → c.running.halt ≡ false → 122764 ≤ k
    → advance_of c (seconds_of k) ≡ Ok d → Proper d.running
soon_proper c d k f h long e =
    let q = (advance_taken c d (seconds_of k) e).is ∙ whole_seconds c k f h in
    subst (λ (x : Clock). Proper x.running) (sym q) (seconds_proper k c.running (fit_parts c f).running long)

-- 4. A fit clock stays fit under every operation,
pub advance_stays_fit : (c d : Clock) (n : ℕ) → advance_of c n ≡ Ok d → fit_clock d ≡ true
advance_stays_fit = advance_fit

pub forward_stays_fit : (r q : Registers) (n : ℕ) → forward_of r n ≡ Some q → fit_registers q ≡ true
forward_stays_fit = forward_fit

pub write_stays_fit : (c d : Clock) (n b : ℕ) → fit_clock c ≡ true → b < 256 → written_of c n b ≡ Some d
    → fit_clock d ≡ true
write_stays_fit = write_fit

pub latch_stays_fit : (c : Clock) (b : ℕ) → fit_clock c ≡ true → fit_clock (latched_of c b) ≡ true
latch_stays_fit = latch_fit

pub start_is_fit : (wall : ℕ) → fit_clock (start_at wall) ≡ true
start_is_fit = start_fit

-- a halted clock does not move, however full its time,
pub halted_stays : (c : Clock) (n : ℕ) → fit_clock c ≡ true → c.running.halt ≡ true → c.time < 18446744073709551616
    → advance_of c n ≡ Ok c
halted_stays c n f h t = sym (halted_answer c n f h t)

-- and the carry stays, through every advance, latch and write but one of a 0 to bit 7 of register 4.
pub carry_stays_in_advance : (c d : Clock) (n : ℕ) → c.running.carry ≡ true → advance_of c n ≡ Ok d → d.running.carry ≡ true
carry_stays_in_advance c d n h e = ap (λ (x : Clock). x.running.carry) (advance_taken c d n e).is ∙ ticks_carry n c h

pub carry_stays_in_latch : (c : Clock) (b : ℕ) → (latched_of c b).running ≡ c.running
unfolding latched_of
carry_stays_in_latch c b = refl

pub carry_stays_in_write : (c d : Clock) (n b : ℕ) → c.running.carry ≡ true → (n ≡ 4 → b / 128 % 2 ≡ 1)
    → written_of c n b ≡ Some d → d.running.carry ≡ true
carry_stays_in_write = written_carry

-- 5. What is written to a register is read back, masked to its width,
pub write_reads_back : (c d : Clock) (n b : ℕ) → b < 256 → written_of c n b ≡ Some d
    → shown_of d n ≡ Some (get_or (keeps b) n 0)
write_reads_back = written_reading

-- and a frozen clock shows its copy whatever time passes.
pub frozen_shows_copy : (c d : Clock) (n k : ℕ) → c.latched ≡ true → advance_of c n ≡ Ok d → shown_of d k ≡ shown_of c k
frozen_shows_copy = frozen_reading

-- the clock of a fit cartridge is fit
timed_fit : (c : Cartridge) (k : Clock) → Timed c k → fit_clock k ≡ true
timed_fit c k t = clock_fits c.mapper k t.clock (fit_registers_lem c t.fit)

-- 6. As the player calls it, Clock 5: "Where it is accepted and there is a timer, the clock moves so and all else stays". The answer is the
-- clock's, refusals included, and in an accepted one the clock alone is another;
pub cartridge_advance_is_clocks : (c : Cartridge) (k : Clock) (n : ℕ) → Timed c k
    → advances.advance_of c n ≡ from_clock c (advance_of k n)
cartridge_advance_is_clocks = laws.clock_advance

-- Clock 5: "without a timer it is taken and changes nothing."
pub cartridge_without_timer : (c : Cartridge) (n : ℕ) → fit_cart c ≡ true → clock_in c.mapper ≡ None
    → advances.advance_of c n ≡ Ok c
cartridge_without_timer = laws.no_clock_advance

-- Demand 3: "an advance by n is n single ticks": the ticks of its clock, unless they would carry the time past 2^64 - 1,
pub cartridge_advance_is_ticks : (c : Cartridge) (k : Clock) (n : ℕ) → Timed c k
    → (advances.advance_of c n ≡ Ok (with_clock_of c (ticks n k))) ↔ ((ticks n k).time ≤ 18446744073709551615)
cartridge_advance_is_ticks c k n t = (
  (λ e. let x = laws.timed_taken c k n t _ e in (advance_taken k x.clock n x.taken).room),
  (λ h. laws.clock_advance c k n t ∙ ap (from_clock c) ((taken_exactly k n (timed_fit c k t)).1 h)),
)

-- and exactly then the number is 17;
pub cartridge_refused_where_time_passes : (c : Cartridge) (k : Clock) (n : ℕ) → Timed c k
    → (advances.advance_of c n ≡ Err Late) ↔ (18446744073709551615 < (ticks n k).time)
cartridge_refused_where_time_passes c k n t = (
  (λ e. (late_exactly k n (timed_fit c k t)).0 (laws.timed_late c k n t e)),
  (λ h. laws.clock_advance c k n t ∙ ap (from_clock c) ((late_exactly k n (timed_fit c k t)).1 h)),
)

-- n advances by one clock give the same answer, of every cartridge, fit or not, with a timer or without one.
pub cartridge_advance_is_single_advances : (n : ℕ) (c : Cartridge) → advances.advance_of c n ≡ single_advances n c
cartridge_advance_is_single_advances = laws.by_single_advances

-- Demand 3: "one by a and then one by b is one by a + b", of every cartridge: a refusal on the way is the refusal.
pub cartridge_advances_join : (c : Cartridge) (a b : ℕ)
    → advances.advance_of c (a + b) ≡ cartridge.then_advance (advances.advance_of c a) b
cartridge_advances_join = laws.advances_joined

-- Demand 3: "44,236,800 seconds, 512 days, is the period",
pub cartridge_period_comes_back : (c : Cartridge) (k : Clock) → Timed c k → Proper k.running → k.running.halt ≡ false
    → k.time + period ≤ 18446744073709551615 → advances.advance_of c (seconds_of period) ≡ Ok (with_clock_of c (period_on k))
cartridge_period_comes_back c k t p h m =
    laws.clock_advance c k (seconds_of period) t ∙ ap (from_clock c) (period_comes_back k (timed_fit c k t) p h m)

-- Demand 3: "and nothing less".
pub cartridge_period_is_least : (c d : Cartridge) (k j : Clock) (s : ℕ) → Timed c k → Proper k.running
    → k.running.halt ≡ false → 0 < s → s < period → advances.advance_of c (seconds_of s) ≡ Ok d
    → clock_in d.mapper ≡ Some j → SameTime j.running k.running → ⊥
cartridge_period_is_least c d k j s t p h pos less e i same =
    let x = laws.timed_taken c k (seconds_of s) t d e in
    let q = laws.timed_clock c k (seconds_of s) t j d x i in
    period_is_least k j s (timed_fit c k t) p h pos less (x.taken ∙ ap Ok q) same

-- And within 122,764 seconds every such cartridge's clock is one that the period brings back.
pub cartridge_soon_proper : (c d : Cartridge) (k j : Clock) (s : ℕ) → Timed c k → k.running.halt ≡ false → 122764 ≤ s
    → advances.advance_of c (seconds_of s) ≡ Ok d → clock_in d.mapper ≡ Some j → Proper j.running
cartridge_soon_proper c d k j s t h long e i =
    let x = laws.timed_taken c k (seconds_of s) t d e in
    let q = laws.timed_clock c k (seconds_of s) t j d x i in
    soon_proper k j s (timed_fit c k t) h long (x.taken ∙ ap Ok q)

-- 7. As it ships: the number that an `imf_advance` answers on any bytes, and the bytes that it leaves, are these of the definitions:
pub shipped_advance_is : (c : Call imf-advance.Learnt) → moved_by c ≡ moved_of c.passed.0.now c.passed.1.0
shipped_advance_is = shipped.made_moved

-- by a + b is by a and then by b,
pub shipped_advances_join : (s : List ℕ) → Octets s → (a b : ℕ) → SameMoved (moved_of s (a + b)) (then_moved (moved_of s a) b)
shipped_advances_join = shipped.advances_join

-- by n is n times by 1,
pub shipped_advance_is_singles : (n : ℕ) (s : List ℕ) → Octets s → SameMoved (moved_of s n) (single_moves n s)
shipped_advance_is_singles = shipped.advance_is_singles

-- as n calls by 1 that were made one after the other, where the one by n answers 0,
pub shipped_advance_is_ones : (n : ℕ) (image s ram : List ℕ) → Octets s → exported.advance_of s n ≡ 0
    → {got : Outs ℕ Kept} → AllMade image (kept s ram) (replicate n (run.clocks 1)) got → got ≡ outs (replicate n 0) (kept (ones_left n s) ram)
shipped_advance_is_ones = shipped.advance_is_ones

-- a halted clock stays as it is,
pub shipped_halted_stays : (s : List ℕ) (c : Cartridge) (k : Clock) (n : ℕ) → Octets s → decode_of s ≡ Some c → Timed c k
    → k.running.halt ≡ true → moved_of s n ≡ record { number = 0; state = encode_of c }
shipped_halted_stays = shipped.halted_stays

-- a period brings the registers back, with the carry,
pub shipped_period_comes_back : (s : List ℕ) (c : Cartridge) (k : Clock) → decode_of s ≡ Some c → Timed c k → Proper k.running
    → k.running.halt ≡ false → k.time + period ≤ 18446744073709551615
    → (moved_of s (seconds_of period) ≡ record { number = 0; state = encode_of (with_clock_of c (period_on k)) })
    × (decode_of (state_advanced s (seconds_of period)) ≡ Some (with_clock_of c (period_on k)))
shipped_period_comes_back = shipped.period_comes_back

-- and nothing less.
pub shipped_period_is_least : (s : List ℕ) (c d : Cartridge) (k j : Clock) (n : ℕ) → Octets s → decode_of s ≡ Some c → Timed c k
    → Proper k.running → k.running.halt ≡ false → 0 < n → n < period → exported.advance_of s (seconds_of n) ≡ 0
    → decode_of (state_advanced s (seconds_of n)) ≡ Some d → clock_in d.mapper ≡ Some j → SameTime j.running k.running → ⊥
shipped_period_is_least = shipped.period_is_least
