-- The answers of an advance, case by case.
use Rattle.std.specs.Prelude.{Ok, Err, Some, None}
use mathlib.Core.Bool.{Bool, true, false}
use mathlib.Core.Path.{◌≡◌, refl, sym, ap, ◌∙◌}
use Prim.Native.Nat.{ℕ, ◌+◌, ◌-◌, ◌/◌, ◌%◌, ◌<◌, ◌≤◌}
use native.Mathlib.Nat.{add-zero}
use native.Mathlib.Omega.{arith}
use lib.Dec.{ltb}
use borrow.Author.Tests.{lt-ltb, le-ltb}
use Rattle.facts.specs.Choice.{pick, both}
use Rattle.facts.specs.Counter.{steps, count}
use Rattle.facts.proofs.ChoiceLaws.{both_false, both_true}
use Rattle.facts.proofs.CounterLaws.{low_ran, plain_grows}
use Rattle.clock_registers.specs.Fit.{fit_registers}
use Rattle.clock_registers.specs.Seconds.{seconds_on, forward_of}
use Rattle.clock_registers.specs.declared.Registers.{Registers}
use Rattle.clock_registers.proofs.SecondLaws.{stepped_only, unstepped_only}
use Rattle.clock.specs.Fit.{fit_clock}
use Rattle.clock.specs.Ticking.{clocks, ticks, advance_of, Gone}
use Rattle.clock.specs.declared.Clock.{Clock}
use Rattle.clock.specs.declared.AdvanceRefusal.TheVariants.{Unfit, Late}
use Rattle.clock.proofs.TickLaws.{after, halted_ticks, moving_ticks}

-- ---- by the two tests

module _ (c : Clock) (n : ℕ) where
  pub unfit_answer : fit_clock c ≡ false → Err Unfit ≡ advance_of c n
  unfolding advance_of
  unfit_answer e = rw e

  module _ (e : fit_clock c ≡ true) where
    pub late_answer : 18446744073709551615 < (ticks n c).time → Err Late ≡ advance_of c n
    unfolding advance_of
    late_answer h = rw (e, lt-ltb 18446744073709551615 (ticks n c).time h)

    pub taken_answer : (ticks n c).time ≤ 18446744073709551615 → Ok (ticks n c) ≡ advance_of c n
    unfolding advance_of
    taken_answer h = rw (e, le-ltb 18446744073709551615 (ticks n c).time h)

    pub halted_answer : c.running.halt ≡ true → c.time < 18446744073709551616 → Ok c ≡ advance_of c n
    halted_answer h t =
        ap Ok (sym (halted_ticks n c h))
        ∙ taken_answer (rw (ap (λ (x : Clock). x.time) (halted_ticks n c h)) (omega arith))

-- ---- what n clocks come to

pub gone_moving : (halt : Bool) (sub n : ℕ) {x k : ℕ} → halt ≡ false → sub < 2097152 → x ≡ (sub + n) % 2097152
    → k ≡ (sub + n) / 2097152 → Gone halt sub n x k
gone_moving halt sub n h l p q =
    let r = low_ran clocks (omega arith) (plain_grows 2097152) l p q in
    record {
      value = r.value ∙ ap (λ (b : Bool). pick b sub (steps clocks n sub)) (sym h);
      carried = r.carried ∙ ap (λ (b : Bool). pick b 0 (count clocks n sub)) (sym h);
      room = omega arith;
    }

-- and n ticks: halted or not, the registers step by the whole seconds
abbrev pub moved : Clock → ℕ → ℕ → Clock
moved c x k =
    record { running = seconds_on k c.running; sub = x; time = c.time + k; latched = c.latched; frozen = c.frozen }

no_seconds : (c : Clock) → moved c c.sub 0 ≡ c
unfolding seconds_on
no_seconds c = rw add-zero

pub gone_ticks : (c : Clock) (n : ℕ) {x k : ℕ} → Gone c.running.halt c.sub n x k → ticks n c ≡ moved c x k
unfolding after
gone_ticks c n {x} {k} g = go c.running.halt refl
  where
    go : (b : Bool) → c.running.halt ≡ b → ticks n c ≡ moved c x k
    go true h =
        let p = g.value ∙ ap (λ (b : Bool). pick b c.sub (steps clocks n c.sub)) h in
        let q = g.carried ∙ ap (λ (b : Bool). pick b 0 (count clocks n c.sub)) h in
        halted_ticks n c h ∙ sym (rw (p, q) (no_seconds c))
    go false h =
        let p = g.value ∙ ap (λ (b : Bool). pick b c.sub (steps clocks n c.sub)) h in
        let q = g.carried ∙ ap (λ (b : Bool). pick b 0 (count clocks n c.sub)) h in
        moving_ticks n c h ∙ sym (rw (p, q) refl)

-- ---- by what the code goes through

-- the test of all but the running registers, as the code makes it
pub rest_tested : (c : Clock) {t u : Bool} → t ≡ both u (ltb c.sub 2097152) → u ≡ fit_registers c.frozen
    → both (fit_registers c.frozen) (ltb c.sub 2097152) ≡ t
rest_tested c p q = sym (p ∙ ap (λ (u : Bool). both u (ltb c.sub 2097152)) q)

module _ (c : Clock) (n : ℕ) where
  pub unfit_rest : both (fit_registers c.frozen) (ltb c.sub 2097152) ≡ false → Err Unfit ≡ advance_of c n
  unfolding fit_clock
  unfit_rest e = unfit_answer c n (ap (both (fit_registers c.running)) e ∙ both_false (fit_registers c.running))

  module _ (f : both (fit_registers c.frozen) (ltb c.sub 2097152) ≡ true) {x k : ℕ}
      (g : Gone c.running.halt c.sub n x k) where
    pub unfit_running : forward_of c.running k ≡ None → Err Unfit ≡ advance_of c n
    unfolding fit_clock
    unfit_running e =
        let b = both (fit_registers c.frozen) (ltb c.sub 2097152) in
        unfit_answer c n (ap (λ (a : Bool). both a b) (unstepped_only c.running k e))

    module _ {r : Registers} (s : forward_of c.running k ≡ Some r) where
      fit : fit_clock c ≡ true
      unfolding fit_clock
      fit = both_true (stepped_only c.running r k s).0 f

      time : (ticks n c).time ≡ c.time + k
      time = ap (λ (x : Clock). x.time) (gone_ticks c n g)

      pub late_by : 18446744073709551615 - c.time < k → Err Late ≡ advance_of c n
      late_by m = late_answer c n fit (omega (arith, time))

      pub advanced_by : k ≤ 18446744073709551615 - c.time → c.time < 18446744073709551616
          → Ok (record { running = r; sub = x; time = c.time + k; latched = c.latched; frozen = c.frozen }) ≡ advance_of c n
      advanced_by m t =
          rw (stepped_only c.running r k s).1 (ap Ok (sym (gone_ticks c n g)))
          ∙ taken_answer c n fit (omega (arith, time))
