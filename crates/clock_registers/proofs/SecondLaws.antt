-- n seconds, place by place: each place takes as many steps as the place before it carries.
use Rattle.std.specs.Prelude.{Some, None}
use mathlib.Core.Bool.{Bool, true, false}
use mathlib.Core.Path.{◌≡◌, refl, sym, ap, ◌∙◌, subst}
use Prim.Native.Nat.{ℕ, zero, suc, ◌+◌, ◌/◌, ◌%◌}
use native.Mathlib.Nat.{add-zero}
use native.Mathlib.Omega.{arith}
use lib.Dec.{ltb}
use borrow.Author.Tests.{lt-ltb}
use Rattle.facts.specs.Choice.{pick, either, bit}
use Rattle.facts.specs.Counter.{steps, count, Ran}
use Rattle.facts.proofs.ChoiceLaws.{either_true, either_false}
use Rattle.facts.proofs.CounterLaws.{
  steps_suc,
  count_suc,
  steps_bit,
  count_bit,
  steps_lt,
  cyclic_lt,
  low_digits,
  low_ran,
  plain_grows,
}
use Rattle.clock_registers.specs.Fit.{fit_registers, Fit}
use Rattle.clock_registers.specs.Seconds.{sixty, hours, days, second_on, seconds_on, forward_of}
use Rattle.clock_registers.specs.Access.{registers}
use Rattle.clock_registers.specs.declared.Registers.{Registers}
use Rattle.clock_registers.proofs.FitLaws.{fit_bounds, bounds_fit}

-- ---- n seconds: how often the minute, the hour, the day and the carry move

abbrev pub minute_steps : ℕ → Registers → ℕ
minute_steps n r = count sixty n r.second

abbrev pub hour_steps : ℕ → Registers → ℕ
hour_steps n r = count sixty (minute_steps n r) r.minute

abbrev pub day_steps : ℕ → Registers → ℕ
day_steps n r = count hours (hour_steps n r) r.hour

abbrev pub carry_steps : ℕ → Registers → ℕ
carry_steps n r = count days (day_steps n r) r.day

unfoldable pub placed : ℕ → Registers → Registers
placed n r =
    registers (steps sixty n r.second) (steps sixty (minute_steps n r) r.minute) (steps hours (hour_steps n r) r.hour)
    (steps days (day_steps n r) r.day) r.halt (either r.carry (ltb 0 (carry_steps n r)))

-- the carry: set before, or by one of the k steps, or by the next
set_bit : (a b : Bool) (k : ℕ) → either (either a (ltb 0 k)) b ≡ either a (ltb 0 (k + bit b))
set_bit true b k = refl
set_bit false true k = rw (lt-ltb 0 (k + 1) (omega arith)) (either_true (ltb 0 k))
set_bit false false k = rw add-zero (either_false (ltb 0 k))

placed_suc : (n : ℕ) (r : Registers) → second_on (placed n r) ≡ placed (suc n) r
unfolding second_on placed
placed_suc n r = simp (count_suc, steps_suc, steps_bit, count_bit, set_bit)

placed_zero : (r : Registers) → placed 0 r ≡ r
unfolding placed steps count
placed_zero r = simp either_false

pub by_places : (n : ℕ) (r : Registers) → seconds_on n r ≡ placed n r
unfolding seconds_on
by_places zero r = sym (placed_zero r)
by_places (suc n) r = ap second_on (by_places n r) ∙ placed_suc n r

-- a run for each place makes n seconds
pub four_runs : (n : ℕ) (r : Registers) {x₁ k₁ x₂ k₂ x₃ k₃ x₄ k₄ : ℕ} {b : Bool} → Fit r
    → Ran sixty n r.second x₁ k₁ → Ran sixty k₁ r.minute x₂ k₂ → Ran hours k₂ r.hour x₃ k₃
    → x₄ ≡ (r.day + k₃) % 512 → k₄ ≡ (r.day + k₃) / 512 → b ≡ either r.carry (ltb 0 k₄)
    → registers x₁ x₂ x₃ x₄ r.halt b ≡ seconds_on n r
unfolding placed
four_runs n r f h₁ h₂ h₃ e₄ d₄ e =
    let h₄ = low_ran days (omega arith) (plain_grows 512) f.day e₄ d₄ in
    rw (e, h₁.value, h₂.value, h₃.value, h₄.value, h₄.carried, h₃.carried, h₂.carried, h₁.carried)
    (sym (by_places n r))

-- ---- seconds keep the halt and the widths

pub seconds_halt : (n : ℕ) (r : Registers) → (seconds_on n r).halt ≡ r.halt
unfolding placed
seconds_halt n r = ap (λ (x : Registers). x.halt) (by_places n r)

pub seconds_fit : (n : ℕ) (r : Registers) → fit_registers r ≡ true → fit_registers (seconds_on n r) ≡ true
unfolding placed
seconds_fit n r e =
    let f = fit_bounds r e in
    bounds_fit (seconds_on n r)
    (subst Fit (sym (by_places n r))
    (record {
      second = steps_lt sixty 64 n r.second (cyclic_lt 64 60 (omega arith)) f.second;
      minute = steps_lt sixty 64 (minute_steps n r) r.minute (cyclic_lt 64 60 (omega arith)) f.minute;
      hour = steps_lt hours 32 (hour_steps n r) r.hour (cyclic_lt 32 24 (omega arith)) f.hour;
      day = (low_digits days (omega arith) (plain_grows 512) (day_steps n r) r.day f.day).0;
    }))

-- ---- the answers of a step

module _ (r : Registers) (n : ℕ) where
  pub stepped_answer : {q : Registers} → fit_registers r ≡ true → q ≡ seconds_on n r → Some q ≡ forward_of r n
  unfolding forward_of
  stepped_answer f e = rw (f, e)

  pub unstepped_answer : fit_registers r ≡ false → None ≡ forward_of r n
  unfolding forward_of
  unstepped_answer f = rw f

-- and taken apart
pub stepped_only : (r q : Registers) (n : ℕ) → forward_of r n ≡ Some q → (fit_registers r ≡ true) × (q ≡ seconds_on n r)
unfolding forward_of
stepped_only r q n e = go (fit_registers r) refl e
  where
    go : (b : Bool) → fit_registers r ≡ b → pick b (Some (seconds_on n r)) None ≡ Some q
        → (fit_registers r ≡ true) × (q ≡ seconds_on n r)
    go true f p = (f, cc)
    go false f p = let z : ◌≡◌ {A = ℕ} 0 1 = cc in absurd (omega arith)

pub unstepped_only : (r : Registers) (n : ℕ) → forward_of r n ≡ None → fit_registers r ≡ false
unfolding forward_of
unstepped_only r n e = go (fit_registers r) refl e
  where
    go : (b : Bool) → fit_registers r ≡ b → pick b (Some (seconds_on n r)) None ≡ None → fit_registers r ≡ false
    go true f p = let z : ◌≡◌ {A = ℕ} 0 1 = cc in absurd (omega arith)
    go false f p = f
