-- An advance by its tests: what the code tests of the registers, and the clock's own answer.
use Rattle.std.specs.Prelude.{Ok, Err, Result}
use mathlib.Core.Bool.{Bool, true, false, not}
use mathlib.Core.List.{[], ◌∷◌}
use mathlib.Core.Path.{◌≡◌, refl, sym, ap, ◌∙◌}
use Prim.Native.Nat.{ℕ, ◌<◌}
use lib.Dec.{leb}
use Rattle.facts.specs.Choice.{pick, both, either}
use Rattle.facts.specs.Refusals.{no, first_no}
use Rattle.facts.proofs.RefusalLaws.{first_map}
use Rattle.clock.specs.Fit.{fit_clock}
use Rattle.clock.specs.Ticking as ticking
use Rattle.clock.specs.declared.AdvanceRefusal.TheVariants.{Unfit, Late}
use Rattle.clock.specs.declared.AdvanceRefusal.{AdvanceRefusal}
use Rattle.mbc3.specs.Registers.{with_clock, fit_registers}
use Rattle.timer.specs.Advance.{clocks_on, advance_of, from_clock}
use Rattle.mbc3.specs.declared.Mbc3.{Mbc3}
use Rattle.mbc3.proofs.Laws.{fit_tested}

-- all but the clock
abbrev pub rest : Mbc3 → Bool
rest m = both (both (leb 1 m.bank) (leb m.ram 3)) (either (not m.timer) (leb m.register 4))

pub rest_tested : (m : Mbc3) {t u v : Bool} → t ≡ both u v → u ≡ both (leb 1 m.bank) (leb m.ram 3)
    → v ≡ either (not m.timer) (leb m.register 4) → t ≡ rest m
rest_tested m {v = v} p q r = p ∙ ap (λ (x : Bool). both x v) q ∙ ap (both (both (leb 1 m.bank) (leb m.ram 3))) r

parted : (t a b x : Bool) → both x (either (not t) (both a b)) ≡ both (both x (either (not t) a)) (either (not t) b)
parted t a b false = refl
parted true a b true = refl
parted false a b true = refl

rest_and_clock : (m : Mbc3) → m.bank < 256 → fit_registers m ≡ both (rest m) (either (not m.timer) (fit_clock m.clock))
rest_and_clock m l =
    sym (fit_tested m m.timer l refl refl refl refl)
    ∙ parted m.timer (leb m.register 4) (fit_clock m.clock) (both (leb 1 m.bank) (leb m.ram 3))

module _ (m : Mbc3) (n : ℕ) (l : m.bank < 256) where
  -- the answer by whether the registers are fit and whether there is a timer
  abbrev by : Bool → Bool → Result Mbc3 AdvanceRefusal
  by fit timer =
      first_no Err (no (not fit) Unfit ∷ no (both timer (ticking.late m.clock n)) Late ∷ [])
      (Ok (pick timer (with_clock m (ticking.ticks n m.clock)) m))

  split : {r t : Bool} → rest m ≡ r → m.timer ≡ t → by (both r (either (not t) (fit_clock m.clock))) t ≡ advance_of m n
  unfolding advance_of clocks_on
  split {r} p q =
      sym
      (ap (λ (f : Bool). by f m.timer) (rest_and_clock m l)
      ∙ ap (λ (r : Bool). by (both r (either (not m.timer) (fit_clock m.clock))) m.timer) p
      ∙ ap (λ (t : Bool). by (both r (either (not t) (fit_clock m.clock))) t) q)

  pub unfit_answer : rest m ≡ false → Err Unfit ≡ advance_of m n
  unfit_answer p = split p refl

  pub still_answer : rest m ≡ true → m.timer ≡ false → Ok m ≡ advance_of m n
  still_answer p q = split p q

  pub timed_answer : rest m ≡ true → m.timer ≡ true → from_clock m (ticking.advance_of m.clock n) ≡ advance_of m n
  unfolding ticking.advance_of
  timed_answer p q =
      first_map (from_clock m) Err
      (no (not (fit_clock m.clock)) Unfit ∷ no (ticking.late m.clock n) Late ∷ [])
      (Ok (ticking.ticks n m.clock))
      ∙ split p q
