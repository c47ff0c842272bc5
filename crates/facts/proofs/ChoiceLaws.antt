-- Choices and tests: what a joined test says of its parts, and that a determined answer is one.
use mathlib.Core.Bool.{Bool, true, false, not}
use mathlib.Core.Path.{◌≡◌, refl, sym, ◌∙◌}
use mathlib.Core.Logic.{◌⊎◌, inl, inr}
use Prim.Native.Nat.{ℕ, ◌<◌, ◌≤◌}
use native.Mathlib.Omega.{arith}
use lib.Dec.{eqb, ltb}
use borrow.Author.Tests.{eq-eqb, ne_eqb, eqb-true, eqb-false, lt-ltb, le-ltb, ltb-true, ltb-false}
use Rattle.facts.specs.Choice.{pick, both, either, bit}

-- Any two answers that a contract allows coincide, where it says that the answer equals its definition.
pub coincide : {A : Type 0} {x y definition : A} → x ≡ definition → y ≡ definition → x ≡ y
coincide p q = p ∙ sym q

pub false≢true : {A : Type 0} → false ≡ true → A
false≢true e = absurd (let z : ◌≡◌ {A = ℕ} 0 1 = cc in omega arith)

pub both_parts : (a b : Bool) → both a b ≡ true → (a ≡ true) × (b ≡ true)
both_parts true b e = (refl, e)
both_parts false b e = false≢true e

pub both_left : (a b : Bool) → both a b ≡ true → a ≡ true
both_left a b e = (both_parts a b e).0

pub both_right : (a b : Bool) → both a b ≡ true → b ≡ true
both_right a b e = (both_parts a b e).1

pub both_true : {a b : Bool} → a ≡ true → b ≡ true → both a b ≡ true
both_true p q = rw p q

pub both_one : (a : Bool) → both a true ≡ a
both_one true = refl
both_one false = refl

pub both_false : (a : Bool) → both a false ≡ false
both_false true = refl
both_false false = refl

pub not_true : (a : Bool) → not a ≡ true → a ≡ false
not_true true e = sym e
not_true false e = refl

pub not_false : (a : Bool) → not a ≡ false → a ≡ true
not_false true e = refl
not_false false e = sym e

pub either_true : (a : Bool) → either a true ≡ true
either_true true = refl
either_true false = refl

pub either_false : (a : Bool) → either a false ≡ a
either_false true = refl
either_false false = refl

pub either_cases : (a b : Bool) → either a b ≡ true → (a ≡ true) ⊎ (b ≡ true)
either_cases true b e = inl refl
either_cases false b e = inr e

pub either_map : (a : Bool) {b d : Bool} → (b ≡ true → d ≡ true) → either a b ≡ true → either a d ≡ true
either_map true f e = refl
either_map false f e = f e

pub neither : (a b : Bool) → either a b ≡ false → (a ≡ false) × (b ≡ false)
neither true b e = false≢true (sym e)
neither false b e = (refl, e)

pub bit_lt : (a : Bool) → bit a < 2
bit_lt true = omega arith
bit_lt false = omega arith

-- what holds of both holds of the one picked
pub pick_has : {A : Type 0} (P : A → Type 0) (t : Bool) {a b : A} → P a → P b → P (pick t a b)
pick_has P true p q = p
pick_has P false p q = q

-- the same where each side may use what the test says
pub pick_cases : {A : Type 0} (P : A → Type 0) (t : Bool) {a b : A} → (t ≡ true → P a) → (t ≡ false → P b) → P (pick t a b)
pick_cases P true p q = p refl
pick_cases P false p q = q refl

-- two tests for equality that hold together are one
pub eqb_iff : (a b c d : ℕ) → (a ≡ b → c ≡ d) → (c ≡ d → a ≡ b) → eqb a b ≡ eqb c d
eqb_iff a b c d f g = go (eqb a b) refl
  where
    go : (t : Bool) → eqb a b ≡ t → t ≡ eqb c d
    go true e = sym (eq-eqb c d (f (eqb-true a b e)))
    go false e = sym (ne_eqb c d (λ q. eqb-false a b e (g q)))

-- and two for order
pub ltb_iff : (a b c d : ℕ) → (a < b → c < d) → (b ≤ a → d ≤ c) → ltb a b ≡ ltb c d
ltb_iff a b c d f g = go (ltb a b) refl
  where
    go : (t : Bool) → ltb a b ≡ t → t ≡ ltb c d
    go true e = sym (lt-ltb c d (f (ltb-true a b e)))
    go false e = sym (le-ltb c d (g (ltb-false a b e)))
