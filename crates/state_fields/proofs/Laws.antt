-- Fields stored one after the other, flags tested one after the other.
use mathlib.Core.Bool.{Bool, true, false}
use mathlib.Core.List.{List, [], ◌∷◌, ◌++◌}
use mathlib.Core.Path.{◌≡◌, refl, sym, ap, ◌∙◌}
use Prim.Native.Nat.{ℕ}
use Rattle.facts.specs.Choice.{both}
use Rattle.facts.proofs.ChoiceLaws.{both_one}
use Rattle.bytes_le.specs.Little.{put_at}
use Rattle.clock_registers.specs.Access as access
use Rattle.clock_registers.specs.declared.Registers.{Registers}
use Rattle.state_fields.specs.Fields.{Field, stored, is_flag, are_flags}
use Rattle.state_fields.specs.ClockFields.{clock_with}

-- ---- writing

-- a field stored behind others
pub put_on : (w at n : ℕ) {s r t : List ℕ} → r ≡ s → t ≡ put_at w r at n → t ≡ put_at w s at n
put_on w at n p q = q ∙ ap (λ (x : List ℕ). put_at w x at n) p

-- fields stored behind others
pub store_on : (fs : List Field) {s r t : List ℕ} → r ≡ s → t ≡ stored fs r → t ≡ stored fs s
store_on fs p q = q ∙ ap (stored fs) p

-- ---- flags

pub flags_one : (s : List ℕ) (at : ℕ) {a : Bool} → a ≡ is_flag s at → a ≡ are_flags s (at ∷ [])
unfolding are_flags
flags_one s at p = p ∙ sym (both_one (is_flag s at))

both_both : (a b d : Bool) → both (both a b) d ≡ both a (both b d)
both_both true b d = refl
both_both false b d = refl

flags_append : (s xs ys : List ℕ) → both (are_flags s xs) (are_flags s ys) ≡ are_flags s (xs ++ ys)
unfolding are_flags
flags_append s [] ys = refl
flags_append s (x ∷ xs) ys =
    both_both (is_flag s x) (are_flags s xs) (are_flags s ys) ∙ ap (both (is_flag s x)) (flags_append s xs ys)

pub flags_both : (s xs ys : List ℕ) {a b r : Bool} → a ≡ are_flags s xs → b ≡ are_flags s ys → r ≡ both a b → r ≡ are_flags s (xs ++ ys)
flags_both s xs ys {b = b} p q e =
    e ∙ ap (λ (x : Bool). both x b) p ∙ ap (both (are_flags s xs)) q ∙ flags_append s xs ys

-- ---- a clock, field by field

pub registers_of_lem : {s s' m m' h h' d d' : ℕ} {a a' b b' : Bool} → s ≡ s' → m ≡ m' → h ≡ h' → d ≡ d' → a ≡ a' → b ≡ b'
    → access.registers s m h d a b ≡ access.registers s' m' h' d' a' b'
registers_of_lem p q r e f g = cc

pub clock_of_lem : {r r' f f' : Registers} {s s' t t' : ℕ} {l l' : Bool} → r ≡ r' → s ≡ s' → t ≡ t' → l ≡ l' → f ≡ f'
    → clock_with r s t l f ≡ clock_with r' s' t' l' f'
clock_of_lem p q r e f = cc
