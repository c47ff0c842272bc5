-- Lists: a number among others, an element that is there, and the part of a slice from a place on.
use mathlib.Core.Bool.{Bool, true, false}
use mathlib.Core.List.{List, [], ◌∷◌, ◌++◌, append-nil}
use mathlib.Core.Logic.{◌⊎◌, inl, inr}
use mathlib.Core.Path.{◌≡◌, refl, sym, ap, ◌∙◌}
use Prim.Native.Nat.{ℕ, zero, suc, ◌+◌, ◌-◌, ◌<◌, ◌≤◌}
use native.Mathlib.Nat.{zero-add, suc-add}
use native.Mathlib.Omega.{arith}
use lib.Dec.{leb, eqb}
use lib.ListN.{length, get_or, set, take, drop, length-drop, drop_of_length-le}
use lib.Seq.{take_all, get_or-set_same, set-get_or}
use borrow.Author.Tests.{eq-eqb, ne_eqb, eqb-true, leb-true}
use borrow.Rule.Slice.PartMut.{put_mid}
use Rattle.facts.specs.Choice.{both, either}
use Rattle.facts.specs.Listed.{one_of}
use Rattle.facts.proofs.ChoiceLaws.{false≢true, both_left, both_right, either_true}

-- ---- a match on a number, `a | b | c`, against the list of its numbers

abbrev pub Keys : ℕ → List ℕ → Type 0
Keys n [] = ⊥
Keys n (a ∷ []) = n ≡ a
Keys n (a ∷ (b ∷ l)) = (n ≡ a) ⊎ Keys n (b ∷ l)

pub keys_in : (n : ℕ) (l : List ℕ) → Keys n l → true ≡ one_of n l
keys_in n [] h = absurd h
keys_in n (a ∷ []) h = simp (eq-eqb n a h)
keys_in n (a ∷ (b ∷ l)) (inl h) = simp (eq-eqb n a h)
keys_in n (a ∷ (b ∷ l)) (inr h) = sym (ap (either (eqb n a)) (sym (keys_in n (b ∷ l) h)) ∙ either_true (eqb n a))

pub keys_out : (n : ℕ) (l : List ℕ) → (Keys n l → ⊥) → false ≡ one_of n l
keys_out n [] h = refl
keys_out n (a ∷ []) h = simp (ne_eqb n a h)
keys_out n (a ∷ (b ∷ l)) h = simp (ne_eqb n a (λ e. h (inl e))) (keys_out n (b ∷ l) (λ k. h (inr k)))

-- a bound on every entry of a list is one on what stands in it
abbrev pub all_le : List ℕ → ℕ → Bool
all_le [] b = true
all_le (a ∷ l) b = both (leb a b) (all_le l b)

pub one_of_le : (b n : ℕ) (l : List ℕ) → all_le l b ≡ true → one_of n l ≡ true → n ≤ b
one_of_le b n [] h e = false≢true e
one_of_le b n (a ∷ l) h e = go (eqb n a) refl e (one_of_le b n l (both_right (leb a b) (all_le l b) h))
  where
    go : (t : Bool) → eqb n a ≡ t → either t (one_of n l) ≡ true → (one_of n l ≡ true → n ≤ b) → n ≤ b
    go true q e f = omega (arith, eqb-true n a q, leb-true a b (both_left (leb a b) (all_le l b) h))
    go false q e f = f e

-- ---- an element that is there is the same whatever stands for the others

pub other_default : (l : List ℕ) (i a b : ℕ) → i < length l → get_or l i a ≡ get_or l i b
other_default l i a b h = sym (get_or-set_same l i (get_or l i a) b h) ∙ ap (λ (k : List ℕ). get_or k i b) (set-get_or l i a)

-- ---- the part from the k-th element on, `&s[k..]`, and the list with another such part put back

pub part_from : (k : ℕ) (xs : List ℕ) → take (length xs - k) (drop k xs) ≡ drop k xs
part_from k xs = take_all (length xs - k) (drop k xs) (omega (arith, length-drop k xs))

pub part_back : (k : ℕ) (xs ys : List ℕ) → put_mid k (length xs - k) xs ys ≡ take k xs ++ ys
part_back k xs ys =
    let none : drop (length xs - k) (drop k xs) ≡ [] =
    drop_of_length-le (drop k xs) {i = length xs - k} (omega (arith, length-drop k xs)) in
    simp (none, append-nil)

-- an element of that part set, and the whole put together again
pub part_set : (k : ℕ) (xs : List ℕ) (j v : ℕ) → take k xs ++ set (drop k xs) j v ≡ set xs (k + j) v
part_set zero xs j v = ap (λ (i : ℕ). set xs i v) (sym (zero-add j))
part_set (suc k) [] j v = refl
part_set (suc k) (x ∷ xs) j v =
    ap (λ (l : List ℕ). x ∷ l) (part_set k xs j v) ∙ ap (λ (i : ℕ). set (x ∷ xs) i v) (sym (suc-add k j))
