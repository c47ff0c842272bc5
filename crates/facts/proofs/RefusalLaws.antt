-- Ordered refusals: the answer is the first test's that holds, or the accepted one where none does.
use mathlib.Core.Bool.{Bool, true, false}
use mathlib.Core.Path.{◌≡◌, refl, sym, ap, ◌∙◌}
use mathlib.Core.Logic.{◌⊎◌, inl, inr}
use mathlib.Core.List.{List, [], ◌∷◌, ◌++◌}
use Prim.Native.Nat.{ℕ, zero, suc}
use lib.ListN.{get_or}
use Rattle.facts.specs.Choice.{pick}
use Rattle.facts.specs.Refusals.{No, first_no, any_no, First, in_words}
use Rattle.facts.proofs.ChoiceLaws.{false≢true, neither}

-- none holds, or there is a first that does
pub none_or_first : {R : Type 0} (ts : List (No R)) → (any_no ts ≡ false) ⊎ First ts
none_or_first [] = inl refl
none_or_first {R} (t ∷ ts) = go t.holds refl (none_or_first ts)
  where
    go : (b : Bool) → t.holds ≡ b → (any_no ts ≡ false) ⊎ First ts → (any_no (t ∷ ts) ≡ false) ⊎ First (t ∷ ts)
    go true h r = inr (record { before = []; test = t; after = ts; is = refl; none_before = refl; holds = h })
    go false h (inl n) = inl (rw h n)
    go false h (inr f) =
        inr
        (record {
          before = t ∷ f.before;
          test = f.test;
          after = f.after;
          is = ap (λ (l : List (No R)). t ∷ l) f.is;
          none_before = rw h f.none_before;
          holds = f.holds;
        })

-- where none holds, each does not
pub none_at : {R : Type 0} (ts : List (No R)) (k : ℕ) (d : No R) → d.holds ≡ false → any_no ts ≡ false
    → (get_or ts k d).holds ≡ false
none_at [] k d h e = h
none_at (t ∷ ts) zero d h e = (neither t.holds (any_no ts) e).0
none_at (t ∷ ts) (suc k) d h e = none_at ts k d h (neither t.holds (any_no ts) e).1

module _ {R A : Type 0} (refuse : R → A) (a : A) where
  pub first_answers : (ts : List (No R)) (f : First ts) → first_no refuse ts a ≡ refuse f.test.why
  first_answers ts f = ap (λ (l : List (No R)). first_no refuse l a) f.is ∙ go f.before f.none_before
    where
      go : (before : List (No R)) → any_no before ≡ false
          → first_no refuse (before ++ (f.test ∷ f.after)) a ≡ refuse f.test.why
      go [] e = ap (λ (b : Bool). pick b (refuse f.test.why) (first_no refuse f.after a)) f.holds
      go (s ∷ before) e =
          let n = neither s.holds (any_no before) e in
          ap (λ (b : Bool). pick b (refuse s.why) (first_no refuse (before ++ (f.test ∷ f.after)) a)) n.0
          ∙ go before n.1

  pub none_accepts : (ts : List (No R)) → any_no ts ≡ false → first_no refuse ts a ≡ a
  none_accepts [] e = refl
  none_accepts (t ∷ ts) e =
      let n = neither t.holds (any_no ts) e in
      ap (λ (b : Bool). pick b (refuse t.why) (first_no refuse ts a)) n.0 ∙ none_accepts ts n.1

-- an answer taken on is the first of the answers taken on
pub first_map : {R A B : Type 0} (f : A → B) (refuse : R → A) (ts : List (No R)) (a : A)
    → f (first_no refuse ts a) ≡ first_no (λ w. f (refuse w)) ts (f a)
first_map f refuse [] a = refl
first_map {B = B} f refuse (t ∷ ts) a = go t.holds (first_map f refuse ts a)
  where
    go : (b : Bool) {y : B} → f (first_no refuse ts a) ≡ y
        → f (pick b (refuse t.why) (first_no refuse ts a)) ≡ pick b (f (refuse t.why)) y
    go true e = refl
    go false e = e

-- tests behind others are the answer where none of those holds
pub first_append : {R A : Type 0} (refuse : R → A) (xs ys : List (No R)) (a : A)
    → first_no refuse xs (first_no refuse ys a) ≡ first_no refuse (xs ++ ys) a
first_append refuse [] ys a = refl
first_append refuse (t ∷ xs) ys a = ap (pick t.holds (refuse t.why)) (first_append refuse xs ys a)

-- the same tests, each with what it says in other words
pub first_said : {R S A : Type 0} (said : R → S) (refuse : S → A) (ts : List (No R)) (a : A)
    → first_no (λ w. refuse (said w)) ts a ≡ first_no refuse (in_words said ts) a
first_said said refuse [] a = refl
first_said said refuse (t ∷ ts) a = ap (pick t.holds (refuse (said t.why))) (first_said said refuse ts a)

-- where the answer is one that no refusal gives, none of the tests holds
pub none_if : {R A : Type 0} (taken : A → Bool) (refuse : R → A) → ((w : R) → taken (refuse w) ≡ false)
    → (ts : List (No R)) (a : A) → taken (first_no refuse ts a) ≡ true → any_no ts ≡ false
none_if taken refuse no-refusal ts a e = go (none_or_first ts)
  where
    go : (any_no ts ≡ false) ⊎ First ts → any_no ts ≡ false
    go (inl n) = n
    go (inr f) = false≢true (sym (no-refusal f.test.why) ∙ ap taken (sym (first_answers refuse a ts f)) ∙ e)

-- a refusal that was given is the first's that holds, where no refusal is the accepted answer and no two are one
pub given_first : {R A : Type 0} (refuse : R → A) (ts : List (No R)) (a : A) → ((v w : R) → refuse v ≡ refuse w → v ≡ w)
    → ((w : R) → a ≡ refuse w → ⊥) → (w : R) → first_no refuse ts a ≡ refuse w → (f : First ts) × (f.test.why ≡ w)
given_first refuse ts a one apart w e = go (none_or_first ts)
  where
    go : (any_no ts ≡ false) ⊎ First ts → (f : First ts) × (f.test.why ≡ w)
    go (inl n) = absurd (apart w (sym (none_accepts refuse a ts n) ∙ e))
    go (inr f) = (f, one f.test.why w (sym (first_answers refuse a ts f) ∙ e))
