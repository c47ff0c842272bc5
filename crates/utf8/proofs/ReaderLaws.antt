-- The reader's steps: what follows a first byte, a byte inside a character, and the loop.
use mathlib.Core.Bool.{Bool, true, false}
use mathlib.Core.Path.{◌≡◌, refl, sym, ap, ap₂, ◌∙◌}
use mathlib.Core.Logic.{◌⊎◌, inl, inr}
use mathlib.Core.List.{List, [], ◌∷◌}
use Prim.Native.Nat.{ℕ, zero, suc, ◌+◌, ◌-◌, ◌<◌, ◌≤◌}
use native.Mathlib.Nat.{eq-or-lt_of_le}
use native.Mathlib.Numerals.{add-one}
use native.Mathlib.Omega.{arith}
use lib.Dec.{eqb}
use lib.ListN.{get_or, length, drop, drop_of_length-le}
use lib.Seq.{drop-cons}
use borrow.Author.Tests.{le-leb, lt-leb, eqb-true}
use Rattle.facts.specs.Choice.{both}
use Rattle.facts.proofs.ChoiceLaws.{false≢true, both_left, both_right}
use Rattle.utf8.specs.Utf8.{Range, range, chars, Next, never, asks, begun, after, done, reads, is_utf8, pending}
use Rattle.utf8.specs.declared.State.TheVariants.{Tail}

-- ---- equality as a test, sound

same_range : Range → Range → Bool
same_range a b = both (eqb a.lo b.lo) (eqb a.hi b.hi)

same_range_lem : (a b : Range) → same_range a b ≡ true → a ≡ b
unfolding same_range
same_range_lem a b e =
    ap₂ range (eqb-true _ _ (both_left (eqb a.lo b.lo) _ e)) (eqb-true _ _ (both_right (eqb a.lo b.lo) _ e))

same_ranges : List Range → List Range → Bool
same_ranges [] [] = true
same_ranges [] (b ∷ ys) = false
same_ranges (a ∷ xs) [] = false
same_ranges (a ∷ xs) (b ∷ ys) = both (same_range a b) (same_ranges xs ys)

same_ranges_lem : (a b : List Range) → same_ranges a b ≡ true → a ≡ b
unfolding same_ranges
same_ranges_lem [] [] e = refl
same_ranges_lem [] (b ∷ ys) e = false≢true e
same_ranges_lem (a ∷ xs) [] e = false≢true e
same_ranges_lem (a ∷ xs) (b ∷ ys) e =
    ap₂ (λ (x : Range) (l : List Range). x ∷ l)
    (same_range_lem a b (both_left (same_range a b) (same_ranges xs ys) e))
    (same_ranges_lem xs ys (both_right (same_range a b) (same_ranges xs ys) e))

same_next_lem : Next → Next → Bool
unfolding same_ranges same_range
same_next_lem never never = true
same_next_lem never (asks b) = false
same_next_lem (asks a) never = false
same_next_lem (asks a) (asks b) = same_ranges a b

same_next : (a b : Next) → same_next_lem a b ≡ true → a ≡ b
unfolding same_next_lem
same_next never never e = refl
same_next never (asks b) e = false≢true e
same_next (asks a) never e = false≢true e
same_next (asks a) (asks b) e = ap asks (same_ranges_lem a b e)

-- ---- the first byte: m follows each of the k bytes from a on, which antt computes

unfoldable pub run : Next → ℕ → ℕ → Bool
unfolding same_next_lem begun chars
run m a zero = true
run m a (suc k) = both (same_next_lem m (begun chars a)) (run m (suc a) k)

pub segment : (m : Next) (a k : ℕ) → run m a k ≡ true → (b : ℕ) → a ≤ b → b < a + k → m ≡ begun chars b
unfolding run
segment m a zero e b l h = absurd (omega arith)
segment m a (suc k) e b l h =
    go (eq-or-lt_of_le l) (λ f. segment m (suc a) k (both_right (same_next_lem m (begun chars a)) (run m (suc a) k) e) b f (omega arith))
  where
    go : (a ≡ b) ⊎ (a < b) → (a < b → m ≡ begun chars b) → m ≡ begun chars b
    go (inl q) r =
        same_next m (begun chars a) (both_left (same_next_lem m (begun chars a)) (run m (suc a) k) e) ∙ ap (begun chars) q
    go (inr q) r = r q

-- ---- a byte inside a character

pub below : (l h m b : ℕ) → b < l → never ≡ after (pending (Tail l h m)) b
unfolding after
below l h m b e = rw (lt-leb l b e)

pub above : (l h m b : ℕ) → l ≤ b → h < b → never ≡ after (pending (Tail l h m)) b
unfolding after
above l h m b e f = rw (le-leb l b e, lt-leb b h f)

pub last : (l h m b : ℕ) → l ≤ b → b ≤ h → m ≡ 0 → asks [] ≡ after (pending (Tail l h m)) b
unfolding after
last l h m b e f z = rw (le-leb l b e, le-leb b h f, z)

pub inner : (l h m b : ℕ) → l ≤ b → b ≤ h → (m ≡ 0 → ⊥) → pending (Tail 0x80 0xBF (m - 1)) ≡ after (pending (Tail l h m)) b
unfolding after
inner l h zero b e f z = absurd (z refl)
inner l h (suc m) b e f z =
    let p : suc m - 1 ≡ m = omega arith in
    rw (le-leb l b e, le-leb b h f, p)

-- ---- the loop

pub starts : (s : List ℕ) → is_utf8 s ≡ reads (asks []) (drop 0 s)
unfolding is_utf8
starts s = refl

pub goes_on : (s : List ℕ) (i : ℕ) (n : Next) {m : Next} → i < length s → is_utf8 s ≡ reads n (drop i s) → m ≡ after n (get_or s i 0)
    → is_utf8 s ≡ reads m (drop (i + 1) s)
unfolding reads
goes_on s i n {m} h v e =
    v ∙ ap (reads n) (drop-cons s i 0 h) ∙ ap (λ (k : Next). reads k (drop (suc i) s)) (sym e) ∙ rw add-one

pub ends : (s : List ℕ) (i : ℕ) (n : Next) {r : Bool} → length s ≤ i → is_utf8 s ≡ reads n (drop i s) → r ≡ done n → r ≡ is_utf8 s
unfolding reads
ends s i n {r} h v e = sym (v ∙ ap (reads n) (drop_of_length-le s {i = i} h) ∙ sym e)
