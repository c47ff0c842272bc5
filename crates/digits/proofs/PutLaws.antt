-- Text put into room: one text behind the other, a text from its last byte on, and all of it.
use mathlib.Core.List.{List, [], ◌∷◌, ◌++◌, append_assoc}
use mathlib.Core.Path.{◌≡◌, refl, sym, ap, ◌∙◌}
use Prim.Native.Nat.{ℕ, suc, ◌+◌, ◌-◌, ◌/◌, ◌%◌, ◌≤◌, ◌<◌}
use native.Mathlib.Nat.{add-zero}
use native.Mathlib.Omega.{arith}
use lib.ListN.{length, set, drop, length-append}
use lib.Seq.{sets, sets-eq, length-sets, set_comm, drop-drop}
use borrow.Rule.Slice.PartMut.{put_mid}
use Rattle.facts.proofs.ChoiceLaws.{coincide}
use Rattle.bytes_le.proofs.Laws.{sets_join}
use Rattle.bytes_le.proofs.FieldLaws.{sets_front}
use Rattle.digits.specs.Digits.{figure_of, digits_of}
use Rattle.digits.specs.Put.{Put, Rest}
use Rattle.digits.proofs.Laws.{length_digits}

pub put_length : {s t xs : List ℕ} {at n : ℕ} → Put s at xs t n → length t ≡ length s
put_length {s} {t} {xs} {at} p = ap length p.is ∙ length-sets s at xs

-- any two that a text was put into so coincide
pub put_one : {s t u xs : List ℕ} {at i j : ℕ} → Put s at xs t i → Put s at xs u j → (t ≡ u) × (i ≡ j)
put_one p q = (coincide p.is q.is, coincide p.behind q.behind)

-- a text, and then another right behind it
pub put_then : {s t u xs ys : List ℕ} {at i j : ℕ} → Put s at xs t i → Put t i ys u j → Put s at (xs ++ ys) u j
put_then {s} {t} {u} {xs} {ys} {at} p q =
    record {
      is =
          q.is ∙ ap (λ (k : ℕ). sets t k ys) p.behind ∙ ap (λ (l : List ℕ). sets l (at + length xs) ys) p.is
          ∙ sets_join s at xs ys;
      behind = omega (arith, p.behind, q.behind, length-append xs ys);
    }

-- what is still to be put, after a part of it was, and after all of it was
pub put_part : {s t s₀ ys zs : List ℕ} {at i at₀ : ℕ} (xs : List ℕ) → Rest s at (xs ++ ys) s₀ at₀ zs → Put s at xs t i
    → Rest t i ys s₀ at₀ zs
put_part {s} {t} {ys = ys} {at = at} xs r p =
    record {
      is =
          ap (λ (k : ℕ). sets t k ys) p.behind ∙ ap (λ (l : List ℕ). sets l (at + length xs) ys) p.is
          ∙ sets_join s at xs ys ∙ r.is;
      behind = omega (arith, r.behind, p.behind, length-append xs ys);
    }

pub put_rest : {s t s₀ xs zs : List ℕ} {at i at₀ : ℕ} → Rest s at xs s₀ at₀ zs → Put s at xs t i → Put s₀ at₀ zs t i
put_rest r p = record { is = p.is ∙ r.is; behind = p.behind ∙ r.behind }

-- the bytes of a text from its last on
pub sets_last : (s : List ℕ) (at : ℕ) (xs : List ℕ) (c : ℕ) → sets (set s (at + length xs) c) at xs ≡ sets s at (xs ++ (c ∷ []))
sets_last s at [] c = ap (λ (k : ℕ). set s k c) (add-zero at)
sets_last s at (x ∷ xs) c =
    let e : at + suc (length xs) ≡ suc at + length xs = omega arith in
    ap (λ (l : List ℕ). sets l (suc at) xs) (set_comm s (at + suc (length xs)) at c x (λ q. omega arith))
    ∙ ap (λ (k : ℕ). sets (set (set s at x) k c) (suc at) xs) e
    ∙ sets_last (set s at x) (suc at) xs c

-- a text copied over the part of the room that it is put to
pub copied : (s : List ℕ) (at : ℕ) (xs : List ℕ) {t : List ℕ} → at + length xs ≤ length s → t ≡ xs
    → put_mid at (at + length xs - at) s t ≡ sets s at xs
copied s at xs h e =
    let n : at + length xs - at ≡ length xs = omega arith in
    rw (sets-eq xs s at h, e, n, drop-drop, append_assoc)

-- a text at the start of the room, and what stays behind it
pub put_front : {s t xs : List ℕ} {n : ℕ} → Put s 0 xs t n → length xs ≤ length s → t ≡ xs ++ drop (length xs) s
put_front {s} {t} {xs} p h = p.is ∙ sets_front xs s (length xs) refl h

-- ---- the digits of a number, from the last on

pub digits_none : (b i n : ℕ) (s : List ℕ) (at : ℕ) → i ≡ 0 → s ≡ sets s at (digits_of b i n)
unfolding digits_of
digits_none b i n s at e = ap (λ (k : ℕ). sets s at (digits_of b k n)) (sym e)

-- i is the place behind the digit that is written
pub digits_last : (b i n : ℕ) (s : List ℕ) (at : ℕ) {c : ℕ} → at < i → c ≡ figure_of (n % b)
    → sets (set s (i - 1) c) at (digits_of b (i - 1 - at) (n / b)) ≡ sets s at (digits_of b (i - at) n)
unfolding digits_of
digits_last b i n s at {c} h e =
    let ds = digits_of b (i - 1 - at) (n / b) in
    let p : at + length ds ≡ i - 1 = omega (arith, length_digits b (i - 1 - at) (n / b)) in
    let k : suc (i - 1 - at) ≡ i - at = omega arith in
    ap (λ (x : ℕ). sets (set s x c) at ds) (sym p) ∙ ap (λ (x : ℕ). sets (set s (at + length ds) x) at ds) e
    ∙ sets_last s at ds (figure_of (n % b)) ∙ ap (λ (x : ℕ). sets s at (digits_of b x n)) k
