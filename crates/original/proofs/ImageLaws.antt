-- The image as the original reads it: extended it is our padded image, and its parts are the bytes that we test.
use mathlib.Core.Bool.{Bool, true, false, not}
use mathlib.Core.List.{List, [], ◌∷◌, ◌++◌, append-nil}
use mathlib.Core.Path.{◌≡◌, refl, sym, ap, ap₂, ◌∙◌}
use Prim.Native.Nat.{ℕ, zero, suc, ◌+◌, ◌-◌, ◌*◌, ◌/◌, ◌%◌, ◌<◌, ◌≤◌, max}
use native.Mathlib.Nat.{add-zero, add-suc, suc-add}
use native.Mathlib.Omega.{arith}
use lib.Dec.{eqb, ltb}
use lib.ListN.{length, take, drop, replicate, length-append, length-replicate}
use lib.Seq.{drop-cons, take-nil, drop-nil}
use borrow.Author.Tests.{eqb-true, eqb-false, ltb-true, ltb-false}
use Rattle.facts.specs.Choice.{pick, both}
use Rattle.bytes_le.specs.Little.{Octets}
use Rattle.bytes_le.proofs.OctetLaws.{octets_at}
use Rattle.image.specs.Image.{byte_at, padded_length, logo, stands_at, logo_at, sum_from, checksum_of, up_to_zero, title_of}
use Rattle.image.proofs.ImageLaws.{left_all}
use Rattle.runs.specs.Padded.{padded}
use Rattle.runs.proofs.ImageLaws.{padded_length_lem, padded_byte}
use Rattle.original.specs.Machine.{ok, slice, index, same, take_while, wrapping_sub, is_multiple_of}
use Rattle.original.specs.Cartridge.{nintendo_logo_data, extended, checksum_from}
use Rattle.original.proofs.MachineLaws.{index_ok, slice_ok}

-- ---- the extension

whole_banks : (n : ℕ) → is_multiple_of n 0x4000 ≡ eqb (n % 0x4000) 0
whole_banks n = refl

-- in the second step: up to a multiple of 0x4000
rounded : (s : List ℕ) → 0x8000 ≤ length s
    → pick (not (is_multiple_of (length s) 0x4000)) (s ++ replicate (0x4000 - length s % 0x4000) 0) s ≡ padded s
unfolding padded padded_length
rounded s h = go (eqb (length s % 0x4000) 0) refl
  where
    go : (t : Bool) → eqb (length s % 0x4000) 0 ≡ t
        → pick (not t) (s ++ replicate (0x4000 - length s % 0x4000) 0) s
        ≡ s ++ replicate (max 0x8000 ((length s + 0x3FFF) / 0x4000 * 0x4000) - length s) 0
    go true e =
        let m : length s % 0x4000 ≡ 0 = eqb-true _ _ e in
        let none : max 0x8000 ((length s + 0x3FFF) / 0x4000 * 0x4000) - length s ≡ 0 = omega arith in
        sym (ap (λ (k : ℕ). s ++ replicate k 0) none ∙ append-nil s)
    go false e =
        let d = eqb-false (length s % 0x4000) 0 e in
        let some : 0x4000 - length s % 0x4000 ≡ max 0x8000 ((length s + 0x3FFF) / 0x4000 * 0x4000) - length s = omega
        (arith, d) in
        ap (λ (k : ℕ). s ++ replicate k 0) some

short : (s : List ℕ) → length s < 0x8000 → s ++ replicate (0x8000 - length s) 0 ≡ padded s
unfolding padded padded_length
short s h =
    let k : 0x8000 - length s ≡ max 0x8000 ((length s + 0x3FFF) / 0x4000 * 0x4000) - length s = omega arith in
    ap (λ (k : ℕ). s ++ replicate k 0) k

short_long : (s : List ℕ) → length s < 0x8000 → length (s ++ replicate (0x8000 - length s) 0) ≡ 0x8000
short_long s h = length-append s _ ∙ ap (λ (k : ℕ). length s + k) (length-replicate (0x8000 - length s) 0) ∙ omega arith

pub extended_same : (s : List ℕ) → extended s ≡ padded s
unfolding extended
extended_same s = go (ltb (length s) 0x8000) refl
  where
    second : List ℕ → List ℕ
    second long = pick (not (is_multiple_of (length long) 0x4000)) (long ++ replicate (0x4000 - length long % 0x4000) 0) long

    go : (t : Bool) → ltb (length s) 0x8000 ≡ t
        → second (pick t (s ++ replicate (0x8000 - length s) 0) s) ≡ padded s
    go true e =
        let h = ltb-true (length s) 0x8000 e in
        let long = s ++ replicate (0x8000 - length s) 0 in
        ap (λ (k : ℕ). pick (not (is_multiple_of k 0x4000)) (long ++ replicate (0x4000 - length long % 0x4000) 0) long)
        (short_long s h)
        ∙ short s h
    go false e = rounded s (ltb-false (length s) 0x8000 e)

pub at_least : (s : List ℕ) → 0x8000 ≤ length (padded s)
unfolding padded_length
at_least s = omega (arith, padded_length_lem s)

-- ---- a part of it

-- the n bytes from place a on
unfoldable pub part : List ℕ → ℕ → ℕ → List ℕ
part s zero a = []
part s (suc n) a = byte_at s a ∷ part s n (suc a)

taken_part : (s : List ℕ) (n a : ℕ) → a + n ≤ length (padded s) → take n (drop a (padded s)) ≡ part s n a
unfolding part
taken_part s zero a h = refl
taken_part s (suc n) a h =
    ap (take (suc n)) (drop-cons (padded s) a 0 (omega arith))
    ∙ ap₂ (λ (x : ℕ) (l : List ℕ). x ∷ l) (padded_byte s a) (taken_part s n (suc a) (omega arith))

pub slice_part : (s : List ℕ) (a n : ℕ) → a + n < length (padded s) → slice (padded s) a (a + n) ≡ ok (part s (suc n) a)
slice_part s a n h =
    let k : a + n + 1 - a ≡ suc n = omega arith in
    slice_ok (padded s) a (a + n) h ∙ ap (λ (i : ℕ). ok (take i (drop a (padded s)))) k
    ∙ ap ok (taken_part s (suc n) a (omega arith))

pub index_byte : (s : List ℕ) (i : ℕ) → i < 0x8000 → index (padded s) i ≡ ok (byte_at s i)
index_byte s i h = index_ok (padded s) i (omega (arith, at_least s)) ∙ ap ok (padded_byte s i)

-- ---- the logo

stands : (l s : List ℕ) (a : ℕ) → same (part s (length l) a) l ≡ stands_at l s a
unfolding part stands_at
stands [] s a = refl
stands (x ∷ l) s a = ap (both (eqb (byte_at s a) x)) (stands l s (suc a))

same_data : nintendo_logo_data ≡ logo
unfolding nintendo_logo_data logo
same_data = refl

logo_long : length logo ≡ 48
unfolding logo
logo_long = refl

pub logo_same : (s : List ℕ) (a : ℕ) → same (part s 48 a) nintendo_logo_data ≡ logo_at s a
unfolding logo_at
logo_same s a =
    ap (same (part s 48 a)) same_data ∙ ap (λ (n : ℕ). same (part s n a) logo) (sym logo_long) ∙ stands logo s a

-- ---- the title

up_to_zero_lem : (l : List ℕ) → take_while (λ e. not (eqb e 0)) l ≡ up_to_zero l
unfolding up_to_zero
up_to_zero_lem [] = refl
up_to_zero_lem (x ∷ l) = go (eqb x 0) (up_to_zero_lem l)
  where
    go : (t : Bool) {y z : List ℕ} → y ≡ z → pick (not t) (x ∷ y) [] ≡ pick t [] (x ∷ z)
    go true e = refl
    go false e = ap (λ (l : List ℕ). x ∷ l) e

-- the zeros of the padding end it
zeros : (n d k : ℕ) → up_to_zero (take n (drop d (replicate k 0))) ≡ []
unfolding up_to_zero
zeros zero d k = refl
zeros (suc n) d zero = ap (λ (l : List ℕ). up_to_zero (take (suc n) l)) (drop-nil d)
zeros (suc n) zero (suc k) = refl
zeros (suc n) (suc d) (suc k) = zeros (suc n) d k

before_zeros : (n : ℕ) (s : List ℕ) (k : ℕ) → up_to_zero (take n (s ++ replicate k 0)) ≡ up_to_zero (take n s)
unfolding up_to_zero
before_zeros n [] k = zeros n 0 k ∙ sym (ap up_to_zero (take-nil n))
before_zeros zero (x ∷ s) k = refl
before_zeros (suc n) (x ∷ s) k = ap (λ (l : List ℕ). pick (eqb x 0) [] (x ∷ l)) (before_zeros n s k)

dropped : (n d : ℕ) (s : List ℕ) (k : ℕ) → up_to_zero (take n (drop d (s ++ replicate k 0))) ≡ up_to_zero (take n (drop d s))
unfolding up_to_zero
dropped n zero s k = before_zeros n s k
dropped n (suc d) [] k = zeros n (suc d) k ∙ sym (ap up_to_zero (take-nil n))
dropped n (suc d) (x ∷ s) k = dropped n d s k

pub title_same : (s : List ℕ) → take_while (λ e. not (eqb e 0)) (take 15 (drop 0x134 (padded s))) ≡ title_of s
unfolding title_of padded
title_same s = up_to_zero_lem (take 15 (drop 0x134 (padded s))) ∙ dropped 15 0x134 s (padded_length (length s) - length s)

-- ---- the checksum

-- the sum from the front
sum_front : (s : List ℕ) (a n : ℕ) → sum_from s a (suc n) ≡ byte_at s a + sum_from s (suc a) n
unfolding sum_from
sum_front s a zero = ap (λ (i : ℕ). 0 + byte_at s i) (add-zero a) ∙ omega arith
sum_front s a (suc n) =
    ap (λ (x : ℕ). x + byte_at s (a + suc n)) (sum_front s a n)
    ∙ ap (λ (i : ℕ). byte_at s a + sum_from s (suc a) n + byte_at s i) (add-suc a n ∙ sym (suc-add a n)) ∙ omega arith

sum_lt : (l : List ℕ) (c : ℕ) → c < 256 → checksum_from c l < 256
unfolding checksum_from
sum_lt [] c h = h
sum_lt (x ∷ l) c h = sum_lt l (wrapping_sub (wrapping_sub c x) 1) (omega arith)

back : (c b : ℕ) → b < 256 → (wrapping_sub c b + b) % 256 ≡ c % 256
back c b h = omega arith

turn : (y z b c : ℕ) → y % 256 ≡ z % 256 → (z + b) % 256 ≡ c % 256 → (y + b) % 256 ≡ c % 256
turn y z b c p q = omega arith

joined : (x t b c d e : ℕ) → (x + t) % 256 ≡ e % 256 → (e + 1) % 256 ≡ d % 256 → (d + b) % 256 ≡ c % 256
    → (x + (t + (b + 1))) % 256 ≡ c % 256
joined x t b c d e p q r =
    let i : x + (t + (b + 1)) ≡ x + t + 1 + b = omega arith in
    ap (λ (y : ℕ). y % 256) i ∙ turn (x + t + 1) d b c (turn (x + t) e 1 d p q) r

-- what is left of c, the bytes and their count make c again
sum_left : (s : List ℕ) (n a c : ℕ) → Octets s → (checksum_from c (part s n a) + (sum_from s a n + n)) % 256 ≡ c % 256
unfolding checksum_from part sum_from
sum_left s zero a c o = omega arith
sum_left s (suc n) a c o =
    let d = wrapping_sub (wrapping_sub c (byte_at s a)) 1 in
    let i : (checksum_from d (part s n (suc a)) + (sum_from s (suc a) n + n)) % 256 ≡ d % 256 = sum_left s n (suc a) d o in
    let e : sum_from s a (suc n) + suc n ≡ sum_from s (suc a) n + n + (byte_at s a + 1) = omega (arith, sum_front s a n) in
    ap (λ (y : ℕ). (checksum_from d (part s n (suc a)) + y) % 256) e
    ∙ joined (checksum_from d (part s n (suc a))) (sum_from s (suc a) n + n) (byte_at s a) c (wrapping_sub c (byte_at s a)) d i
    (back (wrapping_sub c (byte_at s a)) 1 (omega arith)) (back c (byte_at s a) (octets_at s o a))

pub sum_same : (s : List ℕ) → Octets s → checksum_from 0 (part s 25 0x134) ≡ checksum_of s
sum_same s o = left_all s (checksum_from 0 (part s 25 0x134)) 25 (sum_lt (part s 25 0x134) 0 (omega arith)) refl
    (sum_left s 25 0x134 0 o)
