-- The digits of a number: how many they are, that they say it, and that decimal ones are `0` to `9`.
use mathlib.Core.Bool.{Bool, true, false}
use mathlib.Core.List.{List, [], ◌∷◌, ◌++◌}
use mathlib.Core.Logic.{◌⊎◌, inl, inr}
use mathlib.Core.Path.{◌≡◌, refl, sym, ap, ◌∙◌, subst}
use Prim.Native.Nat.{ℕ, zero, suc, ◌+◌, ◌-◌, ◌*◌, ◌/◌, ◌%◌, ◌^◌, ◌<◌, ◌≤◌, max}
use native.Mathlib.Nat.{div-lt_iff_lt-mul, div-add-mod', pow-suc, pow-zero, pow-le-pow_right}
use native.Mathlib.Omega.{arith}
use lib.Dec.{ltb}
use lib.ListN.{length, length-append}
use borrow.Author.Tests.{ltb-true, ltb-false, lt-ltb, le-ltb}
use Rattle.std.proofs.lemmas.Bool.{cases_lt}
use Rattle.facts.specs.Choice.{pick}
use Rattle.facts.proofs.ChoiceLaws.{pick_cases}
use Rattle.digits.specs.Digits.{
  figure_of,
  digits_of,
  width_in,
  width_of,
  hex_of,
  decimal_of,
  digit_of,
  value_from,
  value_of,
  Decimals,
}

-- ---- a figure

pub figure_low : (d : ℕ) → d < 10 → figure_of d ≡ 48 + d
unfolding figure_of
figure_low d h = ap (λ (t : Bool). pick t (48 + d) (55 + d)) (lt-ltb d 10 h)

pub figure_high : (d : ℕ) → 10 ≤ d → figure_of d ≡ 55 + d
unfolding figure_of
figure_high d h = ap (λ (t : Bool). pick t (48 + d) (55 + d)) (le-ltb d 10 h)

figure_back : (d : ℕ) → digit_of (figure_of d) ≡ d
unfolding figure_of digit_of
figure_back d =
    pick_cases (λ (c : ℕ). digit_of c ≡ d) (ltb d 10)
    (λ e. let h = ltb-true d 10 e in
    ap (λ (t : Bool). pick t (48 + d - 48) (48 + d - 55)) (lt-ltb (48 + d) 58 (omega arith)) ∙ omega arith)
    (λ e. let h = ltb-false d 10 e in
    ap (λ (t : Bool). pick t (55 + d - 48) (55 + d - 55)) (le-ltb (55 + d) 58 (omega arith)) ∙ omega arith)

-- ---- the digits in a base

pub length_digits : (b k n : ℕ) → length (digits_of b k n) ≡ k
unfolding digits_of
length_digits b zero n = refl
length_digits b (suc k) n =
    length-append (digits_of b k (n / b)) (figure_of (n % b) ∷ []) ∙ omega (arith, length_digits b k (n / b))

value_last : (b n : ℕ) (cs : List ℕ) (c : ℕ) → value_from b n (cs ++ (c ∷ [])) ≡ value_from b n cs * b + digit_of c
unfolding value_from
value_last b n [] c = refl
value_last b n (d ∷ cs) c = value_last b (n * b + digit_of d) cs c

-- Read back, k digits in base b say the number that b ^ k can hold.
pub value_digits : (b k n : ℕ) → 0 < b → n < b ^ k → value_of b (digits_of b k n) ≡ n
unfolding value_of digits_of value_from
value_digits b zero n pos h = let e = pow-zero b in omega arith
value_digits b (suc k) n pos h =
    let l : n / b < b ^ k = (div-lt_iff_lt-mul pos).1 (subst (λ (x : ℕ). n < x) (pow-suc b k) h) in
    value_last b 0 (digits_of b k (n / b)) (figure_of (n % b))
    ∙ ap (λ (x : ℕ). x * b + digit_of (figure_of (n % b))) (value_digits b k (n / b) pos l)
    ∙ ap (λ (x : ℕ). n / b * b + x) (figure_back (n % b))
    ∙ div-add-mod' n b

-- ---- how many decimal digits

width_in_lem : (f g n : ℕ) → n ≤ f → n ≤ g → width_in f n ≡ width_in g n
unfolding width_in
width_in_lem zero zero n h l = refl
width_in_lem zero (suc g) n h l = sym (ap (λ (t : Bool). pick t 1 (suc (width_in g (n / 10)))) (lt-ltb n 10 (omega arith)))
width_in_lem (suc f) zero n h l = ap (λ (t : Bool). pick t 1 (suc (width_in f (n / 10)))) (lt-ltb n 10 (omega arith))
width_in_lem (suc f) (suc g) n h l = go (ltb n 10) refl (width_in_lem f g (n / 10))
  where
    go : (t : Bool) → ltb n 10 ≡ t → (n / 10 ≤ f → n / 10 ≤ g → width_in f (n / 10) ≡ width_in g (n / 10))
        → pick t 1 (suc (width_in f (n / 10))) ≡ pick t 1 (suc (width_in g (n / 10)))
    go true e r = refl
    go false e r = ap suc (r (omega arith) (omega arith))

width_by : (n : ℕ) → width_of n ≡ pick (ltb n 10) 1 (suc (width_of (n / 10)))
unfolding width_of width_in
width_by zero = refl
width_by (suc n) = go (ltb (suc n) 10)
  where
    go : (t : Bool) → pick t 1 (suc (width_in n (suc n / 10))) ≡ pick t 1 (suc (width_in (suc n / 10) (suc n / 10)))
    go true = refl
    go false = ap suc (width_in_lem n (suc n / 10) (suc n / 10) (omega arith) (omega arith))

pub width_one : (n : ℕ) → n < 10 → width_of n ≡ 1
width_one n h = width_by n ∙ ap (λ (t : Bool). pick t 1 (suc (width_of (n / 10)))) (lt-ltb n 10 h)

-- enough to hold the number
holds_in : (f n : ℕ) → n ≤ f → n < 10 ^ width_in f n
unfolding width_in
holds_in zero n h = let e = pow-suc 10 0 in let z = pow-zero 10 in omega arith
holds_in (suc f) n h =
    pick_cases (λ (w : ℕ). n < 10 ^ w) (ltb n 10)
    (λ e. let l = ltb-true n 10 e in let p = pow-suc 10 0 in let z = pow-zero 10 in omega arith)
    (λ e. let l = ltb-false n 10 e in omega (arith, pow-suc 10 (width_in f (n / 10)), holds_in f (n / 10) (omega arith)))

pub width_holds : (n : ℕ) → n < 10 ^ width_of n
unfolding width_of
width_holds n = holds_in n n (omega arith)

-- and no more, but for the one digit of 0
pub width_fewest : (k n : ℕ) → n < 10 ^ suc k → width_of n ≤ suc k
width_fewest zero n h =
    let p = pow-suc 10 0 in let z = pow-zero 10 in omega (arith, width_one n (omega arith))
width_fewest (suc k) n h =
    subst (λ (w : ℕ). w ≤ suc (suc k)) (sym (width_by n))
    (pick_cases (λ (w : ℕ). w ≤ suc (suc k)) (ltb n 10) (λ e. omega arith)
    (λ e. omega (arith, width_fewest k (n / 10) (omega (arith, pow-suc 10 (suc k))))))

-- 0 has as many digits as 1
width_least : (n : ℕ) → width_of (max n 1) ≡ width_of n
width_least zero = width_one 1 (omega arith) ∙ sym (width_one 0 (omega arith))
width_least (suc n) = let e : max (suc n) 1 ≡ suc n = omega arith in ap width_of e

-- the digits of a number between two powers of ten
pub width_between : (k n : ℕ) {m : ℕ} → m ≡ max n 1 → 10 ^ k ≤ m → m < 10 * 10 ^ k → k + 1 ≡ width_of n
width_between k n {m} e l h =
    let w : width_of m ≡ width_of n = ap width_of e ∙ width_least n in
    go (cases_lt k (width_of m)) w
  where
    most : width_of m ≤ suc k
    most = width_fewest k m (omega (arith, pow-suc 10 k))

    go : (k < width_of m) ⊎ (width_of m ≤ k) → width_of m ≡ width_of n → k + 1 ≡ width_of n
    go (inl f) w = omega (arith, most)
    go (inr f) w =
        let p : 10 ^ width_of m ≤ 10 ^ k = pow-le-pow_right (omega arith) f in
        absurd (omega (arith, width_holds m))

pub width_pos : (n : ℕ) → 0 < width_of n
width_pos n =
    subst (λ (w : ℕ). 0 < w) (sym (width_by n))
    (pick_cases (λ (w : ℕ). 0 < w) (ltb n 10) (λ e. omega arith) (λ e. omega arith))

-- ---- the decimal digits of a number

pub length_decimal : (n : ℕ) → length (decimal_of n) ≡ width_of n
unfolding decimal_of
length_decimal n = length_digits 10 (width_of n) n

-- Read back, they say the number.
pub value_decimal : (n : ℕ) → value_of 10 (decimal_of n) ≡ n
unfolding decimal_of
value_decimal n = value_digits 10 (width_of n) n (omega arith) (width_holds n)

-- a number below 10 ^ k has at most k of them, where k is not 0
pub length_decimal_le : (k n : ℕ) → n < 10 ^ suc k → length (decimal_of n) ≤ suc k
length_decimal_le k n h = omega (arith, length_decimal n, width_fewest k n h)

pub length_decimal_8 : (n : ℕ) → n < 256 → length (decimal_of n) ≤ 3
length_decimal_8 n h = length_decimal_le 2 n (omega (arith, h))

pub length_decimal_32 : (n : ℕ) → n < 4294967296 → length (decimal_of n) ≤ 10
length_decimal_32 n h = length_decimal_le 9 n (omega (arith, h))

pub length_decimal_64 : (n : ℕ) → n < 18446744073709551616 → length (decimal_of n) ≤ 20
length_decimal_64 n h = length_decimal_le 19 n (omega (arith, h))

decimals_last : (cs : List ℕ) (d : ℕ) → d < 10 → Decimals cs → Decimals (cs ++ (figure_of d ∷ []))
decimals_last [] d h p = let e = figure_low d h in (omega arith, omega arith, tt)
decimals_last (c ∷ cs) d h p = (p.0, p.1, decimals_last cs d h p.2)

decimals_digits : (k n : ℕ) → Decimals (digits_of 10 k n)
unfolding digits_of
decimals_digits zero n = tt
decimals_digits (suc k) n = decimals_last (digits_of 10 k (n / 10)) (n % 10) (omega arith) (decimals_digits k (n / 10))

-- each is one of `0` to `9`
pub decimals : (n : ℕ) → Decimals (decimal_of n)
unfolding decimal_of
decimals n = decimals_digits (width_of n) n

-- ---- the hexadecimal digits

pub length_hex : (k n : ℕ) → length (hex_of k n) ≡ k
unfolding hex_of
length_hex k n = length_digits 16 k n

pub value_hex : (k n : ℕ) → n < 16 ^ k → value_of 16 (hex_of k n) ≡ n
unfolding hex_of
value_hex k n h = value_digits 16 k n (omega arith) h
