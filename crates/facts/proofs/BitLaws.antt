-- Masks and joined bits: what shifts, masks and ors of the code come to in numbers.
use mathlib.Core.Bool.{Bool, true, false, not}
use mathlib.Core.Path.{◌≡◌, refl, ap, ◌∙◌}
use Prim.Native.Nat.{ℕ, zero, suc, ◌+◌, ◌-◌, ◌*◌, ◌/◌, ◌%◌, ◌^◌, ◌<◌, ◌≤◌}
use native.Mathlib.Nat.{zero-mul, one-mul}
use native.Mathlib.Omega.{arith}
use lib.Dec.{eqb}
use lib.Bits.{bit_and, bit_or, and_high, or_shifted, or_shifted_r}
use lib.Pow.{shl_exact, pow_pos}
use borrow.Author.Tests.{ne_eqb}
use mir.Val.{bool_byte}
use Rattle.facts.specs.Choice.{bit}

-- a number of j bits shifted above one of k bits, joined by or, in a word of w bits
pub join_below : (j k w : ℕ) {a b : ℕ} → a < 2 ^ j → b < 2 ^ k → j + k ≤ w
    → bit_or ((a * 2 ^ k) % 2 ^ w) b ≡ a * 2 ^ k + b
join_below j k w {a} {b} ha hb h = ap (λ (x : ℕ). bit_or x b) (shl_exact j k w ha h) ∙ or_shifted a k b hb

pub join_above : (j k w : ℕ) {a b : ℕ} → a < 2 ^ j → b < 2 ^ k → j + k ≤ w
    → bit_or b ((a * 2 ^ k) % 2 ^ w) ≡ a * 2 ^ k + b
join_above j k w {a} {b} ha hb h = ap (λ (x : ℕ). bit_or b x) (shl_exact j k w ha h) ∙ or_shifted_r a k b hb

-- a flag as a byte is its bit
pub flag_byte : (a : Bool) → bool_byte a ≡ bit a
flag_byte true = refl
flag_byte false = refl

-- one bit of a number, by its mask
pub one_bit : (n k : ℕ) → bit_and n (2 ^ (1 + k) - 2 ^ k) ≡ n / 2 ^ k % 2 * 2 ^ k
one_bit n k = and_high n 1 k

-- and its test
product_test : (m x : ℕ) → 0 < m → x < 2 → not (eqb (x * m) 0) ≡ eqb x 1
product_test m zero p h = rw zero-mul
product_test m (suc zero) p h = rw (one-mul, ne_eqb m 0 (λ q. omega arith))
product_test m (suc (suc x)) p h = absurd (omega arith)

pub bit_test : (n k : ℕ) → not (eqb (bit_and n (2 ^ (1 + k) - 2 ^ k)) 0) ≡ eqb (n / 2 ^ k % 2) 1
bit_test n k = rw (one_bit n k) (product_test (2 ^ k) (n / 2 ^ k % 2) (pow_pos k) (omega arith))
