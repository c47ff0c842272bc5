-- What a Rust expression comes to, in the machine arithmetic of its types: a value, or a panic. A sum or a product of a u8 or a
-- u16 with a bank's size stays far below 2^64, so on usize they are the plain ones.
use Rattle.std.specs.Prelude.{Bool, true, false, List, [], ◌∷◌, ℕ, ◌+◌, ◌-◌, ◌*◌, ◌/◌, ◌%◌, ◌^◌, eqb, ltb, leb, length, get_or, set, take, drop}
use Rattle.std.specs.Int.Count.{ones, count_leading_zeros}
use Rattle.facts.specs.Choice.{pick, both}

pub data Outcome (A : Type 0) : Type 0 where
  ok : A → Outcome A
  panic : Outcome A

-- what follows, unless there was a panic
abbrev pub bind : {A B : Type 0} → Outcome A → (A → Outcome B) → Outcome B
bind (ok a) f = f a
bind panic f = panic

-- `assert!(t);` and the rest
abbrev pub assert : {A : Type 0} → Bool → Outcome A → Outcome A
assert true rest = rest
assert false rest = panic

-- `a % b`
abbrev pub rem : ℕ → ℕ → Outcome ℕ
rem a b = pick (eqb b 0) panic (ok (a % b))

-- `a / b`
abbrev pub div : ℕ → ℕ → Outcome ℕ
div a b = pick (eqb b 0) panic (ok (a / b))

-- `s[i]`
abbrev pub index : List ℕ → ℕ → Outcome ℕ
index s i = pick (ltb i (length s)) (ok (get_or s i 0)) panic

-- `s[i] = v;`
abbrev pub store : List ℕ → ℕ → ℕ → Outcome (List ℕ)
store s i v = pick (ltb i (length s)) (ok (set s i v)) panic

-- `s[a..=b]`, of a not above b
abbrev pub slice : List ℕ → ℕ → ℕ → Outcome (List ℕ)
slice s a b = pick (ltb b (length s)) (ok (take (b + 1 - a) (drop a s))) panic

-- `s == t`
abbrev pub same : List ℕ → List ℕ → Bool
same [] [] = true
same [] (y ∷ t) = false
same (x ∷ s) [] = false
same (x ∷ s) (y ∷ t) = both (eqb x y) (same s t)

-- `s.take_while(t)`
abbrev pub take_while : (ℕ → Bool) → List ℕ → List ℕ
take_while t [] = []
take_while t (x ∷ s) = pick (t x) (x ∷ take_while t s) []

-- an arm `low..=high` of a match on a number
abbrev pub within : ℕ → ℕ → ℕ → Bool
within low high a = both (leb low a) (leb a high)

-- `a as u8`, `a as u16`
abbrev pub as_u8 : ℕ → ℕ
as_u8 a = a % 256

abbrev pub as_u16 : ℕ → ℕ
as_u16 a = a % 65536

-- `a << k` on a u8, on a u16 and on a usize: what passes the last bit is dropped
abbrev pub shl_u8 : ℕ → ℕ → ℕ
shl_u8 a k = a * 2 ^ k % 256

abbrev pub shl_u16 : ℕ → ℕ → ℕ
shl_u16 a k = a * 2 ^ k % 65536

abbrev pub shl_usize : ℕ → ℕ → ℕ
shl_usize a k = a * 2 ^ k % 18446744073709551616

-- `a >> k`
abbrev pub shr : ℕ → ℕ → ℕ
shr a k = a / 2 ^ k

-- the values of a u8, a u32 and a u64
abbrev pub u8 : ℕ
u8 = 256

abbrev pub u32 : ℕ
u32 = 4294967296

abbrev pub u64 : ℕ
u64 = 18446744073709551616

-- `a + b` in a word of w values: a sum that does not fit is a panic
abbrev pub add_in : ℕ → ℕ → ℕ → Outcome ℕ
add_in w a b = pick (ltb (a + b) w) (ok (a + b)) panic

-- `a - b`: below zero is a panic
abbrev pub sub : ℕ → ℕ → Outcome ℕ
sub a b = pick (ltb a b) panic (ok (a - b))

-- `if let Some(d) = a.checked_sub(b) { some(d) } else { none }`
abbrev pub checked_sub : {A : Type 0} → ℕ → ℕ → (ℕ → A) → A → A
checked_sub a b some none = pick (ltb a b) none (some (a - b))

-- `a.wrapping_add(b)` on a u64
abbrev pub wrapping_add_u64 : ℕ → ℕ → ℕ
wrapping_add_u64 a b = (a + b) % u64

-- `a.wrapping_sub(b)` on a u8
abbrev pub wrapping_sub : ℕ → ℕ → ℕ
wrapping_sub a b = (a + (256 - b)) % 256

-- `a.is_multiple_of(b)`: of 0 only 0 is
abbrev pub is_multiple_of : ℕ → ℕ → Bool
is_multiple_of a b = pick (eqb b 0) (eqb a 0) (eqb (a % b) 0)

-- `a.is_power_of_two()`: one bit is set, and no other
abbrev pub is_power_of_two : ℕ → Bool
is_power_of_two a = eqb (ones a) 1

-- `a.ilog2()` on a usize: the place of the highest bit set, a panic where there is none
abbrev pub ilog2 : ℕ → Outcome ℕ
ilog2 a = pick (eqb a 0) panic (ok (63 - count_leading_zeros 64 a))
