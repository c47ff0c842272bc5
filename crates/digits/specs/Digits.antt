-- Numbers as text: the digits of a number in a base, the greatest first, as ASCII.
use Rattle.std.specs.Prelude.{List, [], ◌∷◌, ◌++◌, ℕ, zero, suc, ◌+◌, ◌-◌, ◌*◌, ◌/◌, ◌%◌, ◌<◌, ◌≤◌, ltb}
use Rattle.facts.specs.Choice.{pick}

-- `0` to `9`, and then `A` on
unfoldable pub figure_of : ℕ → ℕ
figure_of d = pick (ltb d 10) (48 + d) (55 + d)

-- the last k digits of n in base b
unfoldable pub digits_of : ℕ → ℕ → ℕ → List ℕ
digits_of b zero n = []
digits_of b (suc k) n = digits_of b k (n / b) ++ (figure_of (n % b) ∷ [])

-- how many decimal digits n has, where at most f more than one are looked at
unfoldable pub width_in : ℕ → ℕ → ℕ
width_in zero n = 1
width_in (suc f) n = pick (ltb n 10) 1 (suc (width_in f (n / 10)))

-- a number has no more digits than it counts, but for 0, which has one
unfoldable pub width_of : ℕ → ℕ
width_of n = width_in n n

-- Trace 8: "hexadecimal in capitals"
unfoldable pub hex_of : ℕ → ℕ → List ℕ
hex_of k n = digits_of 16 k n

-- Trace 8: "decimal without zeros in front"
unfoldable pub decimal_of : ℕ → List ℕ
decimal_of n = digits_of 10 (width_of n) n

-- ---- and back: what a text of figures says

unfoldable pub digit_of : ℕ → ℕ
digit_of c = pick (ltb c 58) (c - 48) (c - 55)

-- the number that figures say in base b, behind those that said n
unfoldable pub value_from : ℕ → ℕ → List ℕ → ℕ
value_from b n [] = n
value_from b n (c ∷ cs) = value_from b (n * b + digit_of c) cs

unfoldable pub value_of : ℕ → List ℕ → ℕ
value_of b cs = value_from b 0 cs

-- each is one of `0` to `9`
abbrev pub Decimals : List ℕ → Type 0
Decimals [] = Unit {0}
Decimals (c ∷ cs) = (48 ≤ c) × (c < 58) × Decimals cs
