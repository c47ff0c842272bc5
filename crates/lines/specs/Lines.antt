-- The lines of a replay (Trace 5 to 8), in ASCII: 32 is a space, 10 ends a line.
use Rattle.std.specs.Prelude.{List, [], ◌∷◌, ◌++◌, ℕ}
use Rattle.digits.specs.Digits.{hex_of, decimal_of}

-- a letter and a number: `C 5`
unfoldable pub numbered : ℕ → ℕ → List ℕ
numbered letter n = letter ∷ 32 ∷ (decimal_of n ++ (10 ∷ []))

-- Trace 6: "R or W, the address in four hexadecimal digits and the byte in two", as `R A000 5C`
unfoldable pub addressed : ℕ → ℕ → ℕ → List ℕ
addressed letter addr byte = letter ∷ 32 ∷ (hex_of 4 addr ++ (32 ∷ (hex_of 2 byte ++ (10 ∷ []))))

-- Trace 8: "The last line is end and how many whole records there were", as `end 5`
unfoldable pub end_line : ℕ → List ℕ
end_line n = 101 ∷ 110 ∷ 100 ∷ 32 ∷ (decimal_of n ++ (10 ∷ []))
