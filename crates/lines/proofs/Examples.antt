-- The lines of Trace 9, letter by letter.
use mathlib.Core.List.{[], ◌∷◌}
use mathlib.Core.Path.{◌≡◌, refl}
use Rattle.digits.specs.Digits.{figure_of, digits_of, width_in, width_of, hex_of, decimal_of}
use Rattle.lines.specs.Lines.{numbered, addressed, end_line}

-- `W 0000 0A`
pub write_line : addressed 87 0x0000 0x0A ≡ 87 ∷ 32 ∷ 48 ∷ 48 ∷ 48 ∷ 48 ∷ 32 ∷ 48 ∷ 65 ∷ 10 ∷ []
unfolding addressed hex_of digits_of figure_of
write_line = refl

-- `R A000 5C`
pub read_line : addressed 82 0xA000 0x5C ≡ 82 ∷ 32 ∷ 65 ∷ 48 ∷ 48 ∷ 48 ∷ 32 ∷ 53 ∷ 67 ∷ 10 ∷ []
unfolding addressed hex_of digits_of figure_of
read_line = refl

-- `C 5`
pub clocks_line : numbered 67 5 ≡ 67 ∷ 32 ∷ 53 ∷ 10 ∷ []
unfolding numbered decimal_of width_of width_in digits_of figure_of
clocks_line = refl

-- `X 15`
pub refused_line : numbered 88 15 ≡ 88 ∷ 32 ∷ 49 ∷ 53 ∷ 10 ∷ []
unfolding numbered decimal_of width_of width_in digits_of figure_of
refused_line = refl

-- `end 5`
pub last_line : end_line 5 ≡ 101 ∷ 110 ∷ 100 ∷ 32 ∷ 53 ∷ 10 ∷ []
unfolding end_line decimal_of width_of width_in digits_of figure_of
last_line = refl
