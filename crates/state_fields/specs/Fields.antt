-- Fields at their places in the bytes of a state, little-endian, and flags.
use Rattle.std.specs.Prelude.{Bool, true, List, [], ◌∷◌, ℕ, eqb, leb}
use Rattle.facts.specs.Choice.{both}
use Rattle.bytes_le.specs.Little.{field_at, put_at}

-- so many bytes of a number, at a place
pub record Field : Type 0 where
  pub at : ℕ
  pub width : ℕ
  pub value : ℕ

abbrev pub field : ℕ → ℕ → ℕ → Field
field at width value = record { at = at; width = width; value = value }

-- bytes with these fields stored, one after the other
unfoldable pub stored : List Field → List ℕ → List ℕ
stored [] s = s
stored (f ∷ fs) s = stored fs (put_at f.width s f.at f.value)

-- a flag is 1 or not
abbrev pub flag_at : List ℕ → ℕ → Bool
flag_at s at = eqb (field_at 1 s at) 1

-- whether 0 or 1 stands there
abbrev pub is_flag : List ℕ → ℕ → Bool
is_flag s at = leb (field_at 1 s at) 1

-- whether it does at each of these places
unfoldable pub are_flags : List ℕ → List ℕ → Bool
are_flags s [] = true
are_flags s (at ∷ ats) = both (is_flag s at) (are_flags s ats)
