-- Fields side by side, some of which must be below a power of two; and the mask of the bits that they then have not.
use Rattle.std.specs.Prelude.{Bool, true, List, [], ◌∷◌, ℕ, ◌+◌, ◌*◌, ◌-◌, ◌^◌, ltb}
use Rattle.facts.specs.Choice.{both}
use Rattle.bytes_le.specs.Little.{field_at}

-- so many bytes: whatever they are, or a number of so many bits
pub data Part : Type 0 where
  any : ℕ → Part
  bits : ℕ → ℕ → Part

-- how many bytes they are
unfoldable pub span : List Part → ℕ
span [] = 0
span (any n ∷ ps) = n + span ps
span (bits n k ∷ ps) = n + span ps

-- whether each number, from a place on, has no more bits than it may
unfoldable pub within : List ℕ → ℕ → List Part → Bool
within s at [] = true
within s at (any n ∷ ps) = within s (at + n) ps
within s at (bits n k ∷ ps) = both (ltb (field_at n s at) (2 ^ k)) (within s (at + n) ps)

-- the bits that it may not have
unfoldable pub mask_of : List Part → ℕ
mask_of [] = 0
mask_of (any n ∷ ps) = mask_of ps * 2 ^ (n * 8)
mask_of (bits n k ∷ ps) = mask_of ps * 2 ^ (n * 8) + (2 ^ (n * 8) - 2 ^ k)
