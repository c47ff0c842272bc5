-- Numbers in bytes, the least byte first, as Save 2, Trace 1 and Player 1 have them.
use Rattle.std.specs.Prelude.{List, [], ◌∷◌, ℕ, zero, suc, ◌+◌, ◌*◌, ◌/◌, ◌%◌, ◌<◌, take, drop}
use Rattle.std.proofs.lemmas.List.Edits.{sets}

-- the number that bytes stand for
unfoldable pub value_of : List ℕ → ℕ
value_of [] = 0
value_of (b ∷ bs) = b + 256 * value_of bs

-- the w bytes of a number
unfoldable pub bytes_of : ℕ → ℕ → List ℕ
bytes_of zero n = []
bytes_of (suc w) n = n % 256 ∷ bytes_of w (n / 256)

-- the field of w bytes at a place
unfoldable pub field_at : ℕ → List ℕ → ℕ → ℕ
field_at w s at = value_of (take w (drop at s))

-- the same bytes with the w bytes of n stored from a place on
unfoldable pub put_at : ℕ → List ℕ → ℕ → ℕ → List ℕ
put_at w s at n = sets s at (bytes_of w n)

-- bytes of eight bits
abbrev pub Octets : List ℕ → Type 0
Octets [] = Unit {0}
Octets (b ∷ bs) = (b < 256) × Octets bs
