-- Demand 3 of `imf_advance`: advances made one after the other on a state's bytes.
use Rattle.std.specs.Prelude.{List, ◌≡◌, ℕ, zero, suc, eqb}
use Rattle.facts.specs.Choice.{pick}
use Rattle.flat_write.specs.Calls.{state_advanced}
use Rattle.player.specs.Bus.{advance_of}
use Rattle.player.proofs.imf_advance.Reads as imf-advance
use Rattle.shipped.specs.Made.{Call}

-- the number of an advance, and the bytes that it leaves
pub record Moved : Type 0 where
  pub number : ℕ
  pub state : List ℕ

-- of one that was made,
abbrev pub moved_by : Call imf-advance.Learnt → Moved
moved_by c = record { number = c.answer; state = c.left.0.now }

-- and by the definitions that its contract cites
abbrev pub moved_of : List ℕ → ℕ → Moved
moved_of s n = record { number = advance_of s n; state = state_advanced s n }

-- another one after it, if it was taken
abbrev pub then_moved : Moved → ℕ → Moved
then_moved x n = pick (eqb x.number 0) (moved_of x.state n) x

-- n advances by one clock, up to the first that is refused
unfoldable pub single_moves : ℕ → List ℕ → Moved
single_moves zero s = moved_of s 0
single_moves (suc n) s = then_moved (single_moves n s) 1

-- the same number, and where it is 0 the same bytes: a refused advance leaves what it was lent
pub record SameMoved (x y : Moved) : Type 0 where
  pub number : x.number ≡ y.number
  pub state : x.number ≡ 0 → x.state ≡ y.state

-- the bytes that n advances leave: none leave them as they were
abbrev pub ones_left : ℕ → List ℕ → List ℕ
ones_left zero s = s
ones_left (suc n) s = state_advanced s (suc n)
