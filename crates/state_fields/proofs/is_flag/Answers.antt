-- `state_fields::is_flag` meets its contract.
use mathlib.Core.Path.{ap}
use Prim.Native.Nat.{ℕ}
use lib.Dec.{leb}
use Rattle.state_fields.proofs.is_flag.Goals as goal

pub returns : goal.returns
returns c =
    ap (λ (n : ℕ). leb n 1) c.read.ensures
