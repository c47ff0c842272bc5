-- `u32::read` meets its contract: two of half the width.
use native.Mathlib.Omega.{arith}
use Rattle.bytes_le.proofs.Laws.{read_joined}
use Rattle.bytes_le.proofs.U32Field.read.Goals as goal

pub returns : goal.returns
returns c =
    let p = c.requires in
    read_joined 2 2 c.args.bytes.now c.args.at (omega arith) c.read-low.ensures
    c.read-high.ensures
