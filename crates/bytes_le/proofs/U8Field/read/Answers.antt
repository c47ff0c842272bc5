-- `u8::read` meets its contract: one byte.
use mathlib.Core.Path.{sym}
use native.Mathlib.Omega.{arith}
use Rattle.bytes_le.proofs.Laws.{field_one}
use Rattle.bytes_le.proofs.U8Field.read.Goals as goal

pub returns : goal.returns
returns c =
    sym (field_one c.args.bytes.now c.args.at (let p = c.requires in omega arith))
