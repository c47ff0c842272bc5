-- `u8::write` meets its contract: one byte.
use borrow.Author.Rules.{rules}
use Rattle.bytes_le.proofs.Laws.{put_one}
use Rattle.bytes_le.proofs.U8Field.write.Goals as goal

pub returns : goal.returns
returns c =
    put_one c.args.bytes.now c.args.at c.args.n (search rules)
