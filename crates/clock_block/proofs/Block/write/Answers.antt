-- `clock_block::Block::write` meets its contract: the fields in their order.
use Rattle.clock_block.proofs.Laws.{fields_put}
use Rattle.clock_block.proofs.Block.write.Goals as goal

pub returns : goal.returns
returns c =
    fields_put c.args.self c.args.room.now c.requires c.write.ensures c.write-2.ensures
    c.write-3.ensures c.write-4.ensures c.write-5.ensures c.write-6.ensures
