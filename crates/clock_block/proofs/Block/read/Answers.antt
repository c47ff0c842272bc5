-- `clock_block::Block::read` meets its contract: field by field.
use Rattle.clock_block.specs.Layout.{block_in}
use Rattle.clock_block.proofs.Laws.{block_of_lem}
use Rattle.clock_block.proofs.Block.read.Goals as goal

pub returns : goal.returns
unfolding block_in
returns c =
    block_of_lem c.read.ensures c.read-2.ensures c.read-3.ensures
    c.read-4.ensures c.read-5.ensures c.read-6.ensures
