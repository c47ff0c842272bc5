-- `clock_block::Block::registers` meets its contract.
use Rattle.std.proofs.Common.{refl}
use Rattle.clock_block.specs.Waking.{taken_of}
use Rattle.clock_block.proofs.Block.registers.Goals as goal

pub returns : goal.returns
unfolding taken_of
returns c =
    refl
