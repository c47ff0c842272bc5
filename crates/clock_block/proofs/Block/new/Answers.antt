-- `clock_block::Block::new` meets its contract.
use Rattle.std.proofs.Common.{ap}
use Rattle.clock_block.specs.Waking.{block_of}
use Rattle.clock_block.specs.Layout.{block}
use Rattle.clock_block.proofs.Block.new.Goals as goal

pub returns : goal.returns
unfolding block_of
returns c =
    let r = c.args.clock.running in
    ap (block r.second r.minute r.hour r.day c.args.clock.time) c.saturating_sub.ensures
