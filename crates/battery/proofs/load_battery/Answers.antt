-- `battery::load_battery` meets its contract: a whole block behind the RAM of a timer, or not.
use Rattle.battery.proofs.Laws.{block_inside, load_none_lem, load_block}
use Rattle.battery.proofs.load_battery.Goals as goal

pub read-block-requires : goal.read-block-requires
read-block-requires c =
    let a = c.args in
    block_inside a.m a.bytes.now a.wall c.has_clock.ensures c.both.ensures
    c.if-both.true

pub returns-then-both : goal.returns-then-both
returns-then-both c =
    let a = c.args in
    load_block a.m a.bytes.now a.wall c.has_clock.ensures c.both.ensures
    c.if-both.true c.read-block.ensures c.wake.ensures c.woken_into.ensures

pub returns : goal.returns
returns c =
    let a = c.args in
    load_none_lem a.m a.bytes.now a.wall c.has_clock.ensures c.both.ensures
    c.if-both.false
