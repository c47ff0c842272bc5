-- `clock_block::Block::wake` meets its contract: beyond, late, woken.
use Rattle.clock_block.proofs.Laws.{woken_beyond, woken_late, woken_to}
use Rattle.clock_block.proofs.Block.wake.Goals as goal

pub returns-in_default : goal.returns-in_default
returns-in_default c =
    let a = c.args in
    woken_beyond a.self a.wall _ c.registers-taken.ensures c.forward.ensures c.in_default.is

pub returns-then-passes : goal.returns-then-passes
returns-then-passes c =
    let a = c.args in
    woken_late a.self a.wall _ c.registers-taken.ensures c.forward.ensures c.in-Some.is
    c.passes.ensures c.if-passes.true

pub returns : goal.returns
returns c =
    let a = c.args in
    woken_to a.self a.wall _ c.registers-taken.ensures c.forward.ensures c.in-Some.is
    c.passes.ensures c.if-passes.false c.wrapping_add_u64-time.ensures.value
    c.saturating_sub.ensures c.new-fresh.ensures
