-- `battery::save_battery` meets its contract: a block, or nothing.
use mathlib.Core.Path.{sym, ap, ◌∙◌}
use native.Mathlib.Omega.{arith}
use Rattle.clock_block.specs.Layout.{put_block}
use Rattle.clock_block.specs.declared.Block.{Block}
use Rattle.battery.specs.Battery.{battery_size}
use Rattle.battery.proofs.Laws.{put_by_lem}
use Rattle.battery.proofs.save_battery.Goals as goal

pub write-requires : goal.write-requires
write-requires c =
    let z = ap battery_size (sym c.clock_in.ensures ∙ c.in-Some.is) in
    let p = c.requires in
    omega arith

pub returns-in-Some : goal.returns-in-Some
unfolding put_block
returns-in-Some c =
    c.write.ensures
    ∙ ap (λ (b : Block). put_block b c.args.room.now) c.new.ensures
    ∙ put_by_lem c.args.m c.args.wall c.args.room.now c.clock_in.ensures c.in-Some.is

pub returns-in_default : goal.returns-in_default
returns-in_default c =
    put_by_lem c.args.m c.args.wall c.args.room.now c.clock_in.ensures c.in_default.is
