-- `windows::ram_at` meets its contract.
use Rattle.windows.proofs.Laws.{way_small, way_shown}
use Rattle.windows.proofs.ram_at.Goals as goal

pub by_way-requires : goal.by_way-requires
by_way-requires c =
    way_small c.args.mapper c.args.size 0xA000 c.requires c.way_of.ensures

pub returns : goal.returns
returns c =
    let a = c.args in
    way_shown a.mapper a.size c.way_of.ensures c.by_way.ensures
