-- `flat_windows::mbc3_at` meets its contract: RAM, or the clock is to be asked.
use Rattle.mapper.specs.declared.Mapper.TheVariants.{Mbc3}
use Rattle.flat.proofs.Laws.{selected_way}
use Rattle.windows.proofs.Laws.{way_shown}
use Rattle.flat_windows.proofs.Laws.{selected_small, selected_shown}
use Rattle.flat_windows.proofs.mbc3_at.Goals as goal

pub bytes_at-requires : goal.bytes_at-requires
bytes_at-requires c =
    selected_small c.args.m c.args.size c.if-m.true c.ram_at.ensures c.requires

pub returns-then-m : goal.returns-then-m
returns-then-m c =
    let a = c.args in
    selected_shown a.m a.size c.if-m.true c.ram_at.ensures c.bytes_at.ensures

pub returns : goal.returns
returns c =
    let a = c.args in
    way_shown (Mbc3 a.m) a.size (selected_way a.m a.size 0xA000 c.if-m.false) c.asks.ensures
