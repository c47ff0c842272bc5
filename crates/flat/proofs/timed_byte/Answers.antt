-- `flat::timed_byte` meets its contract: RAM or the clock.
use Rattle.window.specs.Window as window
use Rattle.flat.proofs.Laws.{selected_within, selected_read}
use Rattle.flat.proofs.timed_byte.Goals as goal

pub load-requires : goal.load-requires
load-requires c =
    let a = c.args in
    selected_within a.m a.size a.addr c.if-m.true c.ram_at.ensures c.requires

pub returns-then-m : goal.returns-then-m
returns-then-m c =
    let a = c.args in
    selected_read a.m a.size a.addr c.if-m.true c.ram_at.ensures a.ram.now c.load.ensures

pub returns : goal.returns
unfolding window.read_of
returns c =
    simp (c.if-m.false, c.read.ensures)
