-- `window::by_selection` meets its contract: RAM or the clock.
use Rattle.window.proofs.by_selection.Goals as goal

pub returns-then-m : goal.returns-then-m
returns-then-m c =
    simp (c.if-m.true, c.ram_at.ensures)

pub returns : goal.returns
returns c =
    simp c.if-m.false
