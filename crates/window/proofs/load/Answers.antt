-- `window::load` meets its contract: a place inside the area, or none.
use Rattle.window.proofs.load.Goals as goal

pub bounds-ram-i : goal.bounds-ram-i
bounds-ram-i c =
    rw c.in-Some.is at c.requires

pub returns-in-Some : goal.returns-in-Some
returns-in-Some c =
    simp c.in-Some.is
