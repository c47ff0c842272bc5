-- `mbc3::bad_selection` meets its contract: the window, and that nothing is selected.
use Rattle.mbc3.proofs.bad_selection.Goals as goal

pub returns : goal.returns
returns c =
    rw (c.both-in_window.ensures, c.selects.ensures) at c.both.ensures
