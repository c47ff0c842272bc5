-- `flat::fit_multicart` meets its contract: the bank count and the registers.
use Rattle.flat.proofs.fit_multicart.Goals as goal

pub returns : goal.returns
returns c =
    simp (c.both.ensures, c.fit.ensures, c.mbc1_in.ensures, c.read.ensures)
