-- `mbc5::Mbc5::fit` meets its contract: from what `both` ensures.
use Rattle.mbc5.specs.Registers.{fit_registers}
use Rattle.mbc5.proofs.Mbc5.fit.Goals as goal

pub returns : goal.returns
unfolding fit_registers
returns c =
    c.both.ensures
