-- `mbc2::Mbc2::fit` meets its contract.
use Rattle.mbc2.specs.Registers.{fit_registers}
use Rattle.mbc2.proofs.Mbc2.fit.Goals as goal

pub returns : goal.returns
unfolding fit_registers
returns c =
    c.both.ensures
