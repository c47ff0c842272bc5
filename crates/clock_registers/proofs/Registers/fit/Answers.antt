-- `clock_registers::Registers::fit` meets its contract: from what `both` ensures.
use Rattle.clock_registers.specs.Fit.{fit_registers}
use Rattle.clock_registers.proofs.Registers.fit.Goals as goal

pub returns : goal.returns
unfolding fit_registers
returns c =
    cc
