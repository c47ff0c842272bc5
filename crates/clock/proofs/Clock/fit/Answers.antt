-- `clock::Clock::fit` meets its contract: from what `fit` and `both` ensure.
use Rattle.clock.specs.Fit.{fit_clock}
use Rattle.clock.proofs.Clock.fit.Goals as goal

pub returns : goal.returns
unfolding fit_clock
returns c =
    cc
