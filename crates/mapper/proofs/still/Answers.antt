-- `mapper::still` meets its contract: fit or not.
use Rattle.mapper.proofs.still.Goals as goal

pub returns-then-fit : goal.returns-then-fit
returns-then-fit c =
    simp c.if-fit.true

pub returns : goal.returns
returns c =
    simp c.if-fit.false
