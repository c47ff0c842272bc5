-- `windows::mask_of` meets its contract.
use borrow.Author.Tests.{ne_eqb}
use Rattle.windows.proofs.mask_of.Goals as goal

pub returns-then-size-eq2048 : goal.returns-then-size-eq2048
returns-then-size-eq2048 c =
    rw c.if-size-eq2048.true

pub returns-else-size-eq2048 : goal.returns-else-size-eq2048
returns-else-size-eq2048 c =
    rw (ne_eqb _ _ c.if-size-eq2048.false)
