-- `banking::or_one` meets its contract: zero or not.
use borrow.Author.Tests.{eq-eqb, ne_eqb}
use Rattle.banking.specs.Banks.{or_one}
use Rattle.banking.proofs.or_one.Goals as goal

pub returns-then-n-eq0 : goal.returns-then-n-eq0
unfolding or_one
returns-then-n-eq0 c =
    simp (eq-eqb _ _ c.if-n-eq0.true)

pub returns-else-n-eq0 : goal.returns-else-n-eq0
unfolding or_one
returns-else-n-eq0 c =
    simp (ne_eqb _ _ c.if-n-eq0.false)
