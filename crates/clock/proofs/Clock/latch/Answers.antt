-- `clock::Clock::latch` meets its contract: bit 0, and whether it is frozen already.
use borrow.Author.Rules.{rules}
use Rattle.clock.proofs.AccessLaws.{latch_off, latch_again, latch_now}
use Rattle.clock.proofs.Clock.latch.Goals as goal

pub returns-then-b-eq0 : goal.returns-then-b-eq0
returns-then-b-eq0 c =
    let a = c.args in
    latch_off a.self a.b c.if-b-eq0.true

pub returns-then-already : goal.returns-then-already
returns-then-already c =
    let a = c.args in
    latch_again a.self a.b c.if-b-eq0.false c.if-already.true

pub returns : goal.returns
returns c =
    let a = c.args in
    latch_now a.self a.b (search rules) (search rules)
