-- `clock::elapsed` meets its contract: none where it is halted, else the digits of the sum.
use borrow.Author.Rules.{rules}
use Rattle.clock.proofs.AnswerLaws.{gone_moving}
use Rattle.clock.proofs.elapsed.Goals as goal

pub returns : goal.returns
returns c =
    let a = c.args in
    gone_moving a.halt a.sub a.n c.if-halt.false (search rules) c.from_below.ensures.0 c.from_below.ensures.1
