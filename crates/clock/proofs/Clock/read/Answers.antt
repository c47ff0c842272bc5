-- `clock::Clock::read` meets its contract: no such register, frozen, running.
use borrow.Author.Rules.{rules}
use Rattle.clock.proofs.AccessLaws.{shown_nothing, shown_by}
use mathlib.Core.Bool.{true, false}
use Rattle.clock.proofs.Clock.read.Goals as goal

pub returns-then-n-gt4 : goal.returns-then-n-gt4
returns-then-n-gt4 c =
    let a = c.args in
    shown_nothing a.self a.n c.if-n-gt4.true

pub returns-then-self : goal.returns-then-self
returns-then-self c =
    let a = c.args in
    shown_by a.self a.n true (search rules) (search rules) c.get.ensures

pub returns-else-self : goal.returns-else-self
returns-else-self c =
    let a = c.args in
    shown_by a.self a.n false (search rules) (search rules) c.get-else-self.ensures
