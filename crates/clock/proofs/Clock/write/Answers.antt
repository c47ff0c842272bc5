-- `clock::Clock::write` meets its contract: no such register, frozen, running.
use borrow.Author.Rules.{rules}
use Rattle.clock.proofs.AccessLaws.{written_nothing, written_by}
use mathlib.Core.Path.{refl}
use mathlib.Core.Bool.{true, false}
use Rattle.clock.proofs.AccessLaws.{written_nothing, written_by}
use Rattle.clock.proofs.Clock.write.Goals as goal

pub returns-then-n-gt4 : goal.returns-then-n-gt4
returns-then-n-gt4 c =
    let a = c.args in
    written_nothing a.self a.n a.b c.if-n-gt4.true

pub returns-then-self : goal.returns-then-self
returns-then-self c =
    let a = c.args in
    written_by a.self a.n a.b true (search rules) (search rules) c.set-running.ensures c.sub_after-sub.ensures c.set.ensures

pub returns : goal.returns
returns c =
    let a = c.args in
    written_by a.self a.n a.b false (search rules) (search rules) c.set-running.ensures c.sub_after-sub.ensures refl
