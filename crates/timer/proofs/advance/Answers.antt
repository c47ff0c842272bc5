-- `timer::advance` meets its contract: the rest is tested, and the clock tests itself.
use borrow.Author.Rules.{rules}
use mathlib.Core.Path.{sym, ◌∙◌}
use Rattle.timer.proofs.AdvanceLaws.{rest_tested, unfit_answer, still_answer, timed_answer}
use Rattle.timer.proofs.advance.Goals as goal

pub returns-then-not-both : goal.returns-then-not-both
returns-then-not-both c =
    let a = c.args in
    unfit_answer a.m a.n (search rules) (sym (rest_tested a.m c.both.ensures c.both-banks.ensures c.either.ensures) ∙ c.if-not-both.true)

pub returns-then-m : goal.returns-then-m
returns-then-m c =
    let a = c.args in
    c.advance_clock.ensures ∙ timed_answer a.m a.n (search rules) (sym (rest_tested a.m c.both.ensures c.both-banks.ensures c.either.ensures) ∙ c.if-not-both.false) c.if-m.true

pub returns : goal.returns
returns c =
    let a = c.args in
    still_answer a.m a.n (search rules) (sym (rest_tested a.m c.both.ensures c.both-banks.ensures c.either.ensures) ∙ c.if-not-both.false) c.if-m.false
