-- `clock_registers::Registers::forward` meets its contract: fit or not.
use mathlib.Core.Path.{sym, ◌∙◌}
use Rattle.clock_registers.proofs.SecondLaws.{stepped_answer, unstepped_answer}
use Rattle.clock_registers.proofs.Registers.forward.Goals as goal

pub seconds_on-requires : goal.seconds_on-requires
seconds_on-requires c =
    sym c.fit.ensures ∙ c.if-fit.true

pub returns-then-fit : goal.returns-then-fit
returns-then-fit c =
    let a = c.args in
    stepped_answer a.self a.n (sym c.fit.ensures ∙ c.if-fit.true) c.seconds_on.ensures

pub returns : goal.returns
returns c =
    let a = c.args in
    unstepped_answer a.self a.n (sym c.fit.ensures ∙ c.if-fit.false)
