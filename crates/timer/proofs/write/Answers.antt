-- `timer::write` meets its contract: a clock register in the window, or not.
use mathlib.Core.Path.{sym, ◌∙◌}
use Rattle.timer.proofs.WindowLaws.{write_on, write_off}
use Rattle.timer.proofs.write.Goals as goal

pub returns-in-Some : goal.returns-in-Some
returns-in-Some c =
    let a = c.args in
    write_on a.m a.byte _ (sym c.on_clock.ensures ∙ c.if-on_clock.true) (sym c.write.ensures ∙ c.in-Some.is)

pub returns-in-None : goal.returns-in-None
returns-in-None c =
    let a = c.args in
    write_on a.m a.byte _ (sym c.on_clock.ensures ∙ c.if-on_clock.true) (sym c.write.ensures ∙ c.in-None.is)

pub returns : goal.returns
returns c =
    let a = c.args in
    write_off a.m a.byte (sym c.on_clock.ensures ∙ c.if-on_clock.false)
