-- `timer::read` meets its contract: a clock register in the window, or not.
use mathlib.Core.Path.{sym, ◌∙◌}
use Rattle.timer.proofs.WindowLaws.{read_on, read_off}
use Rattle.timer.proofs.read.Goals as goal

pub returns-then-on_clock : goal.returns-then-on_clock
returns-then-on_clock c =
    c.unwrap_or.ensures ∙ read_on c.args.m _ (sym c.on_clock.ensures ∙ c.if-on_clock.true) (sym c.read.ensures)

pub returns : goal.returns
returns c =
    read_off c.args.m (sym c.on_clock.ensures ∙ c.if-on_clock.false)
