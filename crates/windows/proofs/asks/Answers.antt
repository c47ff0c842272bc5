-- `windows::asks` meets its contract.
use mathlib.Core.Path.{sym, ◌∙◌}
use Rattle.windows.proofs.asks.Goals as goal

pub returns-then-on_clock : goal.returns-then-on_clock
returns-then-on_clock c =
    rw (sym c.on_clock.ensures ∙ c.if-on_clock.true)

pub returns : goal.returns
returns c =
    rw (sym c.on_clock.ensures ∙ c.if-on_clock.false) c.not_mapped.ensures
