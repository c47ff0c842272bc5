-- `battery::save_battery_size` meets its contract: by whether there is a clock.
use mathlib.Core.Path.{sym, ◌∙◌}
use Rattle.battery.specs.Battery.{clock_in}
use Rattle.battery.proofs.Laws.{size_by}
use Rattle.battery.proofs.save_battery_size.Goals as goal

pub returns-then-has_clock : goal.returns-then-has_clock
returns-then-has_clock c =
    size_by (clock_in c.args.m) (sym c.has_clock.ensures ∙ c.if-has_clock.true)

pub returns : goal.returns
returns c =
    size_by (clock_in c.args.m) (sym c.has_clock.ensures ∙ c.if-has_clock.false)
