-- `battery::clock_in` meets its contract: by the mapper.
use mathlib.Core.Path.{sym, ap, ◌∙◌}
use Rattle.battery.specs.Battery.{clock_in}
use Rattle.battery.proofs.clock_in.Goals as goal

pub returns-in-Mbc3 : goal.returns-in-Mbc3
returns-in-Mbc3 c =
    c.timer_of.ensures ∙ ap clock_in (sym c.in-Mbc3.is)
