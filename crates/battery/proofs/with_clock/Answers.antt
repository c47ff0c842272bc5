-- `battery::with_clock` meets its contract: by the mapper.
use mathlib.Core.Path.{sym, ap}
use Rattle.mapper.specs.declared.Mapper.{Mapper}
use Rattle.battery.specs.Battery.{with_clock}
use Rattle.battery.proofs.with_clock.Goals as goal

pub returns-in-Mbc3 : goal.returns-in-Mbc3
returns-in-Mbc3 c =
    ap (λ (m : Mapper). with_clock m c.args.clock) (sym c.in-Mbc3.is)
