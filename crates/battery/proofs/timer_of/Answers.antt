-- `battery::timer_of` meets its contract.
use Rattle.std.specs.Prelude.{Some, None}
use mathlib.Core.Bool.{Bool}
use mathlib.Core.Path.{sym, ap}
use Rattle.facts.specs.Choice.{pick}
use Rattle.battery.proofs.timer_of.Goals as goal

pub returns-then-m : goal.returns-then-m
returns-then-m c =
    ap (λ (b : Bool). pick b (Some c.args.m.clock) None) (sym c.if-m.true)

pub returns-else-m : goal.returns-else-m
returns-else-m c =
    ap (λ (b : Bool). pick b (Some c.args.m.clock) None) (sym c.if-m.false)
