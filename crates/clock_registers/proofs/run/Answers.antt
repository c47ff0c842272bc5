-- `clock_registers::run` meets its contract: below the stop, up to the last value, and over it.
use borrow.Author.Rules.{rules}
use Prim.Native.Nat.{◌+◌, ◌-◌}
use native.Mathlib.Omega.{arith}
use native.Mathlib.Nat.{mod-lt}
use Rattle.facts.specs.Counter.{cyclic}
use Rattle.facts.proofs.CounterLaws.{low_ran, high_ran, over_ran, cyclic_grows}
use Rattle.clock_registers.proofs.run.Goals as goal

pub returns-then-v-stop : goal.returns-then-v-stop
returns-then-v-stop c =
    let a = c.args in
    let e = c.from_below.ensures in
    let grows = cyclic_grows a.width a.stop (search rules) in
    (low_ran (cyclic a.width a.stop) (omega arith) grows (search rules) e.0 e.1, omega (arith, e.0, mod-lt (a.v + a.n) {m = a.stop} (omega arith)))

pub returns-then-n-left : goal.returns-then-n-left
returns-then-n-left c =
    let a = c.args in
    (high_ran a.width a.stop (omega arith) (search rules) (search rules) (search rules), search rules)

pub returns : goal.returns
returns c =
    let a = c.args in
    let e = c.from_below-2.ensures in
    let grows = cyclic_grows a.width a.stop (search rules) in
    let ran = low_ran (cyclic a.width a.stop) (omega arith) grows (omega arith) e.0 e.1 in
    (over_ran a.width a.stop (omega arith) (search rules) (search rules) (search rules) (omega arith) ran, omega (arith, e.0, mod-lt (0 + (a.n - (a.width - a.v))) {m = a.stop} (omega arith)))
