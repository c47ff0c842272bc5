-- `facts::from_below` meets its contract: the digits of v + n, before the stop and past it.
use borrow.Author.Rules.{rules}
use Prim.Native.Nat.{◌-◌}
use native.Mathlib.Omega.{arith}
use native.Mathlib.Nat.{div-le_self}
use Rattle.facts.proofs.CounterLaws.{digits_before, digits_past}
use Rattle.facts.proofs.from_below.Goals as goal

pub returns-then-n-left : goal.returns-then-n-left
returns-then-n-left c =
    let a = c.args in
    digits_before a.stop a.v a.n c.if-n-left.true

pub overflow_add-result-2 : goal.overflow_add-result-2
overflow_add-result-2 c =
    let a = c.args in
    omega (arith, div-le_self (a.n - (a.stop - a.v)) a.stop)

pub returns : goal.returns
returns c =
    let a = c.args in
    digits_past a.stop a.v a.n (search rules) c.if-n-left.false
