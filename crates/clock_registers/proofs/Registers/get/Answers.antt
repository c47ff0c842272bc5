-- `clock_registers::Registers::get` meets its contract: by the register's number; register 4 is packed by shifts and ors.
use native.Mathlib.Nat.{le_trans}
use lib.Dec.{lit≤}
use lib.Bits.{mask_lt, and_mask}
use Prim.Native.Nat.{◌/◌}
use Rattle.clock_registers.proofs.AccessLaws.{flags_packed}
use mathlib.Core.Path.{sym}
use native.Mathlib.Omega.{arith}
use lib.ListN.{get_or-eq_default}
use Rattle.clock_registers.specs.Access.{readings}
use Rattle.clock_registers.proofs.Registers.get.Goals as goal

pub overflow_cast-result : goal.overflow_cast-result
overflow_cast-result c =
    record { fits = mask_lt c.args.self.day 8 }

pub overflow_cast-result-in-4-3 : goal.overflow_cast-result-in-4-3
overflow_cast-result-in-4-3 c =
    let d = c.args.self.day in
    record { fits = le_trans (mask_lt (d / 256) 1) (lit≤ tt) }

pub returns-in-0 : goal.returns-in-0
returns-in-0 c =
    rw c.in-0.is

pub returns-in-1 : goal.returns-in-1
returns-in-1 c =
    rw c.in-1.is

pub returns-in-2 : goal.returns-in-2
returns-in-2 c =
    rw c.in-2.is

pub returns-in-3 : goal.returns-in-3
returns-in-3 c =
    rw c.in-3.is (and_mask c.args.self.day 8)

pub returns-in-4 : goal.returns-in-4
returns-in-4 c =
    let r = c.args.self in
    rw c.in-4.is (flags_packed r.carry r.halt r.day)

pub returns-in_default : goal.returns-in_default
returns-in_default c =
    let a = c.args in
    sym (get_or-eq_default (readings a.self) 0 {n = a.n} (omega arith))
