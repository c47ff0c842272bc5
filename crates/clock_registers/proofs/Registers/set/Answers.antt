-- `clock_registers::Registers::set` meets its contract: by the register's number; the masks are remainders.
use borrow.Author.Rules.{rules}
use native.Mathlib.Nat.{le_trans}
use lib.Dec.{lit≤}
use lib.Bits.{mask_lt, and_mask}
use Rattle.facts.proofs.BitLaws.{bit_test}
use Rattle.clock_registers.proofs.AccessLaws.{day_low, day_high}
use mathlib.Core.Path.{sym}
use native.Mathlib.Omega.{arith}
use lib.ListN.{get_or-eq_default}
use Rattle.clock_registers.specs.Access.{writings}
use Rattle.clock_registers.proofs.Registers.set.Goals as goal

pub overflow_cast-self-in-4 : goal.overflow_cast-self-in-4
overflow_cast-self-in-4 c =
    record { fits = le_trans (mask_lt c.args.b 1) (lit≤ tt) }

pub returns-in-0 : goal.returns-in-0
returns-in-0 c =
    rw (c.in-0.is, and_mask c.args.b 6)

pub returns-in-1 : goal.returns-in-1
returns-in-1 c =
    rw (c.in-1.is, and_mask c.args.b 6)

pub returns-in-2 : goal.returns-in-2
returns-in-2 c =
    rw (c.in-2.is, and_mask c.args.b 5)

pub returns-in-3 : goal.returns-in-3
returns-in-3 c =
    let a = c.args in
    rw (c.in-3.is, day_low a.self.day a.b (search rules))

pub returns-in-4 : goal.returns-in-4
returns-in-4 c =
    let a = c.args in
    rw (c.in-4.is, day_high a.self.day a.b, bit_test a.b 6, bit_test a.b 7)

pub returns-in_default : goal.returns-in_default
returns-in_default c =
    let a = c.args in
    sym (get_or-eq_default (writings a.self a.b) a.self {n = a.n} (omega arith))
