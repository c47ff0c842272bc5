-- `banking::ram_place` meets its contract: 2 KiB that repeat, or banks.
use borrow.Author.Tests.{eq-eqb, ne_eqb}
use native.Mathlib.Omega.{arith}
use lib.Bits.{and_mask, and_le_l}
use Rattle.banking.specs.Banks.{ram_place}
use Rattle.banking.proofs.ram_place.Goals as goal

pub overflow_cast-result : goal.overflow_cast-result
overflow_cast-result c =
    omega (arith, and_le_l c.args.addr 0x7FF)

pub returns-then-size-eq2048 : goal.returns-then-size-eq2048
unfolding ram_place
returns-then-size-eq2048 c =
    simp (eq-eqb _ _ c.if-size-eq2048.true, and_mask c.args.addr 11)

pub returns : goal.returns
unfolding ram_place
returns c =
    simp (ne_eqb _ _ c.if-size-eq2048.false) c.banked_place.ensures
