-- `mbc2::Mbc2::write_half` meets its contract: the address modulo 512 is inside the half-bytes.
use native.Mathlib.Omega.{arith}
use lib.Bits.{and_mask, and_le_l, mask_lt}
use Rattle.mbc2.specs.Registers.{half_after}
use Rattle.mbc2.proofs.Mbc2.write_half.Goals as goal

pub overflow_cast-at : goal.overflow_cast-at
overflow_cast-at c =
    omega (arith, and_le_l c.args.addr 0x1FF)

pub bounds-half-at : goal.bounds-half-at
bounds-half-at c =
    omega (arith, mask_lt c.args.addr 9)

pub returns-then-self : goal.returns-then-self
unfolding half_after
returns-then-self c =
    simp (c.if-self.true, and_mask c.args.addr 9, and_mask c.args.byte 4)

pub returns-else-self : goal.returns-else-self
unfolding half_after
returns-else-self c =
    simp c.if-self.false
