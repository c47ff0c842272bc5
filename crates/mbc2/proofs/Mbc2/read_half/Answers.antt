-- `mbc2::Mbc2::read_half` meets its contract: the address modulo 512 is inside the half-bytes.
use native.Mathlib.Omega.{arith}
use lib.Bits.{bit_and, and_mask, and_le_l, mask_lt}
use lib.ListN.{get_or}
use Rattle.mbc2.specs.Registers.{half_read}
use Rattle.mbc2.proofs.Laws.{high_nibble}
use Rattle.mbc2.proofs.Mbc2.read_half.Goals as goal

pub overflow_cast-at : goal.overflow_cast-at
overflow_cast-at c =
    omega (arith, and_le_l c.args.addr 0x1FF)

pub bounds-half-at : goal.bounds-half-at
bounds-half-at c =
    omega (arith, mask_lt c.args.addr 9)

pub returns-then-self : goal.returns-then-self
unfolding half_read
returns-then-self c =
    let a = c.args in
    simp (c.if-self.true, ← and_mask a.addr 9)
    (high_nibble (get_or a.half.now (bit_and a.addr 0x1FF) 0) (omega (arith, c.shared_slice_known-1.given (bit_and a.addr 0x1FF))))

pub returns : goal.returns
unfolding half_read
returns c =
    simp c.if-self.false
