-- `banking::rom_place` meets its contract: the bank is below the count and the offset is the low 14 bits.
use native.Mathlib.Omega.{arith}
use native.Mathlib.Nat.{mod-le}
use lib.Bits.{and_mask, and_le_l}
use Rattle.facts.specs.Banking.{place_of}
use Rattle.banking.proofs.rom_place.Goals as goal

pub overflow_cast-at : goal.overflow_cast-at
overflow_cast-at c =
    omega (arith, mod-le c.args.bank c.args.banks)

pub overflow_mul-result : goal.overflow_mul-result
overflow_mul-result c =
    omega (arith, mod-le c.args.bank c.args.banks)

pub overflow_cast-result : goal.overflow_cast-result
overflow_cast-result c =
    omega (arith, and_le_l c.args.addr 0x3FFF)

pub overflow_add-result : goal.overflow_add-result
overflow_add-result c =
    omega (arith, mod-le c.args.bank c.args.banks, and_le_l c.args.addr 0x3FFF)

pub returns : goal.returns
unfolding place_of
returns c =
    simp (and_mask c.args.addr 14)
