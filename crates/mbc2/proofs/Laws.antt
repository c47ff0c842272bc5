-- A byte with the high nibble set, and that writes keep fit registers fit.
use mathlib.Core.Bool.{true}
use mathlib.Core.Path.{◌≡◌, refl}
use Prim.Native.Nat.{ℕ, ◌+◌, ◌/◌, ◌%◌, ◌<◌}
use native.Mathlib.Omega.{arith}
use lib.Bits.{bit_or, or_add_and, and_high}
use lib.Dec.{ltb, eqb}
use Rattle.facts.proofs.ChoiceLaws.{pick_has}
use Rattle.banking.proofs.Laws.{or_one_within}
use Rattle.mbc2.specs.Registers.{start, written, fit_registers}
use Rattle.mbc2.specs.declared.Mbc2.{Mbc2}

pub high_nibble : (b : ℕ) → b < 256 → bit_or b 0xF0 ≡ 0xF0 + b % 16
high_nibble b h = omega (arith, or_add_and b 0xF0, and_high b 4 4)

pub write_fit : (m : Mbc2) (addr byte : ℕ) → fit_registers m ≡ true → fit_registers (written m addr byte) ≡ true
unfolding written fit_registers
write_fit m addr byte fit =
    let P : Mbc2 → Type 0 = λ x. fit_registers x ≡ true in
    pick_has P (ltb addr 0x4000)
    (pick_has P (eqb (addr / 256 % 2) 0) fit (or_one_within 15 (byte % 16) (omega arith) (omega arith)))
    fit

pub start_fit : fit_registers start ≡ true
unfolding fit_registers
start_fit = refl
