-- The nine-bit bank joined from its two parts, mapped RAM within the area, and that writes keep fit registers fit.
use mathlib.Core.Bool.{true}
use mathlib.Core.Path.{◌≡◌, refl, ap, ◌∙◌}
use Prim.Native.Nat.{ℕ, ◌+◌, ◌*◌, ◌/◌, ◌%◌, ◌<◌}
use native.Mathlib.Omega.{arith}
use lib.Bits.{bit_or, bit_and, or_shifted, and_high, and_mask}
use lib.Dec.{leb, ltb}
use borrow.Author.Tests.{le-leb}
use Rattle.facts.proofs.ChoiceLaws.{both_parts, both_true, pick_has}
use Rattle.facts.proofs.BitLaws.{join_above}
use Rattle.banking.specs.Banks.{ram_place, Inside}
use Rattle.banking.proofs.Laws.{ram_inside, picked_inside}
use Rattle.mbc5.specs.Registers.{start, written, ram_at, fit_registers}
use Rattle.mbc5.specs.declared.Mbc5.{Mbc5}

pub low_joined : (n byte : ℕ) → byte < 256 → bit_or (bit_and n 0x100) byte ≡ n / 256 % 2 * 256 + byte
low_joined n byte h = ap (λ (x : ℕ). bit_or x byte) (and_high n 1 8) ∙ or_shifted (n / 256 % 2) 8 byte h

pub high_joined : (n byte : ℕ) → bit_or (bit_and n 0xFF) (bit_and byte 1 * 256 % 65536) ≡ byte % 2 * 256 + n % 256
high_joined n byte = rw (and_mask n 8, and_mask byte 1) (join_above 1 8 16 (omega arith) (omega arith) (omega arith))

pub ram_at_inside : (m : Mbc5) (size addr : ℕ) → Inside (ram_at m size addr) size
unfolding ram_at
ram_at_inside m size addr = picked_inside m.enabled (ram_place size m.ram addr) size (ram_inside size m.ram addr)

pub write_fit : (m : Mbc5) (addr byte : ℕ) → byte < 256 → fit_registers m ≡ true → fit_registers (written m addr byte) ≡ true
unfolding written fit_registers
write_fit m addr byte l fit =
    let P : Mbc5 → Type 0 = λ x. fit_registers x ≡ true in
    let p = both_parts (leb m.bank 511) (leb m.ram 15) fit in
    pick_has P (ltb addr 0x2000) fit
    (pick_has P (ltb addr 0x3000) (both_true (le-leb (m.bank / 256 % 2 * 256 + byte) 511 (omega arith)) p.1)
    (pick_has P (ltb addr 0x4000) (both_true (le-leb (byte % 2 * 256 + m.bank % 256) 511 (omega arith)) p.1)
    (pick_has P (ltb addr 0x6000) (both_true p.0 (le-leb (byte % 16) 15 (omega arith))) fit)))

pub start_fit : fit_registers start ≡ true
unfolding fit_registers
start_fit = refl
