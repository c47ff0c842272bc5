-- MBC2's registers and its 512 half-bytes (Bus 14, Bus 15).
use Rattle.std.specs.Prelude.{Bool, false, List, ℕ, ◌+◌, ◌/◌, ◌%◌, ltb, eqb, get_or, set}
use Rattle.facts.specs.Choice.{pick}
use Rattle.banking.specs.Banks.{or_one, from_one}
use Rattle.mbc2.specs.declared.Mbc2.{Mbc2}

abbrev pub mbc2 : Bool → ℕ → Mbc2
mbc2 enabled bank = record { enabled = enabled; bank = bank }

-- Bus 3: "A cartridge begins with ROM bank 1 .. and RAM disabled"
abbrev pub start : Mbc2
start = mbc2 false 1

-- Bus 14: "below 0x4000 an address with bit 8 clear is the RAM enable (Bus 9), one with bit 8 set the ROM bank, which keeps
-- four bits. From 0x4000 on nothing changes"; Bus 8 of a 0
unfoldable pub written : Mbc2 → ℕ → ℕ → Mbc2
written m addr byte =
    pick (ltb addr 0x4000)
    (pick (eqb (addr / 256 % 2) 0) (mbc2 (eqb (byte % 16) 0xA) m.bank) (mbc2 m.enabled (or_one (byte % 16))))
    m

-- Bus 4: "The low window shows bank 0, which only MBC1 moves, the high one the ROM bank"
abbrev pub bank0 : Mbc2 → ℕ
bank0 m = 0

abbrev pub bank_x : Mbc2 → ℕ
bank_x m = m.bank

-- Bus 15: "address % 512. A read gives 0xF0 with the low nibble of the byte, a write keeps the low nibble. Where RAM is
-- disabled they are not mapped"
unfoldable pub half_read : Mbc2 → List ℕ → ℕ → ℕ
half_read m half addr = pick m.enabled (0xF0 + get_or half (addr % 512) 0 % 16) 0xFF

unfoldable pub half_after : Mbc2 → List ℕ → ℕ → ℕ → List ℕ
half_after m half addr byte = pick m.enabled (set half (addr % 512) (byte % 16)) half

-- Fit 6: "the ROM bank is 1 to 15"
unfoldable pub fit_registers : Mbc2 → Bool
fit_registers m = from_one 15 m.bank
