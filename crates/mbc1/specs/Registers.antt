-- MBC1's registers and what they select (Bus 8 to 13).
use Rattle.std.specs.Prelude.{Bool, false, ℕ, ◌+◌, ◌*◌, ◌%◌, ltb, leb, eqb, None, Option}
use Rattle.facts.specs.Choice.{pick, both}
use Rattle.banking.specs.Banks.{or_one, from_one, ram_place}
use Rattle.mbc1.specs.declared.Mbc1.{Mbc1}

abbrev pub mbc1 : Bool → Bool → Bool → ℕ → ℕ → Mbc1
mbc1 multicart enabled mode low two = record { multicart = multicart; enabled = enabled; mode = mode; low = low; two = two }

-- Bus 3: "A cartridge begins with ROM bank 1 (of MBC1 the low register), every other register 0 and RAM disabled"
abbrev pub start : Bool → Mbc1
start multicart = mbc1 multicart false false 1 0

-- Bus 11: "keeps five bits, and the zero test is of these. A multicart keeps the low four of the result, so that 0x10 gives 0"
unfoldable pub low_of : Bool → ℕ → ℕ
low_of multicart byte = pick multicart (or_one (byte % 32) % 16) (or_one (byte % 32))

-- Bus 10: "0x0000 to 0x1FFF is the RAM enable (Bus 9), 0x2000 to 0x3FFF the low register, 0x4000 to 0x5FFF the two-bit
-- register, which keeps two bits, 0x6000 to 0x7FFF the mode, which keeps bit 0"
unfoldable pub written : Mbc1 → ℕ → ℕ → Mbc1
written m addr byte =
    pick (ltb addr 0x2000) (mbc1 m.multicart (eqb (byte % 16) 0xA) m.mode m.low m.two)
    (pick (ltb addr 0x4000) (mbc1 m.multicart m.enabled m.mode (low_of m.multicart byte) m.two)
    (pick (ltb addr 0x6000) (mbc1 m.multicart m.enabled m.mode m.low (byte % 4))
    (pick (ltb addr 0x8000) (mbc1 m.multicart m.enabled (eqb (byte % 2) 1) m.low m.two)
    m)))

-- Bus 12: "the two-bit register from bit 5 on, of a multicart from bit 4 on"
unfoldable pub two_at : Mbc1 → ℕ
two_at m = m.two * pick m.multicart 16 32

-- Bus 13: "In mode 1 .. at the bits of Bus 12 it is also the bank of the low window .. In mode 0 the low window .. bank 0"
unfoldable pub bank0 : Mbc1 → ℕ
bank0 m = pick m.mode (two_at m) 0

-- Bus 12: "MBC1's ROM bank is the low register, joined by the two-bit register"
unfoldable pub bank_x : Mbc1 → ℕ
bank_x m = two_at m + m.low

-- Bus 13: "and as it stands, unshifted, the RAM bank. In mode 0 .. the RAM show bank 0"
unfoldable pub ram_bank : Mbc1 → ℕ
ram_bank m = pick m.mode m.two 0

-- Bus 5: "Where RAM is disabled nothing is mapped"
unfoldable pub ram_at : Mbc1 → ℕ → ℕ → Option ℕ
ram_at m size addr = pick m.enabled (ram_place size (ram_bank m) addr) None

-- Fit 5: "the low register is 1 to 31, of a multicart 0 to 15; the two-bit register is at most 3"
unfoldable pub fit_registers : Mbc1 → Bool
fit_registers m = both (leb m.two 3) (pick m.multicart (leb m.low 15) (from_one 31 m.low))
