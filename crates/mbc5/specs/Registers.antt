-- MBC5's registers and what they select (Bus 20).
use Rattle.std.specs.Prelude.{Bool, false, ℕ, ◌+◌, ◌*◌, ◌/◌, ◌%◌, ltb, leb, eqb, None, Option}
use Rattle.facts.specs.Choice.{pick, both}
use Rattle.banking.specs.Banks.{ram_place}
use Rattle.mbc5.specs.declared.Mbc5.{Mbc5}

abbrev pub mbc5 : Bool → ℕ → ℕ → Mbc5
mbc5 enabled bank ram = record { enabled = enabled; bank = bank; ram = ram }

-- Bus 3: "A cartridge begins with ROM bank 1 .. every other register 0 and RAM disabled"
abbrev pub start : Mbc5
start = mbc5 false 1 0

-- Bus 20: "0x2000 to 0x2FFF the low eight bits of the ROM bank, 0x3000 to 0x3FFF its ninth, by bit 0 of the byte; each leaves the other
-- part. 0x4000 to 0x5FFF is the RAM bank, which keeps four bits"; Bus 9: "MBC5 wants the whole byte to be 0x0A"; Bus 8: "not so on MBC5"
unfoldable pub written : Mbc5 → ℕ → ℕ → Mbc5
written m addr byte =
    pick (ltb addr 0x2000) (mbc5 (eqb byte 0xA) m.bank m.ram)
    (pick (ltb addr 0x3000) (mbc5 m.enabled (m.bank / 256 % 2 * 256 + byte) m.ram)
    (pick (ltb addr 0x4000) (mbc5 m.enabled (byte % 2 * 256 + m.bank % 256) m.ram)
    (pick (ltb addr 0x6000) (mbc5 m.enabled m.bank (byte % 16))
    m)))

-- Bus 4: "The low window shows bank 0, which only MBC1 moves, the high one the ROM bank"
abbrev pub bank0 : Mbc5 → ℕ
bank0 m = 0

abbrev pub bank_x : Mbc5 → ℕ
bank_x m = m.bank

-- Bus 5: "Where RAM is disabled nothing is mapped"
unfoldable pub ram_at : Mbc5 → ℕ → ℕ → Option ℕ
ram_at m size addr = pick m.enabled (ram_place size m.ram addr) None

-- Fit 8: "the ROM bank is at most 511, the RAM bank at most 15"
unfoldable pub fit_registers : Mbc5 → Bool
fit_registers m = both (leb m.bank 511) (leb m.ram 15)
