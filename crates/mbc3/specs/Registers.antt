-- MBC3's registers and what they select (Bus 16 to 19).
use Rattle.std.specs.Prelude.{Bool, true, false, not, ℕ, ◌-◌, ◌%◌, ltb, leb, eqb, None, Option}
use Rattle.facts.specs.Choice.{pick, both, either}
use Rattle.banking.specs.Banks.{or_one, from_one, banked_place}
use Rattle.clock.specs.Access.{start_at, latched_of}
use Rattle.clock.specs.Fit.{fit_clock}
use Rattle.clock.specs.declared.Clock.{Clock}
use Rattle.mbc3.specs.declared.Mbc3.{Mbc3}

abbrev pub mbc3 : Bool → Bool → ℕ → Bool → ℕ → ℕ → Clock → Mbc3
mbc3 timer enabled bank memory ram register clock =
    record {
      timer = timer;
      enabled = enabled;
      bank = bank;
      memory = memory;
      ram = ram;
      register = register;
      clock = clock;
    }

-- Bus 3: "A cartridge begins with ROM bank 1 .. every other register 0 .. begins with RAM enabled and clock register 0
-- selected, and its clock's time is the wall time"
abbrev pub start : Bool → ℕ → Mbc3
start timer wall = mbc3 timer true 1 false 0 0 (start_at wall)

-- Bus 17: "A selection's low nibble: 0 to 3 selects that RAM bank"
abbrev pub for_ram : ℕ → Bool
for_ram byte = leb (byte % 16) 3

-- Bus 17: "8 to 0xC the clock register 0 to 4, the nibble less 8"
abbrev pub for_clock : ℕ → Bool
for_clock byte = both (leb 8 (byte % 16)) (leb (byte % 16) 0xC)

-- one of these; Bus 17: "Any other is number 16"
unfoldable pub selectable : ℕ → Bool
selectable byte = either (for_ram byte) (for_clock byte)

-- number 16, of a write to these addresses, Bus 16: "0x4000 to 0x5FFF the selection"
abbrev pub bad_selection : ℕ → ℕ → Bool
bad_selection addr byte = both (both (leb 0x4000 addr) (leb addr 0x5FFF)) (not (selectable byte))

-- Bus 17: "Selecting a RAM bank leaves the number of the clock register, and the other way round"
unfoldable pub selected : Mbc3 → ℕ → Mbc3
selected m byte =
    pick (for_ram byte) (mbc3 m.timer m.enabled m.bank true (byte % 16) m.register m.clock)
    (pick (for_clock byte) (mbc3 m.timer m.enabled m.bank false m.ram (byte % 16 - 8) m.clock) m)

-- the clock alone changed
abbrev pub with_clock : Mbc3 → Clock → Mbc3
with_clock m c = mbc3 m.timer m.enabled m.bank m.memory m.ram m.register c

-- Bus 18: "Without a timer .. a latch write does nothing"
unfoldable pub latched : Mbc3 → ℕ → Mbc3
latched m byte = pick m.timer (with_clock m (latched_of m.clock byte)) m

-- Bus 16: "0x0000 to 0x1FFF is the RAM enable (Bus 9), 0x2000 to 0x3FFF the ROM bank, which keeps eight bits, 0x4000 to 0x5FFF
-- the selection (Bus 17), 0x6000 to 0x7FFF the latch"; Bus 8 of a 0
unfoldable pub written : Mbc3 → ℕ → ℕ → Mbc3
written m addr byte =
    pick (ltb addr 0x2000)
    (mbc3 m.timer (eqb (byte % 16) 0xA) m.bank m.memory m.ram m.register m.clock)
    (pick (ltb addr 0x4000)
    (mbc3 m.timer m.enabled (or_one byte) m.memory m.ram m.register m.clock)
    (pick (ltb addr 0x6000) (selected m byte) (pick (ltb addr 0x8000) (latched m byte) m)))

-- Bus 4: "The low window shows bank 0, which only MBC1 moves, the high one the ROM bank"
abbrev pub bank0 : Mbc3 → ℕ
bank0 m = 0

abbrev pub bank_x : Mbc3 → ℕ
bank_x m = m.bank

-- Bus 19: "MBC3's window shows RAM where RAM is selected, and RAM of 0x800 is never mapped"
unfoldable pub ram_at : Mbc3 → ℕ → ℕ → Option ℕ
ram_at m size addr = pick (both m.enabled m.memory) (banked_place size m.ram addr) None

-- Fit 7: "the ROM bank is 1 to 255, the RAM bank at most 3; with a timer the selected clock register is at most 4"; Fit 1: "not
-- looked at. So it is, without a timer, with the clock and which of its registers is selected"
unfoldable pub fit_registers : Mbc3 → Bool
fit_registers m =
    both (both (from_one 255 m.bank) (leb m.ram 3))
    (either (not m.timer) (both (leb m.register 4) (fit_clock m.clock)))
