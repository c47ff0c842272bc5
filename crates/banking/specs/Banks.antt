-- Where an address falls, by a bank taken modulo the number of banks (Bus 4, Bus 5).
use Rattle.std.specs.Prelude.{Bool, ℕ, ◌/◌, ◌%◌, ◌<◌, eqb, ltb, leb, Some, None, Option}
use Rattle.facts.specs.Choice.{pick, both}
use Rattle.facts.specs.Banking.{place_of}

-- Bus 8: "A ROM bank, of MBC1 the low register, whose kept bits are all 0 becomes 1"
unfoldable pub or_one : ℕ → ℕ
or_one n = pick (eqb n 0) 1 n

-- from 1 up to the last, Fit 5: "1 to 31"; Fit 6: "1 to 15"; Fit 7: "1 to 255"
abbrev pub from_one : ℕ → ℕ → Bool
from_one last n = both (leb 1 n) (leb n last)

-- Bus 4: "(bank % count) * 0x4000 + address % 0x4000"
abbrev pub rom_place : ℕ → ℕ → ℕ → ℕ
rom_place banks bank addr = place_of 0x4000 banks bank (addr % 0x4000)

-- Bus 5: "taken modulo the RAM banks, size / 0x2000: the byte at (bank % banks) * 0x2000 + address % 0x2000 of the area .. RAM
-- of less than one bank is not mapped"
unfoldable pub banked_place : ℕ → ℕ → ℕ → Option ℕ
banked_place size bank addr =
    pick (ltb size 0x2000) None (Some (place_of 0x2000 (size / 0x2000) bank (addr % 0x2000)))

-- Bus 5: "RAM of 0x800 repeats through the window on MBC1, MBC5 and without a mapper, by address % 0x800"
unfoldable pub ram_place : ℕ → ℕ → ℕ → Option ℕ
ram_place size bank addr = pick (eqb size 0x800) (Some (addr % 0x800)) (banked_place size bank addr)

-- a place within an area of n bytes
abbrev pub Inside : Option ℕ → ℕ → Type 0
Inside (Some i) n = i < n
Inside None n = Unit {0}
