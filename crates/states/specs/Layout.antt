-- The 64 bytes of a state: where each field stands, little-endian. The order of the fields is this library's own.
--
--    0     kind                      8, 9      number of ROM banks     40 .. 43   its sub-second
--    1     battery, 0 or 1           16 .. 23  length of the image     44         latched, 0 or 1
--    2     enabled, 0 or 1           24 .. 31  the header's RAM size   45 .. 51   running second, minute, hour, day (2), halt, carry
--    3     mode or memory, 0 or 1    32 .. 39  the clock's time        52 .. 58   the same of the frozen copy
--    4, 5  ROM bank
--    6     RAM bank, or two bits
--    7     clock register
--
-- Bytes 10 to 15 and 59 to 63 have no field: they
-- are free, and written as zero. So is what a kind does not use: the clock and its register (7, 32 to 58) without a timer, the ROM bank's
-- second byte (5) but for MBC5, the mode (3) but for MBC1 and MBC3, the RAM bank (6) of an MBC2, and without a mapper all of 2 to 7.
use Rattle.std.specs.Prelude.{Bool, true, false, List, [], ◌∷◌, ◌++◌, ℕ, replicate}
use Rattle.facts.specs.Choice.{pick, bit}
use Rattle.state_fields.specs.Fields.{Field, field, stored}
use Rattle.state_fields.specs.ClockFields.{clock}
use Rattle.mbc3.specs.declared.Mbc3 as mbc3-state
use Rattle.mapper.specs.declared.Mapper.{Mapper}
use Rattle.mapper.specs.declared.Mapper.TheVariants.{NoMapper, Mbc1, Mbc2, Mbc3, Mbc5}
use Rattle.cartridge.specs.declared.Cartridge.{Cartridge}

-- the kind of a mapper
abbrev pub kind_of : Mapper → ℕ
kind_of (NoMapper m) = 0
kind_of (Mbc1 m) = pick m.multicart 2 1
kind_of (Mbc2 m) = 3
kind_of (Mbc3 m) = pick m.timer 5 4
kind_of (Mbc5 m) = 6

-- what was mounted
abbrev pub board_of : ℕ → Bool → ℕ → ℕ → ℕ → List Field
board_of kind battery banks length size =
    field 0 1 kind ∷ field 1 1 (bit battery) ∷ field 8 2 banks ∷ field 16 8 length ∷ field 24 8 size ∷ []

abbrev pub board : Cartridge → List Field
board c = board_of (kind_of c.mapper) c.battery c.banks c.length c.size

-- the mapper's registers
abbrev pub registers : Bool → Bool → ℕ → ℕ → ℕ → List Field
registers enabled mode bank ram register =
    field 2 1 (bit enabled) ∷ field 3 1 (bit mode) ∷ field 4 2 bank ∷ field 6 1 ram ∷ field 7 1 register ∷ []

-- Player 4: "Bytes that the kind does not use .. are written as 0": without a timer, those of the clock and of its selected register
abbrev pub mbc3_fields : mbc3-state.Mbc3 → Bool → List Field
mbc3_fields m true = registers m.enabled m.memory m.bank m.ram m.register ++ clock m.clock
mbc3_fields m false = registers m.enabled m.memory m.bank m.ram 0

abbrev pub mapper : Mapper → List Field
mapper (NoMapper m) = []
mapper (Mbc1 m) = registers m.enabled m.mode m.low m.two 0
mapper (Mbc2 m) = registers m.enabled false m.bank 0 0
mapper (Mbc3 m) = mbc3_fields m m.timer
mapper (Mbc5 m) = registers m.enabled false m.bank m.ram 0

-- the cartridge of these parts
abbrev pub cart_from : Mapper → Bool → ℕ → ℕ → ℕ → Cartridge
cart_from m battery banks length size =
    record { length = length; banks = banks; size = size; battery = battery; mapper = m }

abbrev pub fields_of : Cartridge → List Field
fields_of c = board c ++ mapper c.mapper

unfoldable pub encode_of : Cartridge → List ℕ
encode_of c = stored (fields_of c) (replicate 64 0)
