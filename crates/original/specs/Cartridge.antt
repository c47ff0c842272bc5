-- cartridge.rs: the header check of `from_file` from the padding on, and the cartridge's own functions. Left out are the path,
-- the hash, what is printed and the save file.
use Rattle.std.specs.Prelude.{Bool, true, false, not, List, [], ◌∷◌, ◌++◌, ℕ, ◌+◌, ◌-◌, ◌/◌, ◌%◌, eqb, ltb, length, replicate}
use Rattle.std.proofs.Math.Option.{Option, none, some}
use Rattle.std.specs.Int.Bits.{bit_and}
use Rattle.facts.specs.Choice.{pick, both}
use Rattle.utf8.specs.Utf8.{is_utf8}
use Rattle.original.specs.Machine.{Outcome, ok, bind, div, index, store, slice, same, take_while, as_u16, shl_usize, wrapping_sub, is_multiple_of, is_power_of_two, ilog2}
use Rattle.original.specs.MappingResult.{MapperType, NoMapper, Mbc1, Mbc2, Mbc3, Mbc5, Mmm01, Mbc6, Mbc7}
use Rattle.original.specs.MappingResult.{MappingResult, Addr, Value, NotMapped}
use Rattle.original.specs.NoMapper as none-mapper
use Rattle.original.specs.Mbc1 as mbc1
use Rattle.original.specs.Mbc2 as mbc2
use Rattle.original.specs.Mbc3 as mbc3
use Rattle.original.specs.Mbc5 as mbc5
use Rattle.original.specs.Mapper as mapper
use Rattle.original.specs.Mapper.{Mapper}

-- NINTENDO_LOGO_DATA
unfoldable pub nintendo_logo_data : List ℕ
nintendo_logo_data =
    0xce ∷ 0xed ∷ 0x66 ∷ 0x66 ∷ 0xcc ∷ 0x0d ∷ 0x00 ∷ 0x0b ∷ 0x03 ∷ 0x73 ∷ 0x00 ∷ 0x83 ∷ 0x00 ∷ 0x0c ∷ 0x00 ∷ 0x0d
    ∷ 0x00 ∷ 0x08 ∷ 0x11 ∷ 0x1f ∷ 0x88 ∷ 0x89 ∷ 0x00 ∷ 0x0e ∷ 0xdc ∷ 0xcc ∷ 0x6e ∷ 0xe6 ∷ 0xdd ∷ 0xdd ∷ 0xd9 ∷ 0x99
    ∷ 0xbb ∷ 0xbb ∷ 0x67 ∷ 0x63 ∷ 0x6e ∷ 0x0e ∷ 0xec ∷ 0xcc ∷ 0xdd ∷ 0xdc ∷ 0x99 ∷ 0x9f ∷ 0xbb ∷ 0xb9 ∷ 0x33 ∷ 0x3e
    ∷ []

pub data TargetDevice : Type 0 where
  Dmg : TargetDevice
  Color : TargetDevice

-- the names of `CartridgeError` that `from_file` gives; what some carry is left out
pub data CartridgeError : Type 0 where
  InvalidNintendoLogo : CartridgeError
  InvalidGameTitle : CartridgeError
  InvalidCartridgeType : CartridgeError
  InvalidRomSizeIndex : CartridgeError
  InvalidRomSize : CartridgeError
  InvalidRamSizeIndex : CartridgeError
  NotNeededRamPresentError : CartridgeError
  InvalidChecksum : CartridgeError
  MapperNotImplemented : CartridgeError

pub record CartridgeType : Type 0 where
  -- mapper_type
  pub mapper : MapperType
  pub ram : Bool
  pub battery : Bool

abbrev pub cartridge_type : MapperType → Bool → Bool → CartridgeType
cartridge_type m ram battery = record { mapper = m; ram = ram; battery = battery }

-- ---- impl CartridgeType

-- an arm `byte => Some(Self { .. })` of `from_byte`, and the first whose byte it is
pub record Arm : Type 0 where
  pub byte : ℕ
  pub gives : CartridgeType

abbrev pub arm : ℕ → CartridgeType → Arm
arm b t = record { byte = b; gives = t }

unfoldable pub first_arm : List Arm → ℕ → Option CartridgeType
first_arm [] b = none
first_arm (a ∷ as') b = pick (eqb a.byte b) (some a.gives) (first_arm as' b)

unfoldable pub arms : List Arm
arms =
    arm 0 (cartridge_type NoMapper false false)
    ∷ arm 1 (cartridge_type (Mbc1 false) false false)
    ∷ arm 2 (cartridge_type (Mbc1 false) true false)
    ∷ arm 3 (cartridge_type (Mbc1 false) true true)
    ∷ arm 5 (cartridge_type Mbc2 false false)
    ∷ arm 6 (cartridge_type Mbc2 true true)
    ∷ arm 8 (cartridge_type NoMapper true false)
    ∷ arm 9 (cartridge_type NoMapper true true)
    ∷ arm 0xB (cartridge_type Mmm01 false false)
    ∷ arm 0xC (cartridge_type Mmm01 true false)
    ∷ arm 0xD (cartridge_type Mmm01 true true)
    ∷ arm 0xF (cartridge_type (Mbc3 true) false true)
    ∷ arm 0x10 (cartridge_type (Mbc3 true) true true)
    ∷ arm 0x11 (cartridge_type (Mbc3 false) false false)
    ∷ arm 0x12 (cartridge_type (Mbc3 false) true false)
    ∷ arm 0x13 (cartridge_type (Mbc3 false) true true)
    ∷ arm 0x19 (cartridge_type (Mbc5 false) false false)
    ∷ arm 0x1A (cartridge_type (Mbc5 false) true false)
    ∷ arm 0x1B (cartridge_type (Mbc5 false) true true)
    ∷ arm 0x1C (cartridge_type (Mbc5 true) false false)
    ∷ arm 0x1D (cartridge_type (Mbc5 true) true false)
    ∷ arm 0x1E (cartridge_type (Mbc5 true) true true)
    ∷ arm 0x20 (cartridge_type Mbc6 true true)
    ∷ arm 0x22 (cartridge_type Mbc7 true true)
    ∷ []

unfoldable pub from_byte : ℕ → Option CartridgeType
from_byte byte = first_arm arms byte

-- `for i in 0..=3`: whether it gets past the last, or returns
unfoldable pub all_logos : List ℕ → List ℕ → Outcome Bool
all_logos [] bytes = ok true
all_logos (i ∷ is) bytes =
    let start = shl_usize i 18 in
    bind (slice bytes (start + 0x104) (start + 0x133)) (λ part.
    pick (not (same part nintendo_logo_data)) (ok false) (all_logos is bytes))

-- Checks if the cartridge is MBC1 multicart and update the `mapper` value
abbrev pub updated_type : MapperType → List ℕ → Outcome MapperType
updated_type NoMapper bytes = ok NoMapper
updated_type (Mbc1 multicart) bytes =
    pick (eqb (length bytes) 0x100000)
    (bind (all_logos (0 ∷ 1 ∷ 2 ∷ 3 ∷ []) bytes) (λ all. ok (Mbc1 (pick all true multicart))))
    (ok (Mbc1 multicart))
updated_type Mbc2 bytes = ok Mbc2
updated_type (Mbc3 timer) bytes = ok (Mbc3 timer)
updated_type (Mbc5 rumble) bytes = ok (Mbc5 rumble)
updated_type Mmm01 bytes = ok Mmm01
updated_type Mbc6 bytes = ok Mbc6
updated_type Mbc7 bytes = ok Mbc7

unfoldable pub update_mbc1_multicart : CartridgeType → List ℕ → Outcome CartridgeType
update_mbc1_multicart self bytes =
    bind (updated_type self.mapper bytes) (λ m. ok (cartridge_type m self.ram self.battery))

-- the wall time is what `Mbc3::new` asks the system for
abbrev pub get_mapper : MapperType → ℕ → Option Mapper
get_mapper NoMapper now = some (mapper.NoMapper none-mapper.new)
get_mapper (Mbc1 multicart) now = some (mapper.Mbc1 (mbc1.new multicart))
get_mapper Mbc2 now = some (mapper.Mbc2 mbc2.new)
get_mapper (Mbc3 timer) now = some (mapper.Mbc3 (mbc3.new timer now))
get_mapper (Mbc5 rumble) now = some (mapper.Mbc5 (mbc5.new rumble))
get_mapper Mmm01 now = none
get_mapper Mbc6 now = none
get_mapper Mbc7 now = none

-- ---- impl Cartridge

pub record Cartridge : Type 0 where
  -- game_title
  pub title : List ℕ
  -- cartridge_type
  pub type : CartridgeType
  -- target_device
  pub device : TargetDevice
  pub mapper : Mapper
  pub rom : List ℕ
  pub ram : List ℕ

-- `Result<Cartridge, CartridgeError>`
pub data Result : Type 0 where
  taken : Cartridge → Result
  error : CartridgeError → Result

-- `x.ok_or(e)?` and the rest
abbrev pub ok_or : {A : Type 0} → Option A → CartridgeError → (A → Outcome Result) → Outcome Result
ok_or none e rest = ok (error e)
ok_or (some a) e rest = rest a

-- `from_file` from the padding on, in its order: each part hands what it binds to the rest, or returns early

-- extend the data, as some roms don't follow the rules :(
unfoldable pub extended : List ℕ → List ℕ
extended bytes =
    let long = pick (ltb (length bytes) 0x8000) (bytes ++ replicate (0x8000 - length bytes) 0) bytes in
    pick (not (is_multiple_of (length long) 0x4000)) (long ++ replicate (0x4000 - length long % 0x4000) 0) long

-- `if &data[0x104..=0x133] != NINTENDO_LOGO_DATA`
unfoldable pub check_logo : List ℕ → Outcome Result → Outcome Result
check_logo bytes rest =
    bind (slice bytes 0x104 0x133) (λ part. pick (not (same part nintendo_logo_data)) (ok (error InvalidNintendoLogo)) rest)

-- `let game_title = String::from_utf8(..)?`, which is taken to accept what RFC 3629 does: the test is the product's own
-- `is_utf8`, which is proved to read that grammar
unfoldable pub game_title : List ℕ → (List ℕ → Outcome Result) → Outcome Result
game_title bytes rest =
    bind (slice bytes 0x134 0x142) (λ part.
    let title = take_while (λ e. not (eqb e 0)) part in
    pick (not (is_utf8 title)) (ok (error InvalidGameTitle)) (rest title))

-- `let target_device = ..`
unfoldable pub target_device : List ℕ → (TargetDevice → Outcome Result) → Outcome Result
target_device bytes rest =
    bind (index bytes 0x143) (λ byte. rest (pick (not (eqb (bit_and byte 0x80) 0)) Color Dmg))

-- `let mut cartridge_type = ..`, and whether it is a multicart
unfoldable pub type_of_byte : List ℕ → (CartridgeType → Outcome Result) → Outcome Result
type_of_byte bytes rest =
    bind (index bytes 0x147) (λ byte.
    ok_or (from_byte byte) InvalidCartridgeType (λ type. bind (update_mbc1_multicart type bytes) rest))

-- try to fix it, sometimes the rom will have `0` as the num_rom_banks
unfoldable pub fixed : ℕ → ℕ → Outcome Bool
fixed size len =
    pick (both (ltb size len) (is_multiple_of len size))
    (bind (div len size) (λ quotient.
    pick (is_power_of_two quotient) (bind (ilog2 quotient) (λ log. ok (ltb log 8))) (ok false)))
    (ok false)

-- `let mut rom_size = 0x8000 << num_rom_banks;`
unfoldable pub rom_size : List ℕ → (ℕ → Outcome Result) → Outcome Result
rom_size bytes rest =
    bind (index bytes 0x148) (λ banks.
    pick (ltb 8 banks) (ok (error InvalidRomSizeIndex))
    (let size = shl_usize 0x8000 banks in
    pick (not (eqb size (length bytes)))
    (bind (fixed size (length bytes)) (λ is. pick (not is) (ok (error InvalidRomSize)) (rest (length bytes))))
    (rest size)))

-- `match data[0x149]`
unfoldable pub size_of_byte : ℕ → Option ℕ
size_of_byte byte =
    pick (eqb byte 0) (some 0)
    (pick (eqb byte 1) (some 0x800)
    (pick (eqb byte 2) (some 0x2000)
    (pick (eqb byte 3) (some 0x8000)
    (pick (eqb byte 4) (some 0x20000)
    (pick (eqb byte 5) (some 0x10000) none)))))

-- `let ram_size = ..`, and whether the type has none
unfoldable pub ram_size : List ℕ → CartridgeType → (ℕ → Outcome Result) → Outcome Result
ram_size bytes type rest =
    bind (index bytes 0x149) (λ byte.
    ok_or (size_of_byte byte) InvalidRamSizeIndex (λ size.
    pick (both type.ram (eqb size 0)) (rest size)
    (pick (both (not type.ram) (not (eqb size 0))) (ok (error NotNeededRamPresentError)) (rest size))))

-- `for &i in data[0x134..=0x14c].iter()`
unfoldable pub checksum_from : ℕ → List ℕ → ℕ
checksum_from sum [] = sum
checksum_from sum (i ∷ is) = checksum_from (wrapping_sub (wrapping_sub sum i) 1) is

-- `if checksum != data[0x14d]`
unfoldable pub check_sum : List ℕ → Outcome Result → Outcome Result
check_sum bytes rest =
    bind (slice bytes 0x134 0x14c) (λ part.
    bind (index bytes 0x14d) (λ expected. pick (not (eqb (checksum_from 0 part) expected)) (ok (error InvalidChecksum)) rest))

-- `let mut mapper = ..`, and its `init`
unfoldable pub start_mapper : CartridgeType → ℕ → ℕ → ℕ → (Mapper → Outcome Result) → Outcome Result
start_mapper type rom size now rest =
    ok_or (get_mapper type.mapper now) MapperNotImplemented (λ m. bind (mapper.init m (as_u16 (rom / 0x4000)) size) rest)

unfoldable pub from_file : List ℕ → ℕ → Outcome Result
from_file image now =
    let bytes = extended image in
    check_logo bytes
    (game_title bytes (λ title.
    target_device bytes (λ device.
    type_of_byte bytes (λ type.
    rom_size bytes (λ rom.
    ram_size bytes type (λ size.
    check_sum bytes
    (start_mapper type rom size now (λ m.
    ok (taken (record { title = title; type = type; device = device; mapper = m; rom = bytes; ram = replicate size 0 }))))))))))

-- the mapper, or the mapper and the RAM, alone changed
abbrev pub with_mapper : Cartridge → Mapper → Cartridge
with_mapper c m = record { title = c.title; type = c.type; device = c.device; mapper = m; rom = c.rom; ram = c.ram }

abbrev pub with_ram : Cartridge → Mapper → List ℕ → Cartridge
with_ram c m ram = record { title = c.title; type = c.type; device = c.device; mapper = m; rom = c.rom; ram = ram }

-- a byte that was read, and the cartridge then
pub record Read : Type 0 where
  pub self : Cartridge
  pub byte : ℕ

-- 0x0000-0x3FFF
unfoldable pub read_rom0 : Cartridge → ℕ → Outcome ℕ
read_rom0 self addr = bind (mapper.map_read_rom0 self.mapper addr) (λ at. index self.rom at)

-- 0x4000-0x7FFF
unfoldable pub read_romx : Cartridge → ℕ → Outcome ℕ
read_romx self addr = bind (mapper.map_read_romx self.mapper addr) (λ at. index self.rom at)

-- 0x0000-0x7FFF
unfoldable pub write_to_bank_controller : Cartridge → ℕ → ℕ → Outcome Cartridge
write_to_bank_controller self addr byte =
    bind (mapper.write_bank_controller_register self.mapper addr byte) (λ m. ok (with_mapper self m))

-- the arms of `match self.mapper.map_ram_read(addr)`
abbrev pub read_at : List ℕ → MappingResult → Outcome ℕ
read_at ram (Addr at) = index ram at
read_at ram (Value value) = ok value
read_at ram NotMapped = ok 0xFF

-- 0xA000-0xBFFF
unfoldable pub read_ram : Cartridge → ℕ → Outcome Read
read_ram self addr =
    bind (mapper.map_ram_read self.mapper addr) (λ x.
    bind (read_at self.ram x.1) (λ byte. ok (record { self = with_mapper self x.0; byte = byte })))

-- the arms of `match self.mapper.map_ram_write(addr, data)`
abbrev pub write_at : List ℕ → MappingResult → ℕ → Outcome (List ℕ)
write_at ram (Addr at) byte = store ram at byte
write_at ram (Value value) byte = ok ram
write_at ram NotMapped byte = ok ram

-- 0xA000-0xBFFF
unfoldable pub write_ram : Cartridge → ℕ → ℕ → Outcome Cartridge
write_ram self addr byte =
    bind (mapper.map_ram_write self.mapper addr byte) (λ x.
    bind (write_at self.ram x.1 byte) (λ ram. ok (with_ram self x.0 ram)))

unfoldable pub clock_mapper : Cartridge → Outcome Cartridge
clock_mapper self = bind (mapper.clock self.mapper) (λ m. ok (with_mapper self m))
