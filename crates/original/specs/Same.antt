-- The original's state that goes with one of ours: the same registers, what `init` was told, and for MBC2 the half-bytes, which
-- are the last 512 bytes of our area.
use Rattle.std.specs.Prelude.{Bool, true, List, ◌≡◌, ℕ, ◌/◌, ◌<◌, eqb, length, take, drop}
use Rattle.facts.specs.Listed.{one_of}
use Rattle.bytes_le.specs.Little.{Octets}
use Rattle.header.specs.Size.{ram_sizes}
use Rattle.mbc1.specs.declared.Mbc1 as our1
use Rattle.mbc2.specs.declared.Mbc2 as our2
use Rattle.mbc3.specs.declared.Mbc3 as our3
use Rattle.mbc5.specs.declared.Mbc5 as our5
use Rattle.mapper.specs.Mappers.{holds, fit_registers, area_of}
use Rattle.mapper.specs.declared.Mapper.{Mapper}
use Rattle.mapper.specs.declared.Mapper.TheVariants.{NoMapper, Mbc1, Mbc2, Mbc3, Mbc5}
use Rattle.bus.specs.Run.{Machine}
use Rattle.runs.specs.Padded.{padded}
use Rattle.original.specs.Machine.{as_u8}
use Rattle.original.specs.NoMapper as none
use Rattle.original.specs.Mbc1 as mbc1
use Rattle.original.specs.Mbc2 as mbc2
use Rattle.original.specs.Mbc3 as mbc3
use Rattle.original.specs.Mbc5 as mbc5
use Rattle.original.specs.Domain.{Since}
use Rattle.original.specs.Follows as follows
use Rattle.original.specs.Mapper as original
use Rattle.original.specs.Cartridge.{Cartridge}

-- ---- each mapper, of a cartridge of so many banks and so much RAM

abbrev pub none_of : ℕ → none.NoMapper
none_of size = record { size = size }

abbrev pub mbc1_of : ℕ → ℕ → our1.Mbc1 → mbc1.Mbc1
mbc1_of banks size m =
    mbc1.mbc1 (eqb size 0x800) (as_u8 (size / 0x2000)) banks m.mode m.two m.enabled m.low m.multicart

abbrev pub mbc2_of : ℕ → List ℕ → our2.Mbc2 → mbc2.Mbc2
mbc2_of banks half m = mbc2.mbc2 banks m.bank half m.enabled

abbrev pub mbc5_of : ℕ → ℕ → Bool → our5.Mbc5 → mbc5.Mbc5
mbc5_of banks size rumble m =
    mbc5.mbc5 banks (eqb size 0x800) (as_u8 (size / 0x2000)) m.enabled m.ram m.bank rumble

-- MBC5's motor is in no answer, so ours does not keep it. How far MBC3's clock goes with ours is a relation of its own
abbrev pub MapperBy : (our3.Mbc3 → mbc3.Mbc3 → Type 0) → ℕ → ℕ → List ℕ → Mapper → original.Mapper → Type 0
MapperBy R banks size area (NoMapper m) o = o ≡ original.NoMapper (none_of size)
MapperBy R banks size area (Mbc1 m) o = o ≡ original.Mbc1 (mbc1_of banks size m)
MapperBy R banks size area (Mbc2 m) o = o ≡ original.Mbc2 (mbc2_of banks (drop size area) m)
MapperBy R banks size area (Mbc3 m) o = (x : mbc3.Mbc3) × (o ≡ original.Mbc3 x) × R m x
MapperBy R banks size area (Mbc5 m) o = (rumble : Bool) × (o ≡ original.Mbc5 (mbc5_of banks size rumble m))

-- here it follows ours, with what is known of the accesses before
abbrev pub SameMapper : ℕ → ℕ → List ℕ → Since → Mapper → original.Mapper → Type 0
SameMapper banks size area s = MapperBy (follows.Same banks size s) banks size area

-- ---- the machine

-- the padded image, the header's RAM size from the area's start on, and the mapper
pub record Same (image : List ℕ) (s : Since) (m : Machine) (o : Cartridge) : Type 0 where
  pub rom : o.rom ≡ padded image
  pub ram : o.ram ≡ take m.cart.size m.area
  pub octets : Octets m.area
  pub mapper : SameMapper m.cart.banks m.cart.size m.area s m.cart.mapper o.mapper

-- what is known of a fit cartridge's mapper and of the area that it is lent
pub record Fit (banks size : ℕ) (area : List ℕ) (m : Mapper) : Type 0 where
  pub banked : 0 < banks
  pub sized : one_of size ram_sizes ≡ true
  pub held : holds m banks size ≡ true
  pub registers : fit_registers m ≡ true
  pub long : length area ≡ area_of m size
  pub octets : Octets area
