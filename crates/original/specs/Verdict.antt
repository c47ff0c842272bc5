-- What `from_file` gives for a verdict of ours: the cartridge with the facts that we accept with, or the error with our number.
use Rattle.std.specs.Prelude.{Bool, List, ◌≡◌, ℕ, ◌≤◌, length, replicate, Ok, Err, Result as Answer}
use Rattle.facts.specs.Choice.{pick}
use Rattle.bytes_le.specs.Little.{Octets}
use Rattle.image.specs.Image.{title_of}
use Rattle.types.specs.declared.Kind.{Kind}
use Rattle.types.specs.declared.Kind.TheVariants as kind
use Rattle.header.specs.Check as header
use Rattle.header.specs.declared.HeaderRefusal.{HeaderRefusal}
use Rattle.header.specs.declared.HeaderRefusal.TheVariants.{Beyond}
use Rattle.header.specs.declared.Facts.{Facts}
use Rattle.mbc1.specs.Registers as our1
use Rattle.mbc2.specs.Registers as our2
use Rattle.mbc5.specs.Registers as our5
use Rattle.runs.specs.Padded.{padded}
use Rattle.original.specs.Machine.{Outcome, ok, panic}
use Rattle.original.specs.MappingResult.{MapperType, NoMapper, Mbc1, Mbc2, Mbc3, Mbc5, Mmm01, Mbc6, Mbc7}
use Rattle.original.specs.Mbc3 as mbc3
use Rattle.original.specs.Mapper as original
use Rattle.original.specs.Cartridge.{
  Cartridge,
  CartridgeError,
  InvalidNintendoLogo,
  InvalidGameTitle,
  InvalidCartridgeType,
  InvalidRomSizeIndex,
  InvalidRomSize,
  InvalidRamSizeIndex,
  NotNeededRamPresentError,
  InvalidChecksum,
  MapperNotImplemented,
  Color,
  Dmg,
  cartridge_type,
  Result,
  taken,
  error,
}
use Rattle.original.specs.Same.{none_of, mbc1_of, mbc2_of, mbc5_of}

-- the number, of Numbers 2 to 10, of each error
abbrev pub number_of : CartridgeError → ℕ
number_of InvalidNintendoLogo = 2
number_of InvalidGameTitle = 3
number_of InvalidCartridgeType = 4
number_of InvalidRomSizeIndex = 5
number_of InvalidRomSize = 6
number_of InvalidRamSizeIndex = 7
number_of NotNeededRamPresentError = 8
number_of InvalidChecksum = 9
number_of MapperNotImplemented = 10

-- a kind, in the original's words
abbrev pub mapper_type : Kind → Bool → MapperType
mapper_type kind.NoMapper multicart = NoMapper
mapper_type kind.Mbc1 multicart = Mbc1 multicart
mapper_type kind.Mbc2 multicart = Mbc2
mapper_type (kind.Mbc3 timer) multicart = Mbc3 timer
mapper_type (kind.Mbc5 rumble) multicart = Mbc5 rumble
mapper_type kind.Mmm01 multicart = Mmm01
mapper_type kind.Mbc6 multicart = Mbc6
mapper_type kind.Mbc7 multicart = Mbc7

-- what `init` leaves of MBC3's start, where it does not panic
abbrev pub value_or : {A : Type 0} → Outcome A → A → A
value_or (ok a) b = a
value_or panic b = b

abbrev pub mbc3_start : Bool → ℕ → ℕ → ℕ → mbc3.Mbc3
mbc3_start timer banks size now = value_or (mbc3.init (mbc3.new timer now) banks size) (mbc3.new timer now)

-- each mapper's start goes with ours. The last three are kinds that number 10 has refused
abbrev pub mapper_of : Kind → Bool → ℕ → ℕ → ℕ → original.Mapper
mapper_of kind.NoMapper multicart banks size now = original.NoMapper (none_of size)
mapper_of kind.Mbc1 multicart banks size now = original.Mbc1 (mbc1_of banks size (our1.start multicart))
mapper_of kind.Mbc2 multicart banks size now = original.Mbc2 (mbc2_of banks (replicate 512 0) our2.start)
mapper_of (kind.Mbc3 timer) multicart banks size now = original.Mbc3 (mbc3_start timer banks size now)
mapper_of (kind.Mbc5 rumble) multicart banks size now = original.Mbc5 (mbc5_of banks size rumble our5.start)
mapper_of kind.Mmm01 multicart banks size now = original.NoMapper (none_of size)
mapper_of kind.Mbc6 multicart banks size now = original.NoMapper (none_of size)
mapper_of kind.Mbc7 multicart banks size now = original.NoMapper (none_of size)

-- the cartridge of an image that we accept with the facts d
abbrev pub cartridge_of : List ℕ → ℕ → Facts → Cartridge
cartridge_of image now d =
    record {
      title = title_of image;
      type = cartridge_type (mapper_type d.kind d.multicart) d.ram d.battery;
      device = pick d.colour Color Dmg;
      mapper = mapper_of d.kind d.multicart d.banks d.size now;
      rom = padded image;
      ram = replicate d.size 0;
    }

-- Demand 2: "every image up to 8 MiB", of bytes; Original 1: "which number 11 does not refuse". That the Rust ends in no assert for
-- these is proved (`Original.no-panic`)
pub record ImageInDomain (image : List ℕ) : Type 0 where
  pub octets : Octets image
  pub short : length image ≤ 8388608
  pub within : header.check_of image ≡ Err Beyond → ⊥

pub data SameVerdict (image : List ℕ) (now : ℕ) : Answer Facts HeaderRefusal → Outcome Result → Type 0 where
  takes : (d : Facts) → SameVerdict image now (Ok d) (ok (taken (cartridge_of image now d)))
  errs : (w : HeaderRefusal) (e : CartridgeError) → number_of e ≡ header.number_of w → SameVerdict image now (Err w)
      (ok (error e))
