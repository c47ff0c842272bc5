-- Mounting: from an image and a lent RAM area to a cartridge (Order 3, Bus 2, Bus 3).
use Rattle.std.specs.Prelude.{Bool, false, List, ℕ, eqb, length, replicate, Ok, Err, Result}
use Rattle.facts.specs.Choice.{pick}
use Rattle.types.specs.declared.Kind.{Kind}
use Rattle.types.specs.declared.Kind.TheVariants as kind
use Rattle.header.specs.Check as header
use Rattle.header.specs.declared.Facts.{Facts}
use Rattle.header.specs.declared.HeaderRefusal.{HeaderRefusal}
use Rattle.no_mapper.specs.Registers as none
use Rattle.mbc1.specs.Registers as mbc1
use Rattle.mbc2.specs.Registers as mbc2
use Rattle.mbc3.specs.Registers as mbc3
use Rattle.mbc5.specs.Registers as mbc5
use Rattle.mapper.specs.Mappers as mapper
use Rattle.mapper.specs.declared.Mapper.{Mapper}
use Rattle.mapper.specs.declared.Mapper.TheVariants.{NoMapper, Mbc1, Mbc2, Mbc3, Mbc5}
use Rattle.cartridge.specs.Fit.{area_of}
use Rattle.cartridge.specs.declared.Cartridge.{Cartridge}
use Rattle.mount.specs.declared.MountRefusal.{MountRefusal}
use Rattle.mount.specs.declared.MountRefusal.TheVariants.{Header, WrongArea}

abbrev pub number_of : MountRefusal → ℕ
number_of (Header w) = header.number_of w
number_of WrongArea = 12

-- Bus 3, each mapper's start. The last three are kinds that number 10 has refused
abbrev pub start_of : Kind → Bool → ℕ → Mapper
start_of kind.NoMapper multicart wall = NoMapper none.start
start_of kind.Mbc1 multicart wall = Mbc1 (mbc1.start multicart)
start_of kind.Mbc2 multicart wall = Mbc2 mbc2.start
start_of (kind.Mbc3 timer) multicart wall = Mbc3 (mbc3.start timer wall)
start_of (kind.Mbc5 rumble) multicart wall = Mbc5 mbc5.start
start_of kind.Mmm01 multicart wall = NoMapper none.start
start_of kind.Mbc6 multicart wall = NoMapper none.start
start_of kind.Mbc7 multicart wall = NoMapper none.start

-- the cartridge of an accepted image of n bytes
unfoldable pub cart_of : Facts → ℕ → ℕ → Cartridge
cart_of d n wall =
    record {
      length = n;
      banks = d.banks;
      size = d.size;
      battery = d.battery;
      mapper = start_of d.kind d.multicart wall;
    }

-- Header 12: "as long as the header's RAM; for MBC2 there are 512 bytes more", asked before there is a cartridge
abbrev pub area_in : Kind → ℕ → ℕ
area_in k size = mapper.area_of (start_of k false 0) size

abbrev pub asked_by : Result Facts HeaderRefusal → Result ℕ HeaderRefusal
asked_by (Ok d) = Ok (area_in d.kind d.size)
asked_by (Err w) = Err w

unfoldable pub area_for : List ℕ → Result ℕ HeaderRefusal
area_for image = asked_by (header.check_of image)

-- Order 3: "A header is tested for 1 to 11 .. a mounting goes on to 12"; Numbers 12: "the lent RAM area is not as long as the cartridge asks"
abbrev pub mount_by : Result Facts HeaderRefusal → ℕ → ℕ → ℕ → Result Cartridge MountRefusal
mount_by (Ok d) n area wall = pick (eqb area (area_of (cart_of d n wall))) (Ok (cart_of d n wall)) (Err WrongArea)
mount_by (Err w) n area wall = Err (Header w)

unfoldable pub mount_of : List ℕ → List ℕ → ℕ → Result Cartridge MountRefusal
mount_of image ram wall = mount_by (header.check_of image) (length image) (length ram) wall

-- Bus 2: "An accepted mounting makes every byte of the RAM area 0"; Order 1: "every byte that was lent stay as they were",
-- where it is refused
abbrev pub area_by : Result Cartridge MountRefusal → List ℕ → List ℕ
area_by (Ok c) ram = replicate (length ram) 0
area_by (Err w) ram = ram

unfoldable pub area_after : List ℕ → List ℕ → ℕ → List ℕ
area_after image ram wall = area_by (mount_of image ram wall) ram
