-- What the domain leaves out, and why: there the original panics or answers otherwise. The clauses of a sequence have their own
-- examples, in Parting.
use mathlib.Core.Bool.{true, false}
use mathlib.Core.Path.{◌≡◌, refl}
use Rattle.bus.specs.Run.{reads}
use Rattle.original.specs.Machine.{ok, panic}
use Rattle.original.specs.NoMapper as none
use Rattle.original.specs.Mbc1 as mbc1
use Rattle.original.specs.Mbc2 as mbc2
use Rattle.original.specs.Mbc3 as mbc3
use Rattle.original.specs.Mbc5 as mbc5
use Rattle.original.specs.Cartridge.{Cartridge}
use Rattle.original.specs.Step.{original_step}

-- number 11: NoMapper of other than 2 banks or of much RAM, MBC2 of more than 16, MBC3 of more than 256 and MBC5 of more than 512
-- banks are asserts,
pub none_of_four : none.init none.new 4 0 ≡ panic
unfolding none.init
none_of_four = refl

pub none_of_much : none.init none.new 2 0x8000 ≡ panic
unfolding none.init
none_of_much = refl

pub mbc2_of_32 : mbc2.init mbc2.new 32 0 ≡ panic
unfolding mbc2.init
mbc2_of_32 = refl

pub mbc3_of_512 : mbc3.init (mbc3.new true 0) 512 0 ≡ panic
unfolding mbc3.init
mbc3_of_512 = refl

pub mbc5_of_1024 : mbc5.init (mbc5.new false) 1024 0 ≡ panic
unfolding mbc5.init
mbc5_of_1024 = refl

-- and MBC1 of 256 banks is taken, but in mode 1 its first read is a remainder by 0.
pub mbc1_of_256 : mbc1.init (mbc1.new false) 256 0 ≡ ok (mbc1.mbc1 false 0 256 false 0 false 1 false)
unfolding mbc1.init
mbc1_of_256 = refl

pub mbc1_remainder : mbc1.map_read_rom0 (mbc1.mbc1 false 0 256 true 0 false 1 false) 0 ≡ panic
unfolding mbc1.map_read_rom0
mbc1_remainder = refl

-- number 15: no function of the cartridge serves another address.
pub none_serves : (o : Cartridge) → original_step o (reads 0x8000) ≡ panic
none_serves o = refl
