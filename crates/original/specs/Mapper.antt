-- `trait Mapper` (mappers/mod.rs): `Box<dyn Mapper>` is an enum over the five, and each function is the one of its mapper.
use Rattle.std.specs.Prelude.{ℕ}
use Rattle.original.specs.Machine.{Outcome, ok, bind}
use Rattle.original.specs.MappingResult.{Mapped, mapped}
use Rattle.original.specs.NoMapper as none
use Rattle.original.specs.Mbc1 as mbc1
use Rattle.original.specs.Mbc2 as mbc2
use Rattle.original.specs.Mbc3 as mbc3
use Rattle.original.specs.Mbc5 as mbc5

pub data Mapper : Type 0 where
  NoMapper : none.NoMapper → Mapper
  Mbc1 : mbc1.Mbc1 → Mapper
  Mbc2 : mbc2.Mbc2 → Mapper
  Mbc3 : mbc3.Mbc3 → Mapper
  Mbc5 : mbc5.Mbc5 → Mapper

-- the state that a function hands back, in its box
abbrev pub boxed : {S : Type 0} → (S → Mapper) → Outcome S → Outcome Mapper
boxed box x = bind x (λ s. ok (box s))

abbrev pub boxed_result : {S : Type 0} → (S → Mapper) → Outcome (Mapped S) → Outcome (Mapped Mapper)
boxed_result box x = bind x (λ y. ok (mapped (box y.0) y.1))

abbrev pub init : Mapper → ℕ → ℕ → Outcome Mapper
init (NoMapper m) banks size = boxed NoMapper (none.init m banks size)
init (Mbc1 m) banks size = boxed Mbc1 (mbc1.init m banks size)
init (Mbc2 m) banks size = boxed Mbc2 (mbc2.init m banks size)
init (Mbc3 m) banks size = boxed Mbc3 (mbc3.init m banks size)
init (Mbc5 m) banks size = boxed Mbc5 (mbc5.init m banks size)

abbrev pub map_read_rom0 : Mapper → ℕ → Outcome ℕ
map_read_rom0 (NoMapper m) addr = none.map_read_rom0 m addr
map_read_rom0 (Mbc1 m) addr = mbc1.map_read_rom0 m addr
map_read_rom0 (Mbc2 m) addr = mbc2.map_read_rom0 m addr
map_read_rom0 (Mbc3 m) addr = ok (mbc3.map_read_rom0 m addr)
map_read_rom0 (Mbc5 m) addr = mbc5.map_read_rom0 m addr

abbrev pub map_read_romx : Mapper → ℕ → Outcome ℕ
map_read_romx (NoMapper m) addr = none.map_read_romx m addr
map_read_romx (Mbc1 m) addr = mbc1.map_read_romx m addr
map_read_romx (Mbc2 m) addr = mbc2.map_read_romx m addr
map_read_romx (Mbc3 m) addr = mbc3.map_read_romx m addr
map_read_romx (Mbc5 m) addr = mbc5.map_read_romx m addr

abbrev pub map_ram_read : Mapper → ℕ → Outcome (Mapped Mapper)
map_ram_read (NoMapper m) addr = boxed_result NoMapper (none.map_ram_read m addr)
map_ram_read (Mbc1 m) addr = boxed_result Mbc1 (mbc1.map_ram_read m addr)
map_ram_read (Mbc2 m) addr = boxed_result Mbc2 (mbc2.map_ram_read m addr)
map_ram_read (Mbc3 m) addr = boxed_result Mbc3 (mbc3.map_ram_read m addr)
map_ram_read (Mbc5 m) addr = boxed_result Mbc5 (mbc5.map_ram_read m addr)

abbrev pub map_ram_write : Mapper → ℕ → ℕ → Outcome (Mapped Mapper)
map_ram_write (NoMapper m) addr byte = boxed_result NoMapper (none.map_ram_write m addr byte)
map_ram_write (Mbc1 m) addr byte = boxed_result Mbc1 (mbc1.map_ram_write m addr byte)
map_ram_write (Mbc2 m) addr byte = boxed_result Mbc2 (mbc2.map_ram_write m addr byte)
map_ram_write (Mbc3 m) addr byte = boxed_result Mbc3 (mbc3.map_ram_write m addr byte)
map_ram_write (Mbc5 m) addr byte = boxed_result Mbc5 (mbc5.map_ram_write m addr byte)

abbrev pub write_bank_controller_register : Mapper → ℕ → ℕ → Outcome Mapper
write_bank_controller_register (NoMapper m) addr byte = boxed NoMapper (none.write_bank_controller_register m addr byte)
write_bank_controller_register (Mbc1 m) addr byte = boxed Mbc1 (mbc1.write_bank_controller_register m addr byte)
write_bank_controller_register (Mbc2 m) addr byte = boxed Mbc2 (mbc2.write_bank_controller_register m addr byte)
write_bank_controller_register (Mbc3 m) addr byte = boxed Mbc3 (mbc3.write_bank_controller_register m addr byte)
write_bank_controller_register (Mbc5 m) addr byte = boxed Mbc5 (mbc5.write_bank_controller_register m addr byte)

-- ignored, but on MBC3
abbrev pub clock : Mapper → Outcome Mapper
clock (NoMapper m) = ok (NoMapper m)
clock (Mbc1 m) = ok (Mbc1 m)
clock (Mbc2 m) = ok (Mbc2 m)
clock (Mbc3 m) = boxed Mbc3 (mbc3.clock m)
clock (Mbc5 m) = ok (Mbc5 m)
