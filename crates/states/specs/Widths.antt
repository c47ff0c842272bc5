-- The numbers of a cartridge within the widths of their types. Without a timer the clock and which of its registers is selected may be
-- anything: by Fit 1 they are not looked at.
use Rattle.std.specs.Prelude.{true, ◌≡◌, ◌^◌, ◌<◌}
use Rattle.clock_registers.specs.declared.Registers.{Registers}
use Rattle.mbc3.specs.declared.Mbc3 as mbc3-state
use Rattle.mapper.specs.declared.Mapper.{Mapper}
use Rattle.mapper.specs.declared.Mapper.TheVariants.{NoMapper, Mbc1, Mbc2, Mbc3, Mbc5}
use Rattle.cartridge.specs.declared.Cartridge.{Cartridge}

pub record RegisterWidths (r : Registers) : Type 0 where
  pub second : r.second < 256
  pub minute : r.minute < 256
  pub hour : r.hour < 256
  pub day : r.day < 65536

pub record TimerWidths (m : mbc3-state.Mbc3) : Type 0 where
  pub register : m.register < 256
  pub running : RegisterWidths m.clock.running
  pub sub : m.clock.sub < 2 ^ 32
  pub time : m.clock.time < 2 ^ 64
  pub frozen : RegisterWidths m.clock.frozen

pub record Mbc3Widths (m : mbc3-state.Mbc3) : Type 0 where
  pub bank : m.bank < 256
  pub ram : m.ram < 256
  pub timed : m.timer ≡ true → TimerWidths m

abbrev pub MapperWidths : Mapper → Type 0
MapperWidths (NoMapper m) = Unit {0}
MapperWidths (Mbc1 m) = (m.low < 256) × (m.two < 256)
MapperWidths (Mbc2 m) = m.bank < 256
MapperWidths (Mbc3 m) = Mbc3Widths m
MapperWidths (Mbc5 m) = (m.bank < 65536) × (m.ram < 256)

pub record Widths (c : Cartridge) : Type 0 where
  pub length : c.length < 2 ^ 64
  pub banks : c.banks < 65536
  pub size : c.size < 2 ^ 64
  pub mapper : MapperWidths c.mapper
