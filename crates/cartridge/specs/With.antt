-- A cartridge with another mapper state.
use Rattle.mapper.specs.declared.Mapper.{Mapper}
use Rattle.cartridge.specs.declared.Cartridge.{Cartridge}

-- the mapper alone changed
abbrev pub with_mapper : Cartridge → Mapper → Cartridge
with_mapper c m = record { length = c.length; banks = c.banks; size = c.size; battery = c.battery; mapper = m }
