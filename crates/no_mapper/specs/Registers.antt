-- A cartridge with no mapper (Bus 3, Bus 4, Bus 7).
use Rattle.std.specs.Prelude.{Bool, true, ℕ, Option}
use Rattle.banking.specs.Banks.{ram_place}
use Rattle.no_mapper.specs.declared.NoMapper.{NoMapper}

abbrev pub start : NoMapper
start = record {}

-- Bus 7: "Without a mapper there are none, and nothing changes"
abbrev pub written : NoMapper → ℕ → ℕ → NoMapper
written m addr byte = m

-- Bus 4: "The low window shows bank 0"
abbrev pub bank0 : NoMapper → ℕ
bank0 m = 0

-- Bus 4: "the high one the ROM bank, which is 1 where there is no mapper"
abbrev pub bank_x : NoMapper → ℕ
bank_x m = 1

-- Bus 3: "Without a mapper RAM is always enabled"; Bus 5: "Without a mapper that is bank 0"
abbrev pub ram_at : NoMapper → ℕ → ℕ → Option ℕ
ram_at m size addr = ram_place size 0 addr

-- no register that could be unfit
abbrev pub fit_registers : NoMapper → Bool
fit_registers m = true
