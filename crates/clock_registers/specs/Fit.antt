-- Which registers are fit (Fit 9).
use Rattle.std.specs.Prelude.{Bool, ◌<◌, ltb}
use Rattle.facts.specs.Choice.{both}
use Rattle.clock_registers.specs.declared.Registers.{Registers}

-- Fit 9: "second and minute are at most 63, the hour at most 31, the day at most 511"
unfoldable pub fit_registers : Registers → Bool
fit_registers r = both (ltb r.second 64) (both (ltb r.minute 64) (both (ltb r.hour 32) (ltb r.day 512)))

-- the same as bounds
pub record Fit (r : Registers) : Type 0 where
  pub second : r.second < 64
  pub minute : r.minute < 64
  pub hour : r.hour < 32
  pub day : r.day < 512
