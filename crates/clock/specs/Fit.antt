-- Which clocks are fit (Fit 9).
use Rattle.std.specs.Prelude.{Bool, ltb}
use Rattle.facts.specs.Choice.{both}
use Rattle.clock_registers.specs.Fit.{fit_registers}
use Rattle.clock.specs.declared.Clock.{Clock}

-- Fit 9: "Of a clock, running and frozen copy alike .. the sub-second is at most 2,097,151"
unfoldable pub fit_clock : Clock → Bool
fit_clock c = both (fit_registers c.running) (both (fit_registers c.frozen) (ltb c.sub 2097152))
