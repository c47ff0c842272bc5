-- What the clock's fitness test says of its parts.
use mathlib.Core.Bool.{true}
use mathlib.Core.Path.{◌≡◌}
use Prim.Native.Nat.{◌<◌}
use lib.Dec.{ltb}
use borrow.Author.Tests.{lt-ltb, ltb-true}
use Rattle.facts.specs.Choice.{both}
use Rattle.facts.proofs.ChoiceLaws.{both_left, both_right, both_true}
use Rattle.clock_registers.specs.Fit.{fit_registers}
use Rattle.clock.specs.Fit.{fit_clock}
use Rattle.clock.specs.declared.Clock.{Clock}

-- the three parts of a clock's fitness
pub record FitClock (c : Clock) : Type 0 where
  pub running : fit_registers c.running ≡ true
  pub frozen : fit_registers c.frozen ≡ true
  pub sub : c.sub < 2097152

pub fit_parts : (c : Clock) → fit_clock c ≡ true → FitClock c
unfolding fit_clock
fit_parts c e =
    let a = both_right (fit_registers c.running) (both (fit_registers c.frozen) (ltb c.sub 2097152)) e in
    record {
      running = both_left (fit_registers c.running) (both (fit_registers c.frozen) (ltb c.sub 2097152)) e;
      frozen = both_left (fit_registers c.frozen) (ltb c.sub 2097152) a;
      sub = ltb-true c.sub 2097152 (both_right (fit_registers c.frozen) (ltb c.sub 2097152) a);
    }

pub parts_fit : (c : Clock) → FitClock c → fit_clock c ≡ true
unfolding fit_clock
parts_fit c f = both_true f.running (both_true f.frozen (lt-ltb c.sub 2097152 f.sub))
