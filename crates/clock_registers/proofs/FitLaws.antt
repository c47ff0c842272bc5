-- What the fitness test says, as bounds.
use mathlib.Core.Bool.{true}
use mathlib.Core.Path.{◌≡◌}
use lib.Dec.{ltb}
use borrow.Author.Tests.{lt-ltb, ltb-true}
use Rattle.facts.specs.Choice.{both}
use Rattle.facts.proofs.ChoiceLaws.{both_left, both_right, both_true}
use Rattle.clock_registers.specs.Fit.{fit_registers, Fit}
use Rattle.clock_registers.specs.declared.Registers.{Registers}

pub fit_bounds : (r : Registers) → fit_registers r ≡ true → Fit r
unfolding fit_registers
fit_bounds r e =
    let a = both_right (ltb r.second 64) (both (ltb r.minute 64) (both (ltb r.hour 32) (ltb r.day 512))) e in
    let b = both_right (ltb r.minute 64) (both (ltb r.hour 32) (ltb r.day 512)) a in
    record {
      second = ltb-true r.second 64 (both_left (ltb r.second 64) _ e);
      minute = ltb-true r.minute 64 (both_left (ltb r.minute 64) _ a);
      hour = ltb-true r.hour 32 (both_left (ltb r.hour 32) _ b);
      day = ltb-true r.day 512 (both_right (ltb r.hour 32) (ltb r.day 512) b);
    }

pub bounds_fit : (r : Registers) → Fit r → fit_registers r ≡ true
unfolding fit_registers
bounds_fit r f =
    both_true (lt-ltb r.second 64 f.second)
    (both_true (lt-ltb r.minute 64 f.minute)
    (both_true (lt-ltb r.hour 32 f.hour) (lt-ltb r.day 512 f.day)))
