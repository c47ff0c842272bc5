-- Clock writes and passing clocks leave fit registers fit.
use Rattle.std.specs.Prelude.{Some, None, Option}
use mathlib.Core.Bool.{true}
use mathlib.Core.Path.{◌≡◌, refl}
use Prim.Native.Nat.{ℕ, ◌<◌}
use Rattle.facts.proofs.ChoiceLaws.{pick_has}
use Rattle.clock.specs.Access.{written_of}
use Rattle.clock.specs.Ticking.{ticks}
use Rattle.clock.proofs.KeptLaws as kept
use Rattle.clock.proofs.TickLaws.{ticks_fit}
use Rattle.clock.specs.declared.Clock.{Clock}
use Rattle.mbc3.specs.Registers.{fit_registers}
use Rattle.mbc3.specs.declared.Mbc3.{Mbc3}
use Rattle.mbc3.proofs.FitLaws.{clock_fit}
use Rattle.timer.specs.ClockWindow.{on_clock, clock_or, window_written}
use Rattle.timer.specs.Advance.{clocks_on}

pub clock_write_fit : (m : Mbc3) (byte : ℕ) → byte < 256 → fit_registers m ≡ true → fit_registers (window_written m byte) ≡ true
unfolding window_written
clock_write_fit m byte l fit =
    pick_has (λ (x : Mbc3). fit_registers x ≡ true) (on_clock m) (given (written_of m.clock m.register byte) refl) fit
  where
    given : (w : Option Clock) → written_of m.clock m.register byte ≡ w → fit_registers (clock_or m w) ≡ true
    given (Some d) e = clock_fit m d fit (λ f. kept.write_fit m.clock d m.register byte f l e)
    given None e = fit

pub clocks_fit : (m : Mbc3) (n : ℕ) → fit_registers m ≡ true → fit_registers (clocks_on m n) ≡ true
unfolding clocks_on
clocks_fit m n fit =
    pick_has (λ (x : Mbc3). fit_registers x ≡ true) m.timer (clock_fit m (ticks n m.clock) fit (ticks_fit n m.clock)) fit
