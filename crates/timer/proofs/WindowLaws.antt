-- The clock in the window: what the code's test says of the definitions.
use Rattle.std.specs.Prelude.{Option}
use mathlib.Core.Bool.{Bool, true, false, not}
use mathlib.Core.Path.{◌≡◌, refl, sym, ap, ◌∙◌}
use Prim.Native.Nat.{ℕ, ◌<◌}
use borrow.Author.Tests.{lt-ltb}
use Rattle.facts.specs.Choice.{pick, both}
use Rattle.facts.proofs.ChoiceLaws.{both_left}
use Rattle.clock.specs.Access.{shown_of, written_of, written_clock}
use Rattle.clock.specs.declared.Clock.{Clock}
use Rattle.timer.specs.ClockWindow.{on_clock, byte_or, window_read, clock_or, window_written}
use Rattle.mbc3.specs.Registers.{with_clock}
use Rattle.mbc3.specs.declared.Mbc3.{Mbc3}

pub on_tested : (m : Mbc3) {t u : Bool} → t ≡ both m.timer u → u ≡ both m.enabled (not m.memory) → t ≡ on_clock m
on_tested m p q = p ∙ ap (both m.timer) q

pub on_timer : (m : Mbc3) → on_clock m ≡ true → m.timer ≡ true
on_timer m e = both_left m.timer (both m.enabled (not m.memory)) e

pub read_on : (m : Mbc3) (s : Option ℕ) → on_clock m ≡ true → shown_of m.clock m.register ≡ s → byte_or s ≡ window_read m
unfolding window_read
read_on m s on e =
    sym (ap (λ (t : Bool). pick t (byte_or (shown_of m.clock m.register)) 0xFF) on ∙ ap byte_or e)

pub read_off : (m : Mbc3) → on_clock m ≡ false → 0xFF ≡ window_read m
unfolding window_read
read_off m off = sym (ap (λ (t : Bool). pick t (byte_or (shown_of m.clock m.register)) 0xFF) off)

pub write_on : (m : Mbc3) (byte : ℕ) (w : Option Clock) → on_clock m ≡ true → written_of m.clock m.register byte ≡ w
    → clock_or m w ≡ window_written m byte
unfolding window_written
write_on m byte w on e =
    sym (ap (λ (t : Bool). pick t (clock_or m (written_of m.clock m.register byte)) m) on ∙ ap (clock_or m) e)

pub write_off : (m : Mbc3) (byte : ℕ) → on_clock m ≡ false → m ≡ window_written m byte
unfolding window_written
write_off m byte off = sym (ap (λ (t : Bool). pick t (clock_or m (written_of m.clock m.register byte)) m) off)

-- a write to one of the five registers
pub written_there : (m : Mbc3) (byte : ℕ) → m.register < 5
    → clock_or m (written_of m.clock m.register byte) ≡ with_clock m (written_clock m.clock m.register byte)
unfolding written_of
written_there m byte h = rw (lt-ltb m.register 5 h) refl
