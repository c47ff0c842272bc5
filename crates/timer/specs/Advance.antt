-- Clocks that pass on an MBC3 (Clock 5).
use Rattle.std.specs.Prelude.{Bool, not, [], ◌∷◌, ℕ, Ok, Err, Result}
use Rattle.facts.specs.Choice.{pick, both}
use Rattle.facts.specs.Refusals.{no, first_no}
use Rattle.clock.specs.Ticking.{ticks, late}
use Rattle.clock.specs.declared.AdvanceRefusal.TheVariants.{Unfit, Late}
use Rattle.clock.specs.declared.Clock.{Clock}
use Rattle.clock.specs.declared.AdvanceRefusal.{AdvanceRefusal}
use Rattle.mbc3.specs.Registers.{with_clock, fit_registers}
use Rattle.mbc3.specs.declared.Mbc3.{Mbc3}

-- Numbers 17: "the clock's time would pass 2^64 - 1 seconds", where there is a clock
abbrev pub late_of : Mbc3 → ℕ → Bool
late_of m n = both m.timer (late m.clock n)

-- Clock 5: "Where it is accepted and there is a timer, the clock moves so and all else stays; without a timer it is taken and
-- changes nothing"
unfoldable pub clocks_on : Mbc3 → ℕ → Mbc3
clocks_on m n = pick m.timer (with_clock m (ticks n m.clock)) m

-- Order 5: "An advance asks 13, then 17"
unfoldable pub advance_of : Mbc3 → ℕ → Result Mbc3 AdvanceRefusal
advance_of m n = first_no Err (no (not (fit_registers m)) Unfit ∷ no (late_of m n) Late ∷ []) (Ok (clocks_on m n))

-- the clock's answer, as the mapper's
abbrev pub from_clock : Mbc3 → Result Clock AdvanceRefusal → Result Mbc3 AdvanceRefusal
from_clock m (Ok c) = Ok (with_clock m c)
from_clock m (Err w) = Err w
