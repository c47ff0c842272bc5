-- Advances of a cartridge, as the player calls them, one after the other.
use Rattle.std.specs.Prelude.{true, ◌≡◌, ℕ, zero, suc, Ok, Err, Some, Result}
use Rattle.clock.specs.declared.Clock.{Clock}
use Rattle.clock.specs.declared.AdvanceRefusal.{AdvanceRefusal}
use Rattle.battery.specs.Battery.{clock_in, with_clock}
use Rattle.cartridge.specs.Fit.{fit_cart}
use Rattle.cartridge.specs.With.{with_mapper}
use Rattle.cartridge.specs.declared.Cartridge.{Cartridge}
use Rattle.bus.specs.Advance.{advance_of}

-- a cartridge with a timer, which 13 does not refuse, and its clock
pub record Timed (c : Cartridge) (k : Clock) : Type 0 where
  pub fit : fit_cart c ≡ true
  pub clock : clock_in c.mapper ≡ Some k

-- the cartridge with another clock, Clock 5: "the clock moves so and all else stays"
abbrev pub with_clock_of : Cartridge → Clock → Cartridge
with_clock_of c k = with_mapper c (with_clock c.mapper k)

-- the clock's answer, as the cartridge's
abbrev pub from_clock : Cartridge → Result Clock AdvanceRefusal → Result Cartridge AdvanceRefusal
from_clock c (Ok k) = Ok (with_clock_of c k)
from_clock c (Err why) = Err why

-- an advance by n after another: a refusal stays
abbrev pub then_advance : Result Cartridge AdvanceRefusal → ℕ → Result Cartridge AdvanceRefusal
then_advance (Ok c) n = advance_of c n
then_advance (Err why) n = Err why

-- the answers to n advances by one clock, one after the other
unfoldable pub single_advances : ℕ → Cartridge → Result Cartridge AdvanceRefusal
single_advances zero c = advance_of c 0
single_advances (suc n) c = then_advance (single_advances n c) 1
