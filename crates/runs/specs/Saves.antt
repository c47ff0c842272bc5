-- What comes back with a save (Save 10).
use Rattle.std.specs.Prelude.{true, ◌≡◌, ℕ, Ok, Some, Result, Option}
use Rattle.clock.specs.declared.Clock.{Clock}
use Rattle.battery.specs.Battery.{clock_in}
use Rattle.cartridge.specs.Fit.{area_of}
use Rattle.cartridge.specs.declared.Cartridge.{Cartridge}
use Rattle.runs.specs.Time.{SameTime}
use Rattle.runs.specs.Advances.{Timed}
use Rattle.save_file.specs.declared.SaveRefusal.{SaveRefusal}

-- a cartridge with a battery and a timer, and the length of the RAM area that it is lent
pub record Kept (c : Cartridge) (k : Clock) (area : ℕ) : Type 0 where
  pub timed : Timed c k
  pub battery : c.battery ≡ true
  pub lent : area ≡ area_of c

-- x is an accepted load after which the clock shows what k showed
pub record Back (k : Clock) (x : Result (Option Cartridge) SaveRefusal) : Type 0 where
  pub cart : Cartridge
  pub whole : x ≡ Ok (Some cart)
  pub clock : Clock
  pub has : clock_in cart.mapper ≡ Some clock
  pub shows : SameTime clock.running k.running
