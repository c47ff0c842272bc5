-- The one limit on a list of accesses that no refusal sets.
use Rattle.std.specs.Prelude.{true, false, List, ◌≡◌, ℕ}
use Rattle.battery.specs.Battery.{clock_in, has_clock}
use Rattle.bus.specs.Run.{Access, Machine}
use Rattle.original.specs.Domain.{Since, in_time, EachStep}

-- without a timer the Rust counts clocks unseen, in a u64
abbrev pub UnseenInTime : List ℕ → Machine → Since → List Access → Type 0
UnseenInTime = EachStep (λ m s a next. has_clock (clock_in m) ≡ false → in_time m s a ≡ true)
