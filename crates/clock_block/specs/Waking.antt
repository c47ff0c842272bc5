-- What is kept of a clock, and the clock that comes back (Save 2, Save 3, Save 6 to 8).
use Rattle.std.specs.Prelude.{ℕ, ◌+◌, ◌-◌, Bool, false, not, List, [], ◌∷◌, nat_lt, Ok, Err, Result}
use Rattle.facts.specs.Refusals.{No, no, first_no}
use Rattle.clock_registers.specs.Access.{zeros, registers}
use Rattle.clock_registers.specs.Fit.{fit_registers}
use Rattle.clock_registers.specs.Seconds.{seconds_on}
use Rattle.clock_registers.specs.declared.Registers.{Registers}
use Rattle.clock.specs.declared.Clock.{Clock}
use Rattle.clock_block.specs.Layout.{block}
use Rattle.clock_block.specs.declared.Block.{Block}
use Rattle.clock_block.specs.declared.BlockRefusal.{BlockRefusal}
use Rattle.clock_block.specs.declared.BlockRefusal.TheVariants.{Beyond, Late}

abbrev pub number_of : BlockRefusal → ℕ
number_of Beyond = 20
number_of Late = 17

-- Save 2: "the running second, minute and hour .. the day .. the clock's time"; Save 3: "The offset is the clock's time less
-- the wall time of saving, or 0 where that is negative": `-` is 0 there
unfoldable pub block_of : Clock → ℕ → Block
block_of c wall =
    block c.running.second c.running.minute c.running.hour c.running.day c.time (c.time - wall)

-- Save 7: "Second, minute, hour and day become the block's; halt, carry .. are cleared"
unfoldable pub taken_of : Block → Registers
taken_of b = registers b.second b.minute b.hour b.day false false

-- Save 6: "the clock's time becomes the wall time of reading plus the offset"
abbrev pub time_of : Block → ℕ → ℕ
time_of b wall = wall + b.offset

-- Save 8: "step, by Clock 3, as many seconds as the new time is past the block's time, or none where it is not .. The time does
-- not move again"; Save 7: "sub-second, whether it is frozen and the frozen copy are cleared"
unfoldable pub woken_of : Block → ℕ → Clock
woken_of b wall =
    record {
      running = seconds_on (time_of b wall - b.time) (taken_of b);
      sub = 0;
      time = time_of b wall;
      latched = false;
      frozen = zeros;
    }

-- Numbers 20: "a second or minute above 63, an hour above 31 or a day above 511"
abbrev pub beyond : Block → Bool
beyond b = not (fit_registers (taken_of b))

-- Save 6: "beyond 2^64 - 1 that is number 17"
abbrev pub late : Block → ℕ → Bool
late b wall = nat_lt 18446744073709551615 (time_of b wall)

-- Order 6: "20, 17, in this order"
unfoldable pub block_noes : Block → ℕ → List (No BlockRefusal)
block_noes b wall = no (beyond b) Beyond ∷ no (late b wall) Late ∷ []

unfoldable pub wake_of : Block → ℕ → Result Clock BlockRefusal
wake_of b wall = first_no Err (block_noes b wall) (Ok (woken_of b wall))
