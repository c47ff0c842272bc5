-- One tick of the clock, n ticks, and what an advance answers (Clock 2, Clock 5).
use Rattle.std.specs.Prelude.{Bool, not, [], ◌∷◌, ◌≡◌, ℕ, zero, suc, ◌+◌, ◌<◌, ltb, Ok, Err, Result}
use Rattle.facts.specs.Choice.{pick, bit}
use Rattle.facts.specs.Refusals.{no, first_no}
use Rattle.facts.specs.Counter.{Counter, plain, carries, step, steps, count}
use Rattle.clock_registers.specs.Seconds.{second_on}
use Rattle.clock.specs.Fit.{fit_clock}
use Rattle.clock.specs.declared.Clock.{Clock}
use Rattle.clock.specs.declared.AdvanceRefusal.{AdvanceRefusal}
use Rattle.clock.specs.declared.AdvanceRefusal.TheVariants.{Unfit, Late}

-- Clock 2: "the sub-second counts up by 1; reaching 2,097,152 it starts again at 0"
abbrev pub clocks : Counter
clocks = plain 2097152

-- a tick where the clock is not halted, Clock 2: "the time counts up by 1, and the registers step by a second", with a whole second
unfoldable pub moving : Clock → Clock
moving c =
    record {
      running = pick (carries clocks c.sub) (second_on c.running) c.running;
      sub = step clocks c.sub;
      time = c.time + bit (carries clocks c.sub);
      latched = c.latched;
      frozen = c.frozen;
    }

-- Clock 2: "A halted clock stays as it is"
unfoldable pub tick : Clock → Clock
tick c = pick c.running.halt c (moving c)

unfoldable pub ticks : ℕ → Clock → Clock
ticks zero c = c
ticks (suc n) c = tick (ticks n c)

-- what n clocks come to: the sub-second x and k whole seconds, or none where the clock is halted
pub record Gone (halt : Bool) (sub n x k : ℕ) : Type 0 where
  pub value : x ≡ pick halt sub (steps clocks n sub)
  pub carried : k ≡ pick halt 0 (count clocks n sub)
  -- it fits the word that holds it
  pub room : x < 4294967296

-- Numbers 13: "Unfit"; Numbers 17: "Late"
abbrev pub number_of : AdvanceRefusal → ℕ
number_of Unfit = 13
number_of Late = 17

-- Numbers 17: "the clock's time would pass 2^64 - 1 seconds"
abbrev pub late : Clock → ℕ → Bool
late c n = ltb 18446744073709551615 (ticks n c).time

-- Order 5: "An advance asks 13, then 17"; Clock 5: "An advance by n clocks .. is n ticks in one call"
unfoldable pub advance_of : Clock → ℕ → Result Clock AdvanceRefusal
advance_of c n = first_no Err (no (not (fit_clock c)) Unfit ∷ no (late c n) Late ∷ []) (Ok (ticks n c))
