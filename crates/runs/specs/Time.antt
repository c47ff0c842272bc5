-- What demand 3 speaks of: advances one after the other, single ticks, the period, and what a register keeps.
use Rattle.std.specs.Prelude.{true, false, List, [], ◌∷◌, ◌≡◌, ℕ, zero, suc, ◌+◌, ◌*◌, ◌/◌, ◌%◌, ◌<◌, Ok, Err, Result}
use Rattle.clock.specs.Ticking.{advance_of}
use Rattle.clock_registers.specs.Access.{registers}
use Rattle.clock_registers.specs.declared.Registers.{Registers}
use Rattle.clock.specs.declared.Clock.{Clock}
use Rattle.clock.specs.declared.AdvanceRefusal.{AdvanceRefusal}

-- an advance by n after another: a refusal stays
abbrev pub then_advance : Result Clock AdvanceRefusal → ℕ → Result Clock AdvanceRefusal
then_advance (Ok c) n = advance_of c n
then_advance (Err why) n = Err why

-- the code's answers to n single ticks, one after the other
unfoldable pub single_ticks : ℕ → Clock → Result Clock AdvanceRefusal
single_ticks zero c = advance_of c 0
single_ticks (suc n) c = then_advance (single_ticks n c) 1

-- Demand 3: "second and minute are below 60 and the hour below 24": a clock that no game has set to a time of its own
pub record Proper (r : Registers) : Type 0 where
  pub second : r.second < 60
  pub minute : r.minute < 60
  pub hour : r.hour < 24

-- Demand 3: "the period .. of second, minute, hour and day"; Save 10: "gives back second, minute, hour and day"
pub record SameTime (r q : Registers) : Type 0 where
  pub second : r.second ≡ q.second
  pub minute : r.minute ≡ q.minute
  pub hour : r.hour ≡ q.hour
  pub day : r.day ≡ q.day

-- mapper clocks in k seconds, Clock 2: "a second has 2,097,152"
abbrev pub seconds_of : ℕ → ℕ
seconds_of k = k * 2097152

-- Demand 3: "44,236,800 seconds, 512 days, is the period"
abbrev pub period : ℕ
period = 44236800

-- the clock a period on: the same second, minute, hour and day, with the carry set and the time that much later
abbrev pub period_on : Clock → Clock
period_on c =
    record {
      running = registers c.running.second c.running.minute c.running.hour c.running.day false true;
      sub = c.sub;
      time = c.time + period;
      latched = c.latched;
      frozen = c.frozen;
    }

-- what each of the five registers keeps of a byte
abbrev pub keeps : ℕ → List ℕ
keeps b = b % 64 ∷ b % 64 ∷ b % 32 ∷ b ∷ (b / 128 % 2 * 128 + (b / 64 % 2 * 64 + b % 2)) ∷ []
