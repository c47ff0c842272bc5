-- Reads, writes, the latch and the start of the clock (Clock 1, Clock 9 to 12).
use Rattle.std.specs.Prelude.{false, ℕ, ◌%◌, eqb, ltb, get_or, Some, None, Option}
use Rattle.facts.specs.Choice.{pick}
use Rattle.clock_registers.specs.Access.{zeros, readings, writings}
use Rattle.clock_registers.specs.declared.Registers.{Registers}
use Rattle.clock.specs.declared.Clock.{Clock}

-- Clock 1: "At the start all of it is 0 but the time"; Bus 3: "its clock's time is the wall time that the mounting is given"
abbrev pub start_at : ℕ → Clock
start_at wall = record { running = zeros; sub = 0; time = wall; latched = false; frozen = zeros }

-- Clock 9: "A write to register 0 also makes the sub-second 0"
abbrev pub sub_after : ℕ → ℕ → ℕ
sub_after n sub = pick (eqb n 0) 0 sub

-- Clock 12: "While the clock is frozen a read shows the copy .. else both are of the running register alone"
abbrev pub visible : Clock → Registers
visible c = pick c.latched c.frozen c.running

unfoldable pub shown_of : Clock → ℕ → Option ℕ
shown_of c n = pick (ltb n 5) (Some (get_or (readings (visible c)) n 0)) None

-- Clock 12: "While the clock is frozen .. a write goes to the running register and to the copy; else both are of the running
-- register alone"
abbrev pub written_clock : Clock → ℕ → ℕ → Clock
written_clock c n b =
    record {
      running = get_or (writings c.running b) n c.running;
      sub = sub_after n c.sub;
      time = c.time;
      latched = c.latched;
      frozen = pick c.latched (get_or (writings c.frozen b) n c.frozen) c.frozen;
    }

unfoldable pub written_of : Clock → ℕ → ℕ → Option Clock
written_of c n b = pick (ltb n 5) (Some (written_clock c n b)) None

-- Clock 10: "with bit 0 set freezes: the copy becomes what the running registers are then, unless the clock is frozen already.
-- One with bit 0 clear unfreezes"; Clock 11: "keeps what it has when the clock is unfrozen"
unfoldable pub latched_of : Clock → ℕ → Clock
latched_of c b =
    record {
      running = c.running;
      sub = c.sub;
      time = c.time;
      latched = eqb (b % 2) 1;
      frozen = pick (eqb (b % 2) 1) (pick c.latched c.frozen c.running) c.frozen;
    }
