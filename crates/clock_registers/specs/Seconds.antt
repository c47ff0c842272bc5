-- One second of the registers, n seconds, and what stepping answers (Clock 3, Clock 4).
use Rattle.std.specs.Prelude.{Bool, ℕ, zero, suc, Some, None, Option}
use Rattle.facts.specs.Choice.{pick, both, either}
use Rattle.facts.specs.Counter.{Counter, cyclic, plain, carries, step, step_if}
use Rattle.clock_registers.specs.Fit.{fit_registers}
use Rattle.clock_registers.specs.declared.Registers.{Registers}

-- Clock 3: "the second counts up by 1, modulo 64. If that makes it 60, it goes to 0 and the minute steps, by the same rule"
abbrev pub sixty : Counter
sixty = cyclic 64 60

-- Clock 3: "the hour counts up by 1, modulo 32; if that makes it 24, it goes to 0"
abbrev pub hours : Counter
hours = cyclic 32 24

-- Clock 3: "the day counts up by 1. After 511 the day is 0, and the carry is set"
abbrev pub days : Counter
days = plain 512

-- whether the minute, the hour, the day and the carry move in a second: the place before carries. Clock 3: "a register that
-- stands at its stop or above it .. moves no other"
abbrev pub minute_moves : Registers → Bool
minute_moves r = carries sixty r.second

abbrev pub hour_moves : Registers → Bool
hour_moves r = both (minute_moves r) (carries sixty r.minute)

abbrev pub day_moves : Registers → Bool
day_moves r = both (hour_moves r) (carries hours r.hour)

abbrev pub carry_sets : Registers → Bool
carry_sets r = both (day_moves r) (carries days r.day)

-- one second; Clock 4: "The carry stays until a write to register 4 clears it"
unfoldable pub second_on : Registers → Registers
second_on r =
    record {
      second = step sixty r.second;
      minute = step_if sixty (minute_moves r) r.minute;
      hour = step_if hours (hour_moves r) r.hour;
      day = step_if days (day_moves r) r.day;
      halt = r.halt;
      carry = either r.carry (carry_sets r);
    }

unfoldable pub seconds_on : ℕ → Registers → Registers
seconds_on zero r = r
seconds_on (suc n) r = second_on (seconds_on n r)

-- Save 8: "the registers step, by Clock 3, as many seconds", where they are fit by Fit 9
unfoldable pub forward_of : Registers → ℕ → Option Registers
forward_of r n = pick (fit_registers r) (Some (seconds_on n r)) None
