-- Where the domain is left, the Rust and we part: for each exclusion a state that both share and a few accesses that they answer
-- otherwise, with the clause that these leave. And a sequence inside, with seconds, latches, writes and a halt.
use Rattle.std.specs.Prelude.{true, false, List, [], ◌∷◌, ◌≡◌, ℕ, ◌+◌}
use Rattle.clock_registers.specs.Seconds.{seconds_on}
use Rattle.clock_registers.specs.Access.{registers, zeros}
use Rattle.clock_registers.specs.declared.Registers.{Registers}
use Rattle.clock.specs.declared.Clock.{Clock}
use Rattle.mbc3.specs.Registers as mbc3
use Rattle.mbc3.specs.declared.Mbc3 as declared
use Rattle.mapper.specs.declared.Mapper.TheVariants.{Mbc3}
use Rattle.bus.specs.Run.{Access, reads, writes, clocks, Answer, gave, took, refused, Machine, run_of, Ready}
use Rattle.runs.specs.Padded.{padded}
use Rattle.original.specs.Machine.{Outcome, ok, panic, bind}
use Rattle.original.specs.Rtc as rtc
use Rattle.original.specs.Mbc3 as rust
use Rattle.original.specs.MappingResult as type
use Rattle.original.specs.Mapper as original
use Rattle.original.specs.Cartridge as cartridge
use Rattle.original.specs.Domain.{since}
use Rattle.original.specs.Clauses.{Tests, tests, all_hold, kept}
use Rattle.original.specs.Follows.{rtc_of, mbc3_of}
use Rattle.original.specs.Same.{Same}
use Rattle.original.specs.Step.{original_run}

-- ---- a row: a state, accesses, and the answers of both

-- one clock before a second: the Rust's registers say so many seconds past midnight, of the time `last`, and ours are due
-- seconds ahead
pub record Row : Type 0 where
  pub due : ℕ
  pub second : ℕ
  pub last : ℕ
  -- the register in the window
  pub register : ℕ
  pub accesses : List Access
  -- which clauses they keep
  pub keeps : Tests
  pub ours : List Answer
  pub theirs : Outcome (List Answer)

abbrev pub registers_of : Row → Registers
registers_of r = registers r.second 0 0 0 false false

abbrev pub clock_of : Row → Clock
clock_of r =
    record {
      running = seconds_on r.due (registers_of r);
      sub = 2097151;
      time = r.last + r.due;
      latched = false;
      frozen = zeros;
    }

-- an empty image makes two banks of zeros; no RAM
abbrev pub mapper_of : Row → declared.Mbc3
mapper_of r = mbc3.mbc3 true true 1 false 0 r.register (clock_of r)

abbrev pub machine_of : Row → Machine
machine_of r =
    record { cart = record { length = 0; banks = 2; size = 0; battery = true; mapper = Mbc3 (mapper_of r) }; area = [] }

abbrev pub rtc_at : Row → rtc.RtcRegister
rtc_at r = rtc_of (clock_of r) (registers_of r) r.last

abbrev pub rust_of : Row → rust.Mbc3
rust_of r = mbc3_of 2 0 (mapper_of r) (rtc_at r)

abbrev pub cartridge_of : Row → cartridge.Cartridge
cartridge_of r =
    record {
      title = [];
      type = cartridge.cartridge_type (type.Mbc3 true) false true;
      device = cartridge.Dmg;
      mapper = original.Mbc3 (rust_of r);
      rom = padded [];
      ram = [];
    }

-- the state is one that both share, the accesses keep these clauses, and both answer so
pub record Holds (r : Row) : Type 0 where
  pub ready : Ready [] (machine_of r)
  pub shared : Same [] (since r.due 0) (machine_of r) (cartridge_of r)
  pub keeps : kept [] (machine_of r) (since r.due 0) r.accesses ≡ r.keeps
  pub ours : (run_of [] (machine_of r) r.accesses).answers ≡ r.ours
  pub theirs : bind (original_run (cartridge_of r) r.accesses) (λ x. ok x.answers) ≡ r.theirs

-- ---- the rows

abbrev from : ℕ → ℕ → ℕ → ℕ → Tests → List Access → List Answer → Outcome (List Answer) → Row
from due second last n ts as' xs ys =
    record {
      due = due;
      second = second;
      last = last;
      register = n;
      accesses = as';
      keeps = ts;
      ours = xs;
      theirs = ys;
    }

-- all clauses but one
abbrev late : Tests
late = tests true true false true true true true

abbrev not_followed : Tests
not_followed = tests true true true false true true true

abbrev not_clear : Tests
not_clear = tests true true true true true false true

abbrev not_proper : Tests
not_proper = tests true true true true true true false

-- Original 3: "the carry is never set": 0x80 written to register 4, and a second later
abbrev pub carry_set : Row
carry_set =
    from 0 0 0 4 not_clear (writes 0xA000 0x80 ∷ clocks 1 ∷ reads 0xA000 ∷ []) (took ∷ took ∷ gave 0x80 ∷ [])
    (ok (took ∷ took ∷ gave 0 ∷ []))

-- Original 3: "nobody writes 60 to the minute"
abbrev pub minute_sixty : Row
minute_sixty =
    from 0 0 0 1 not_proper (writes 0xA000 60 ∷ clocks 1 ∷ reads 0xA000 ∷ []) (took ∷ took ∷ gave 60 ∷ [])
    (ok (took ∷ took ∷ gave 0 ∷ []))

-- Original 3: "nobody writes .. 24 to the hour"
abbrev pub hour_twenty_four : Row
hour_twenty_four =
    from 0 0 0 2 not_proper (writes 0xA000 24 ∷ clocks 1 ∷ reads 0xA000 ∷ []) (took ∷ took ∷ gave 24 ∷ [])
    (ok (took ∷ took ∷ gave 0 ∷ []))

-- Original 3: "no second passes in a freeze": the 60th, and then the minute is written. (While frozen no unlatched read can follow, so
-- the clause before is left too; a second that only latched reads follow shows nothing.)
abbrev pub while_frozen : Row
while_frozen =
    from 0 59 0 1 (tests true true true false false true true)
    (writes 0x6000 1 ∷ clocks 1 ∷ writes 0xA000 5 ∷ writes 0x6000 0 ∷ reads 0xA000 ∷ [])
    (took ∷ took ∷ took ∷ took ∷ gave 5 ∷ []) (ok (took ∷ took ∷ took ∷ took ∷ gave 6 ∷ []))

-- Original 3: "after each whole second .. before any latch write": we freeze the registers as they are; Clock 10: "the Rust's, which
-- freezes what was last read"
abbrev pub before_latch : Row
before_latch =
    from 0 0 0 0 not_followed (clocks 1 ∷ writes 0x6000 1 ∷ reads 0xA000 ∷ []) (took ∷ took ∷ gave 1 ∷ [])
    (ok (took ∷ took ∷ gave 0 ∷ []))

-- Original 3: "after each whole second .. before any .. clock write"
abbrev pub before_write : Row
before_write =
    from 0 59 0 1 not_followed (clocks 1 ∷ writes 0xA000 5 ∷ reads 0xA000 ∷ []) (took ∷ took ∷ gave 5 ∷ [])
    (ok (took ∷ took ∷ gave 6 ∷ []))

-- Original 3: "before the next is whole": at 00:01:00 the Rust's registers still say 00:00:59, and two seconds in one jump pass 60
abbrev pub before_next : Row
before_next =
    from 1 59 0 0 not_followed (clocks 1 ∷ reads 0xA000 ∷ []) (took ∷ gave 1 ∷ []) (ok (took ∷ gave 61 ∷ []))

-- the time passes 2^64 - 1 seconds
abbrev pub time_over : Row
time_over = from 0 0 18446744073709551615 0 late (clocks 1 ∷ []) (refused 17 ∷ []) panic

-- Original 2: "Accesses that 15 and 16 do not refuse": no function serves the address, and the selection is an assert
abbrev pub elsewhere : Row
elsewhere = from 0 0 0 0 (tests false true true true true true true) (reads 0x8000 ∷ []) (refused 15 ∷ []) panic

abbrev pub bad_selection : Row
bad_selection = from 0 0 0 0 (tests true false true true true true true) (writes 0x4000 5 ∷ []) (refused 16 ∷ []) panic

-- inside: the minute is reached and read, frozen and written; the clock is halted, stands, and goes on
abbrev answers_inside : List Answer
answers_inside =
    took ∷ gave 1 ∷ took ∷ gave 1 ∷ took ∷ took ∷ took ∷ gave 7 ∷ took ∷ took ∷ took ∷ gave 0x40 ∷ took ∷ took ∷ gave 0 ∷ []

abbrev pub within : Row
within =
    from 0 59 0 1 all_hold
    (clocks 1
    ∷ reads 0xA000
    ∷ writes 0x6000 1
    ∷ reads 0xA000
    ∷ clocks 5
    ∷ writes 0xA000 7
    ∷ writes 0x6000 0
    ∷ reads 0xA000
    ∷ writes 0x4000 0x0C
    ∷ writes 0xA000 0x40
    ∷ clocks 9
    ∷ reads 0xA000
    ∷ writes 0xA000 0x00
    ∷ clocks 3
    ∷ reads 0xA000
    ∷ [])
    answers_inside (ok answers_inside)

pub data AllHold : List Row → Type 0 where
  end : AllHold []
  row : {r : Row} {rs : List Row} → Holds r → AllHold rs → AllHold (r ∷ rs)

-- all of them
abbrev pub rows : List Row
rows =
    within ∷ carry_set ∷ minute_sixty ∷ hour_twenty_four ∷ while_frozen ∷ before_latch ∷ before_write ∷ before_next ∷ time_over ∷ elsewhere
    ∷ bad_selection ∷ []
