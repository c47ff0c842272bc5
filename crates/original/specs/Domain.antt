-- The domain inside which the Rust is the oracle, a premise on a sequence of accesses over our own run of it (Original 2 and 3).
-- Each clause stands under the words that it says. No access makes a save or reads one; Original 3: "no save is read" is a clause
-- on a game (`original_saves` `Agrees.Unread`).
use Rattle.std.specs.Prelude.{Bool, true, not, List, [], ◌∷◌, ◌≡◌, ℕ, ◌+◌, ◌-◌, ◌%◌, eqb, leb}
use Rattle.facts.specs.Choice.{pick, both, either}
use Rattle.clock.specs.Ticking.{ticks, late}
use Rattle.mbc3.specs.declared.Mbc3 as declared
use Rattle.timer.specs.ClockWindow.{on_clock}
use Rattle.mapper.specs.Mappers.{bad_selection}
use Rattle.mapper.specs.declared.Mapper.{Mapper}
use Rattle.mapper.specs.declared.Mapper.TheVariants.{NoMapper, Mbc1, Mbc2, Mbc3, Mbc5}
use Rattle.access.specs.Verdict.{in_rom, in_ram}
use Rattle.bus.specs.Run.{Access, reads, writes, clocks, Machine, step_of}

-- ---- what is known of the accesses before

pub record Since : Type 0 where
  -- the seconds completed since the last unlatched clock read
  pub due : ℕ
  -- the clocks passed on an MBC3 without a timer: the Rust counts them, unseen, and we have no clock that does
  pub idle : ℕ

abbrev pub since : ℕ → ℕ → Since
since due idle = record { due = due; idle = idle }

-- the seconds that n clocks complete, Clock 2: "the time counts up by 1" with each
abbrev pub completed : declared.Mbc3 → ℕ → ℕ
completed m n = (ticks n m.clock).time - m.clock.time

-- Original 3: "a clock register is read while not frozen": it stands in the RAM window
abbrev pub unlatched_read : declared.Mbc3 → ℕ → Bool
unlatched_read m addr = both (in_ram addr) (both (on_clock m) (not m.clock.latched))

-- Original 3: "any latch write"
abbrev pub latch_write : ℕ → Bool
latch_write addr = both (leb 0x6000 addr) (leb addr 0x7FFF)

-- Original 3: "clock write"
abbrev pub clock_write : declared.Mbc3 → ℕ → Bool
clock_write m addr = both (in_ram addr) (on_clock m)

abbrev pub onward : declared.Mbc3 → Since → Access → Since
onward m s (reads addr) = pick (unlatched_read m addr) (since 0 s.idle) s
onward m s (writes addr byte) = s
onward m s (clocks n) = pick m.timer (since (s.due + completed m n) s.idle) (since s.due (s.idle + n))

-- ---- the clauses, of an MBC3 with a timer

-- Original 3: "after each whole second, before the next is whole and before any latch write, clock write or save, a clock register is
-- read while not frozen"
abbrev pub followed : Since → Access → declared.Mbc3 → Bool
followed s (reads addr) m = true
followed s (writes addr byte) m = either (eqb s.due 0) (not (either (latch_write addr) (clock_write m addr)))
followed s (clocks n) m = leb (s.due + completed m n) 1

-- Original 3: "no second passes in a freeze"
abbrev pub still : Access → declared.Mbc3 → Bool
still (reads addr) m = true
still (writes addr byte) m = true
still (clocks n) m = either (not m.clock.latched) (eqb (completed m n) 0)

-- Original 3: "the carry is never set": by no second and by no write, so it is clear after every access
abbrev pub clear : declared.Mbc3 → Bool
clear m = not m.clock.running.carry

-- Original 3: "nobody writes 60 to the minute or 24 to the hour"
abbrev pub proper : Access → declared.Mbc3 → Bool
proper (reads addr) m = true
proper (writes addr byte) m =
    not
    (both (clock_write m addr)
    (either (both (eqb m.register 1) (eqb (byte % 64) 60)) (both (eqb m.register 2) (eqb (byte % 32) 24))))
proper (clocks n) m = true

-- ---- and of every cartridge

-- what holds of an MBC3 with a timer, where the mapper is one
abbrev pub timed : (declared.Mbc3 → Bool) → Mapper → Bool
timed f (NoMapper m) = true
timed f (Mbc1 m) = true
timed f (Mbc2 m) = true
timed f (Mbc3 m) = either (not m.timer) (f m)
timed f (Mbc5 m) = true

abbrev pub since_after : Mapper → Since → Access → Since
since_after (NoMapper m) s a = s
since_after (Mbc1 m) s a = s
since_after (Mbc2 m) s a = s
since_after (Mbc3 m) s a = onward m s a
since_after (Mbc5 m) s a = s

-- and after a list of them, to a machine mounted from rom
abbrev pub since_of : List ℕ → Machine → Since → List Access → Since
since_of rom m s [] = s
since_of rom m s (a ∷ as') = since_of rom (step_of rom m a).left (since_after m.cart.mapper s a) as'

-- Original 2: "Accesses that 15 and 16 do not refuse"
abbrev pub reached : Access → Bool
reached (reads addr) = either (in_rom addr) (in_ram addr)
reached (writes addr byte) = either (in_rom addr) (in_ram addr)
reached (clocks n) = true

abbrev pub selects : Mapper → Access → Bool
selects m (reads addr) = true
selects m (writes addr byte) = not (bad_selection m addr byte)
selects m (clocks n) = true

-- no time passes 2^64 - 1 seconds, where we refuse with 17 and the Rust's u64 overflows: neither our clock's nor, without a
-- timer, the one that the Rust counts unseen
abbrev pub within : declared.Mbc3 → Since → Access → Bool
within m s (reads addr) = true
within m s (writes addr byte) = true
within m s (clocks n) = not (late m.clock (pick m.timer n (s.idle + n)))

abbrev pub in_time : Mapper → Since → Access → Bool
in_time (NoMapper m) s a = true
in_time (Mbc1 m) s a = true
in_time (Mbc2 m) s a = true
in_time (Mbc3 m) s a = within m s a
in_time (Mbc5 m) s a = true

-- one access to a mapper, that leaves it as next
pub record Allowed (m : Mapper) (s : Since) (a : Access) (next : Mapper) : Type 0 where
  pub address : reached a ≡ true
  pub selection : selects m a ≡ true
  pub time : in_time m s a ≡ true
  pub followed : timed (followed s a) m ≡ true
  pub still : timed (still a) m ≡ true
  pub clear : timed clear next ≡ true
  pub proper : timed (proper a) m ≡ true

-- what holds of each access of a sequence to a machine mounted from rom: of its mapper, of what was before, and of what it leaves
abbrev pub EachStep : (Mapper → Since → Access → Mapper → Type 0) → List ℕ → Machine → Since → List Access → Type 0
EachStep P rom m s [] = Unit {0}
EachStep P rom m s (a ∷ as') =
    let next = (step_of rom m a).left in
    P m.cart.mapper s a next.cart.mapper × EachStep P rom next (since_after m.cart.mapper s a) as'

abbrev pub InDomain : List ℕ → Machine → Since → List Access → Type 0
InDomain = EachStep Allowed
