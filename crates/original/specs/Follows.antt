-- The Rust's MBC3 and its RTC beside ours: what the one is where the other is known.
use Rattle.std.specs.Prelude.{Bool, true, false, ◌≡◌, ℕ, zero, suc, ◌+◌, ◌/◌, ◌<◌, ◌≤◌, eqb}
use Rattle.facts.specs.Choice.{pick}
use Rattle.clock_registers.specs.Seconds.{seconds_on}
use Rattle.clock_registers.specs.declared.Registers.{Registers}
use Rattle.clock.specs.Ticking.{ticks}
use Rattle.clock.specs.declared.Clock.{Clock}
use Rattle.mbc3.specs.declared.Mbc3 as declared
use Rattle.mbc3.specs.Registers.{ram_at}
use Rattle.timer.specs.ClockWindow.{on_clock, window_read}
use Rattle.original.specs.Machine.{Outcome, ok, bind}
use Rattle.original.specs.Rtc.{RtcRegister, rtc, clock_second_part}
use Rattle.original.specs.MappingResult as to
use Rattle.original.specs.MappingResult.{MappingResult}
use Rattle.original.specs.Mbc3.{Mbc3, mbc3, clock}
use Rattle.original.specs.Place.{result_of}
use Rattle.original.specs.Domain.{Since}
use Rattle.clock_registers.specs.Fit.{Fit}

-- n calls of `clock_second_part`, and of `clock`
unfoldable pub second_parts : ℕ → RtcRegister → Outcome RtcRegister
second_parts zero r = ok r
second_parts (suc n) r = bind (second_parts n r) clock_second_part

unfoldable pub clocks_on : ℕ → Mbc3 → Outcome Mbc3
clocks_on zero u = ok u
clocks_on (suc n) u = bind (clocks_on n u) clock

-- the RTC with the registers q, last updated at `last`, where our clock is c
abbrev pub rtc_of : Clock → Registers → ℕ → RtcRegister
rtc_of c q last =
    rtc c.sub q.second q.minute q.hour q.day q.halt q.carry last c.latched c.time

-- our clock c is due seconds ahead of the registers q, and the time of the second `last`
pub record Ahead (due : ℕ) (c : Clock) (q : Registers) (last : ℕ) : Type 0 where
  pub running : c.running ≡ seconds_on due q
  pub time : c.time ≡ last + due
  -- frozen: our copy is what runs, and nothing is due
  pub copy : c.latched ≡ true → c.frozen ≡ c.running
  pub frozen : c.latched ≡ true → due ≡ 0
  pub halted : q.halt ≡ true → due ≡ 0
  -- no carry, no minute 60, no hour 24, and all within their widths
  pub clear : c.running.carry ≡ false
  pub carry : q.carry ≡ false
  pub minute : q.minute ≡ 60 → ⊥
  pub hour : q.hour ≡ 24 → ⊥
  pub fit : Fit q
  pub sub : c.sub < 2097152

-- the Rust's RTC follows our clock, with due seconds not in its registers yet
pub record Follows (due : ℕ) (c : Clock) (r : RtcRegister) : Type 0 where
  pub registers : Registers
  pub last : ℕ
  pub is : r ≡ rtc_of c registers last
  pub ahead : Ahead due c registers last

-- it counts as our clock does; of one that no cartridge shows no more is known
pub record Counts (c : Clock) (r : RtcRegister) : Type 0 where
  pub sub : r.sub ≡ c.sub
  pub time : r.now ≡ c.time
  pub halt : r.halt ≡ c.running.halt
  pub room : c.sub < 2097152

-- with a timer it follows; without one ours stands and the Rust's counts on
abbrev pub Clocked : Bool → Since → Clock → RtcRegister → Type 0
Clocked true s c r = Follows s.due c r
Clocked false s c r = Counts (ticks s.idle c) r

-- the Rust's MBC3 of so many banks and so much RAM, with the RTC r, where ours is m
abbrev pub mbc3_of : ℕ → ℕ → declared.Mbc3 → RtcRegister → Mbc3
mbc3_of banks size m r =
    mbc3 banks (eqb size 0x800) (size / 0x2000) m.timer m.bank m.ram m.register r m.enabled m.memory

pub record Same (banks size : ℕ) (s : Since) (m : declared.Mbc3) (u : Mbc3) : Type 0 where
  pub rtc : RtcRegister
  pub is : u ≡ mbc3_of banks size m rtc
  pub clocked : Clocked m.timer s m.clock rtc
  pub register : m.register < 5
  -- Original 3: "after each whole second, before the next is whole .. a clock register is read while not frozen"
  pub few : s.due ≤ 1

-- what the window is to the Rust; Bus 6: "What is not mapped reads 0xFF, and a write there changes nothing"
abbrev pub shown_at : declared.Mbc3 → ℕ → ℕ → MappingResult
shown_at m size at =
    pick m.memory (result_of (ram_at m size at)) (pick (on_clock m) (to.Value (window_read m)) to.NotMapped)

abbrev pub stored_at : declared.Mbc3 → ℕ → ℕ → MappingResult
stored_at m size at = pick m.memory (result_of (ram_at m size at)) to.NotMapped
