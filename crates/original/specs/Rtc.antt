-- `RtcRegister` of mappers/mbc3.rs. A method with `&mut self` gives the next `self`, beside what it returns; the wall time is an
-- argument. `add_to_registers` and `update_registers` stand before their callers, the others in the Rust's order; `data` is
-- `byte`.
use Rattle.std.specs.Prelude.{Bool, false, not, ℕ, ◌/◌, ◌%◌, eqb, ltb}
use Rattle.std.specs.Int.Bits.{bit_and, bit_or}
use Rattle.facts.specs.Choice.{pick, both, bit}
use Rattle.original.specs.Machine.{
  Outcome,
  ok,
  panic,
  bind,
  as_u8,
  as_u16,
  shl_u8,
  shl_u16,
  shr,
  add_in,
  u8,
  u32,
  u64,
  checked_sub,
  wrapping_add_u64,
}

pub record RtcRegister : Type 0 where
  -- sub_second
  pub sub : ℕ
  pub seconds : ℕ
  pub minutes : ℕ
  pub hours : ℕ
  pub days : ℕ
  pub halt : Bool
  -- day_counter_carry
  pub carry : Bool
  -- last_latched_time
  pub last : ℕ
  pub latched : Bool
  -- current_time_secs
  pub now : ℕ

abbrev pub rtc : ℕ → ℕ → ℕ → ℕ → ℕ → Bool → Bool → ℕ → Bool → ℕ → RtcRegister
rtc sub seconds minutes hours days halt carry last latched now =
    record {
      sub = sub;
      seconds = seconds;
      minutes = minutes;
      hours = hours;
      days = days;
      halt = halt;
      carry = carry;
      last = last;
      latched = latched;
      now = now;
    }

-- `const ONE_SECOND_MAPPER_CLOCKS: u32 = 4194304 / 2;`
abbrev pub one_second : ℕ
one_second = 4194304 / 2

-- `Default::default`
abbrev pub default : ℕ → RtcRegister
default wall = rtc 0 0 0 0 0 false false wall false wall

-- `self.last_latched_time = t;`
abbrev pub set_last : RtcRegister → ℕ → RtcRegister
set_last self t =
    rtc self.sub self.seconds self.minutes self.hours self.days self.halt self.carry t self.latched
    self.now

-- `field = (field + more) & mask; if field == stop { next += 1; field = 0; }`, with field a u8 and next a word of w values:
-- field and next
abbrev pub added : ℕ → ℕ → ℕ → ℕ → ℕ → ℕ → Outcome (ℕ × ℕ)
added mask stop w field more next =
    bind (add_in u8 field more) (λ sum.
    pick (eqb (bit_and sum mask) stop) (bind (add_in w next 1) (λ next'. ok (0, next'))) (ok (bit_and sum mask, next)))

unfoldable pub add_to_registers : RtcRegister → ℕ → ℕ → ℕ → ℕ → Outcome RtcRegister
add_to_registers self seconds minutes hours days =
    bind (added 0x3F 60 u8 self.seconds seconds minutes) (λ s.
    bind (added 0x3F 60 u8 self.minutes s.1 hours) (λ m.
    bind (added 0x1F 24 u64 self.hours m.1 days) (λ h.
    let days' = as_u16 (wrapping_add_u64 self.days h.1) in
    ok
    (rtc self.sub s.0 m.0 h.0 (bit_and days' 0x1FF) self.halt (ltb 0x1FF days') self.last self.latched
    self.now))))

unfoldable pub update_registers : RtcRegister → Outcome RtcRegister
update_registers self =
    pick self.halt (ok self)
    (checked_sub self.now self.last
    (λ diff.
    pick (not (eqb diff 0))
    (bind
    (add_to_registers self (as_u8 (diff % 60)) (as_u8 (diff / 60 % 60)) (as_u8 (diff / 60 / 60 % 24)) (diff / 60 / 60 / 24))
    (λ self'. ok (set_last self' self.now)))
    (ok self))
    (ok (set_last self self.now)))

-- the `match index` of `read_register`
abbrev pub shown : RtcRegister → ℕ → Outcome ℕ
shown self index =
    pick (eqb index 0) (ok self.seconds)
    (pick (eqb index 1) (ok self.minutes)
    (pick (eqb index 2) (ok self.hours)
    (pick (eqb index 3) (ok (as_u8 (bit_and self.days 0xFF)))
    (pick (eqb index 4)
    (ok
    (bit_or (bit_or (shl_u8 (bit self.carry) 7) (shl_u8 (bit self.halt) 6)) (as_u8 (bit_and (shr self.days 8) 1))))
    panic))))

unfoldable pub read_register : RtcRegister → ℕ → Outcome (RtcRegister × ℕ)
read_register self index =
    bind (pick (not self.latched) (update_registers self) (ok self)) (λ self'.
    bind (shown self' index) (λ byte. ok (self', byte)))

-- the `match index` of `write_register`
abbrev pub set : RtcRegister → ℕ → ℕ → Outcome RtcRegister
set self index byte =
    pick (eqb index 0)
    (ok
    (rtc 0 (bit_and byte 0x3F) self.minutes self.hours self.days self.halt self.carry self.last self.latched
    self.now))
    (pick (eqb index 1)
    (ok
    (rtc self.sub self.seconds (bit_and byte 0x3F) self.hours self.days self.halt self.carry self.last
    self.latched self.now))
    (pick (eqb index 2)
    (ok
    (rtc self.sub self.seconds self.minutes (bit_and byte 0x1F) self.days self.halt self.carry self.last
    self.latched self.now))
    (pick (eqb index 3)
    (ok
    (rtc self.sub self.seconds self.minutes self.hours (bit_or (bit_and self.days 0x100) (as_u16 byte)) self.halt
    self.carry self.last self.latched self.now))
    (pick (eqb index 4)
    (ok
    (rtc self.sub self.seconds self.minutes self.hours
    (bit_or (bit_and self.days 0xFF) (shl_u16 (as_u16 (bit_and byte 1)) 8)) (eqb (bit_and (shr byte 6) 1) 1)
    (eqb (bit_and (shr byte 7) 1) 1) self.last self.latched self.now))
    panic))))

unfoldable pub write_register : RtcRegister → ℕ → ℕ → Outcome RtcRegister
write_register self index byte =
    let old-halt = self.halt in
    bind (set self index byte) (λ self'. ok (pick (both old-halt (not self'.halt)) (set_last self' self'.now) self'))

unfoldable pub set_latch : RtcRegister → Bool → Outcome RtcRegister
set_latch self value =
    let self' =
    rtc self.sub self.seconds self.minutes self.hours self.days self.halt self.carry self.last value
    self.now in
    pick (not self'.latched) (update_registers self') (ok self')

unfoldable pub clock_second_part : RtcRegister → Outcome RtcRegister
clock_second_part self =
    pick (not self.halt)
    (bind (add_in u32 self.sub 1) (λ sub.
    pick (eqb sub one_second)
    (bind (add_in u64 self.now 1) (λ now.
    ok
    (rtc 0 self.seconds self.minutes self.hours self.days self.halt self.carry self.last self.latched
    now)))
    (ok
    (rtc sub self.seconds self.minutes self.hours self.days self.halt self.carry self.last self.latched
    self.now))))
    (ok self)
