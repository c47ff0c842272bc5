-- The Rust's MBC3 whose registers are ours, method by method: what it does is what its RTC does, and all else is as ours. Nothing is
-- asked of the RTC.
use Rattle.std.specs.Prelude.{Some, None}
use mathlib.Core.Bool.{Bool, true, false, not}
use mathlib.Core.Path.{◌≡◌, refl, ap, ◌∙◌}
use Prim.Native.Nat.{ℕ, zero, suc, ◌+◌, ◌-◌, ◌*◌, ◌/◌, ◌%◌, ◌<◌}
use native.Mathlib.Nat.{mod-eq_of_lt}
use native.Mathlib.Omega.{arith}
use lib.Bits.{bit_and, and_mask}
use lib.Dec.{eqb, ltb, leb}
use borrow.Author.Tests.{lt-leb, le-leb, le-ltb, lt-ltb, ltb-true, ltb-false, leb-true, ne_eqb, eq-eqb}
use Rattle.facts.specs.Choice.{pick, both, either}
use Rattle.facts.proofs.ChoiceLaws.{false≢true, both_parts, pick_has, pick_cases}
use Rattle.facts.specs.Banking.{place_of}
use Rattle.banking.specs.Banks.{or_one, rom_place, banked_place}
use Rattle.clock.specs.Access.{latched_of}
use Rattle.mbc3.specs.Registers as ours
use Rattle.mbc3.specs.declared.Mbc3 as declared
use Rattle.timer.specs.ClockWindow.{on_clock}
use Rattle.original.specs.Machine.{Outcome, ok, panic, bind, assert, sub}
use Rattle.original.specs.MappingResult as to
use Rattle.original.specs.MappingResult.{MappingResult}
use Rattle.original.specs.Rtc.{RtcRegister, read_register, write_register, set_latch, clock_second_part}
use Rattle.original.specs.Mbc3.{
  Mbc3,
  map_read_rom0,
  map_read_romx,
  map_ram,
  rtc_read,
  rtc_write,
  map_ram_read,
  map_ram_write,
  write_bank_controller_register,
  clock,
}
use Rattle.original.specs.Domain.{latch_write}
use Rattle.original.specs.Place.{result_of}
use Rattle.original.specs.Follows.{second_parts, clocks_on, mbc3_of, stored_at}
use Rattle.original.proofs.MachineLaws.{inside, outside, rom_banked, rom_first}

-- ---- places in the ROM

module _ (banks size : ℕ) (m : declared.Mbc3) (r : RtcRegister) (at : ℕ) where
  pub rom_0 : at < 0x4000 → ok (map_read_rom0 (mbc3_of banks size m r) at) ≡ ok (rom_place banks (ours.bank0 m) at)
  unfolding map_read_rom0
  rom_0 h = rom_first banks at h

  pub rom_x : 0 < banks → map_read_romx (mbc3_of banks size m r) at ≡ ok (rom_place banks (ours.bank_x m) at)
  unfolding map_read_romx
  rom_x pos = rom_banked (ours.bank_x m) banks at pos

  -- ---- in RAM: no whole bank, which 2 KiB is not, is tested first

  pub ram_place_lem : map_ram (mbc3_of banks size m r) at ≡ ok (result_of (banked_place size m.ram at))
  unfolding map_ram banked_place place_of
  ram_place_lem = go (ltb size 0x2000) refl
    where
      go : (t : Bool) → ltb size 0x2000 ≡ t
          → map_ram (mbc3_of banks size m r) at ≡ ok
          (result_of (pick t None (Some (m.ram % (size / 0x2000) * 0x2000 + at % 0x2000))))
      go true e =
          let h = ltb-true size 0x2000 e in
          let z : size / 0x2000 ≡ 0 = omega arith in
          rw (eq-eqb (size / 0x2000) 0 z) refl
      go false e =
          let h = ltb-false size 0x2000 e in
          let z : eqb (size / 0x2000) 0 ≡ false = ne_eqb (size / 0x2000) 0 (λ q. omega arith) in
          rw (z, ne_eqb size 0x800 (λ q. omega arith), and_mask at 13) refl

-- what a read comes to where a clock register shows the byte b
abbrev pub shown_with : ℕ → declared.Mbc3 → ℕ → ℕ → MappingResult
shown_with b m size at = pick m.memory (result_of (ours.ram_at m size at)) (pick (on_clock m) (to.Value b) to.NotMapped)

module _ (banks size : ℕ) (m : declared.Mbc3) (r : RtcRegister) where
  self : Mbc3
  self = mbc3_of banks size m r

  abbrev mapped : Mbc3 → MappingResult → Outcome (Mbc3 × MappingResult)
  mapped u x = ok (u, x)

  ram_mapped : (at : ℕ) → bind (map_ram self at) (mapped self) ≡ mapped self (result_of (banked_place size m.ram at))
  unfolding self
  ram_mapped at = ap (λ (o : Outcome MappingResult). bind o (mapped (mbc3_of banks size m r))) (ram_place_lem banks size m r at)

  -- ---- a read of the RAM window

  rtc_read_lem : bind (rtc_read self) (λ x. mapped x.0 (to.Value x.1))
      ≡ bind (read_register r m.register) (λ x. mapped (mbc3_of banks size m x.0) (to.Value x.1))
  unfolding self rtc_read
  rtc_read_lem = go (read_register r m.register)
    where
      go : (o : Outcome (RtcRegister × ℕ))
          → bind (bind {B = Mbc3 × ℕ} o (λ x. ok (mbc3_of banks size m x.0, x.1))) (λ x. mapped x.0 (to.Value x.1))
          ≡ bind o (λ x. mapped (mbc3_of banks size m x.0) (to.Value x.1))
      go (ok x) = refl
      go panic = refl

  read_by_lem : (at : ℕ) (t e f : Bool)
      → pick e
      (pick f (bind (map_ram self at) (mapped self))
      (pick t (bind (rtc_read self) (λ x. mapped x.0 (to.Value x.1))) (mapped self to.NotMapped)))
      (mapped self to.NotMapped)
      ≡ bind (pick (both t (both e (not f))) (read_register r m.register) (ok (r, 0xFF)))
      (λ x.
      mapped (mbc3_of banks size m x.0)
      (pick f (result_of (pick (both e f) (banked_place size m.ram at) None))
      (pick (both t (both e (not f))) (to.Value x.1) to.NotMapped)))
  unfolding self
  read_by_lem at true true true = ram_mapped at
  read_by_lem at false true true = ram_mapped at
  read_by_lem at true true false = rtc_read_lem
  read_by_lem at false true false = refl
  read_by_lem at true false true = refl
  read_by_lem at true false false = refl
  read_by_lem at false false true = refl
  read_by_lem at false false false = refl

  pub read_is : (at : ℕ)
      → map_ram_read (mbc3_of banks size m r) at
      ≡ bind (pick (on_clock m) (read_register r m.register) (ok (r, 0xFF)))
      (λ x. ok (mbc3_of banks size m x.0, shown_with x.1 m size at))
  unfolding self map_ram_read ours.ram_at
  read_is at = read_by_lem at m.timer m.enabled m.memory

  -- ---- a write to it

  rtc_write_lem : (byte : ℕ)
      → bind (rtc_write self byte) (λ v. mapped v to.NotMapped)
      ≡ bind (write_register r m.register byte) (λ x. mapped (mbc3_of banks size m x) to.NotMapped)
  unfolding self rtc_write
  rtc_write_lem byte = go (write_register r m.register byte)
    where
      go : (o : Outcome RtcRegister)
          → bind (bind o (λ x. ok (mbc3_of banks size m x))) (λ v. mapped v to.NotMapped)
          ≡ bind o (λ x. mapped (mbc3_of banks size m x) to.NotMapped)
      go (ok x) = refl
      go panic = refl

  write_by_lem : (at byte : ℕ) (t e f : Bool)
      → pick e
      (pick f (bind (map_ram self at) (mapped self)) (bind (pick t (rtc_write self byte) (ok self)) (λ v. mapped v to.NotMapped)))
      (mapped self to.NotMapped)
      ≡ bind (pick (both t (both e (not f))) (write_register r m.register byte) (ok r))
      (λ x.
      mapped (mbc3_of banks size m x)
      (pick f (result_of (pick (both e f) (banked_place size m.ram at) None)) to.NotMapped))
  unfolding self
  write_by_lem at byte true true true = ram_mapped at
  write_by_lem at byte false true true = ram_mapped at
  write_by_lem at byte true true false = rtc_write_lem byte
  write_by_lem at byte false true false = refl
  write_by_lem at byte true false true = refl
  write_by_lem at byte true false false = refl
  write_by_lem at byte false false true = refl
  write_by_lem at byte false false false = refl

  pub write_is : (at byte : ℕ)
      → map_ram_write (mbc3_of banks size m r) at byte
      ≡ bind (pick (on_clock m) (write_register r m.register byte) (ok r))
      (λ x. ok (mbc3_of banks size m x, stored_at m size at))
  unfolding self map_ram_write ours.ram_at
  write_is at byte = write_by_lem at byte m.timer m.enabled m.memory

  -- ---- clocks

  pub clocks_is : (n : ℕ) → clocks_on n (mbc3_of banks size m r) ≡ bind (second_parts n r) (λ x. ok (mbc3_of banks size m x))
  unfolding clocks_on second_parts clock
  clocks_is zero = refl
  clocks_is (suc n) = ap (λ (o : Outcome Mbc3). bind o clock) (clocks_is n) ∙ go (second_parts n r)
    where
      go : (o : Outcome RtcRegister)
          → bind (bind o (λ x. ok (mbc3_of banks size m x))) clock ≡ bind (bind o clock_second_part)
          (λ x. ok (mbc3_of banks size m x))
      go (ok x) = refl
      go panic = refl

  -- ---- a register write, of a selection that 16 does not refuse

  selects : (byte : ℕ) → ours.selectable byte ≡ true
      → assert (either (leb (bit_and byte 0xF) 3) (both (leb 0x8 (bit_and byte 0xF)) (leb (bit_and byte 0xF) 0xC)))
      (pick (leb (bit_and byte 0xF) 3)
      (ok (mbc3_of banks size (ours.mbc3 m.timer m.enabled m.bank true (bit_and (bit_and byte 0xF) 3) m.register m.clock) r))
      (bind (sub (bit_and byte 0xF) 0x8) (λ n.
      ok (mbc3_of banks size (ours.mbc3 m.timer m.enabled m.bank false m.ram n m.clock) r))))
      ≡ ok (mbc3_of banks size (ours.selected m byte) r)
  unfolding ours.selected ours.selectable
  selects byte h = rw (and_mask byte 4) (go (ours.for_ram byte) (ours.for_clock byte) refl refl h)
    where
      go : (t c : Bool) → ours.for_ram byte ≡ t → ours.for_clock byte ≡ c → either t c ≡ true
          → assert (either (leb (byte % 16) 3) (both (leb 0x8 (byte % 16)) (leb (byte % 16) 0xC)))
          (pick (leb (byte % 16) 3)
          (ok (mbc3_of banks size (ours.mbc3 m.timer m.enabled m.bank true (bit_and (byte % 16) 3) m.register m.clock) r))
          (bind (sub (byte % 16) 0x8) (λ n.
          ok (mbc3_of banks size (ours.mbc3 m.timer m.enabled m.bank false m.ram n m.clock) r))))
          ≡ ok (mbc3_of banks size
          (pick t (ours.mbc3 m.timer m.enabled m.bank true (byte % 16) m.register m.clock)
          (pick c (ours.mbc3 m.timer m.enabled m.bank false m.ram (byte % 16 - 8) m.clock) m)) r)
      go true c p q e =
          let low = leb-true (byte % 16) 3 p in
          let four : bit_and (byte % 16) 3 ≡ byte % 16 = and_mask (byte % 16) 2 ∙ mod-eq_of_lt (omega arith) in
          rw (p, four) refl
      go false true p q e =
          let parts = both_parts (leb 8 (byte % 16)) (leb (byte % 16) 0xC) q in
          let low = leb-true 8 (byte % 16) parts.0 in
          rw (p, parts.0, parts.1, le-ltb (byte % 16) 8 low) refl
      go false false p q e = false≢true e

  latches : (byte : ℕ) (t : Bool)
      → pick t (bind (set_latch r (eqb (bit_and byte 1) 1)) (λ x. ok (mbc3_of banks size m x))) (ok (mbc3_of banks size m r))
      ≡ bind (pick t (set_latch r (eqb (bit_and byte 1) 1)) (ok r))
      (λ x. ok (mbc3_of banks size (pick t (ours.with_clock m (latched_of m.clock byte)) m) x))
  latches byte true = refl
  latches byte false = refl

  by_range : (at byte : ℕ) (a b c : Bool) → ltb at 0x2000 ≡ a → ltb at 0x4000 ≡ b → ltb at 0x6000 ≡ c → at < 0x8000 → byte < 256
      → (both (leb 0x4000 at) (leb at 0x5FFF) ≡ true → ours.selectable byte ≡ true)
      → write_bank_controller_register (mbc3_of banks size m r) at byte
      ≡ bind (pick (both (latch_write at) m.timer) (set_latch r (eqb (bit_and byte 1) 1)) (ok r))
      (λ x.
      ok
      (mbc3_of banks size
      (pick a (ours.mbc3 m.timer (eqb (byte % 16) 0xA) m.bank m.memory m.ram m.register m.clock)
      (pick b (ours.mbc3 m.timer m.enabled (or_one byte) m.memory m.ram m.register m.clock)
      (pick c (ours.selected m byte) (ours.latched m byte)))) x))
  unfolding write_bank_controller_register or_one ours.latched
  by_range at byte true b c p q w h o sel =
      let l = ltb-true at 0x2000 p in
      rw (le-leb at 0x1FFF (omega arith), and_mask byte 4, lt-leb 0x6000 at (omega arith)) refl
  by_range at byte false true c p q w h o sel =
      let l = ltb-false at 0x2000 p in
      let k = ltb-true at 0x4000 q in
      let e : byte % 65536 ≡ byte = omega arith in
      rw (lt-leb at 0x1FFF (omega arith), inside 0x2000 0x3FFF at l (omega arith), e, lt-leb 0x6000 at (omega arith)) refl
  by_range at byte false false true p q w h o sel =
      let l = ltb-false at 0x4000 q in
      let k = ltb-true at 0x6000 w in
      let i = inside 0x4000 0x5FFF at l (omega arith) in
      rw (lt-leb at 0x1FFF (omega arith), outside 0x2000 0x3FFF at (omega arith), i, lt-leb 0x6000 at (omega arith))
      (selects byte (sel i))
  by_range at byte false false false p q w h o sel =
      let l = ltb-false at 0x6000 w in
      let i = inside 0x6000 0x7FFF at l (omega arith) in
      rw (lt-leb at 0x1FFF (omega arith), outside 0x2000 0x3FFF at (omega arith), outside 0x4000 0x5FFF at (omega arith), i)
      (latches byte m.timer)

  pub register_is : (at byte : ℕ) → at < 0x8000 → byte < 256
      → (both (leb 0x4000 at) (leb at 0x5FFF) ≡ true → ours.selectable byte ≡ true)
      → write_bank_controller_register (mbc3_of banks size m r) at byte
      ≡ bind (pick (both (latch_write at) m.timer) (set_latch r (eqb (bit_and byte 1) 1)) (ok r))
      (λ x. ok (mbc3_of banks size (ours.written m at byte) x))
  unfolding ours.written
  register_is at byte h o sel =
      rw (lt-ltb at 0x8000 h) (by_range at byte (ltb at 0x2000) (ltb at 0x4000) (ltb at 0x6000) refl refl refl h o sel)

-- ---- and ours

-- what a register write does to our clock: a latch, or nothing
pub record Kept (m n : declared.Mbc3) (latch : Bool) (byte : ℕ) : Type 0 where
  pub timer : n.timer ≡ m.timer
  pub clock : n.clock ≡ pick latch (latched_of m.clock byte) m.clock
  -- and the selection is one of the clock's five
  pub register : m.register < 5 → n.register < 5

selected_kept : (m : declared.Mbc3) (byte : ℕ) → Kept m (ours.selected m byte) false byte
unfolding ours.selected
selected_kept m byte =
    pick_has (λ (n : declared.Mbc3). Kept m n false byte) (ours.for_ram byte) (record { timer = refl; clock = refl; register = λ h. h })
    (pick_cases (λ (n : declared.Mbc3). Kept m n false byte) (ours.for_clock byte)
    (λ e.
    let high = leb-true (byte % 16) 0xC (both_parts (leb 8 (byte % 16)) (leb (byte % 16) 0xC) e).1 in
    record { timer = refl; clock = refl; register = λ h. omega arith })
    (λ e. record { timer = refl; clock = refl; register = λ h. h }))

latched_kept : (m : declared.Mbc3) (byte : ℕ) (t : Bool)
    → Kept m (pick t (ours.with_clock m (latched_of m.clock byte)) m) t byte
latched_kept m byte true = record { timer = refl; clock = refl; register = λ h. h }
latched_kept m byte false = record { timer = refl; clock = refl; register = λ h. h }

pub written_kept : (m : declared.Mbc3) (at byte : ℕ) → at < 0x8000
    → Kept m (ours.written m at byte) (both (latch_write at) m.timer) byte
unfolding ours.written ours.latched
written_kept m at byte h = rw (lt-ltb at 0x8000 h) (go (ltb at 0x2000) (ltb at 0x4000) (ltb at 0x6000) refl refl refl)
  where
    go : (a b c : Bool) → ltb at 0x2000 ≡ a → ltb at 0x4000 ≡ b → ltb at 0x6000 ≡ c
        → Kept m
        (pick a (ours.mbc3 m.timer (eqb (byte % 16) 0xA) m.bank m.memory m.ram m.register m.clock)
        (pick b (ours.mbc3 m.timer m.enabled (or_one byte) m.memory m.ram m.register m.clock)
        (pick c (ours.selected m byte) (pick m.timer (ours.with_clock m (latched_of m.clock byte)) m))))
        (both (latch_write at) m.timer) byte
    go true b c p q w =
        let l = ltb-true at 0x2000 p in rw (lt-leb 0x6000 at (omega arith)) (record { timer = refl; clock = refl; register = λ h. h })
    go false true c p q w =
        let l = ltb-true at 0x4000 q in rw (lt-leb 0x6000 at (omega arith)) (record { timer = refl; clock = refl; register = λ h. h })
    go false false true p q w =
        let l = ltb-true at 0x6000 w in rw (lt-leb 0x6000 at (omega arith)) (selected_kept m byte)
    go false false false p q w =
        let l = ltb-false at 0x6000 w in rw (inside 0x6000 0x7FFF at l (omega arith)) (latched_kept m byte m.timer)
