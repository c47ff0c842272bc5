-- The Rust's MBC3 beside ours, method by method: no panic, the same place or byte, and it stays beside ours. The clauses of the
-- domain stand as premises where they are used.
use mathlib.Core.Bool.{Bool, true, false, not}
use mathlib.Core.Path.{◌≡◌, refl, sym, ap, ◌∙◌, subst}
use Prim.Native.Nat.{ℕ, ◌+◌, ◌/◌, ◌%◌, ◌<◌, ◌≤◌}
use native.Mathlib.Omega.{arith}
use lib.Bits.{bit_and}
use lib.Dec.{eqb, leb}
use lib.ListN.{get_or}
use borrow.Author.Tests.{lt-ltb, le-leb}
use Rattle.facts.specs.Choice.{pick, both}
use Rattle.facts.proofs.ChoiceLaws.{both_parts}
use Rattle.clock_registers.specs.Access.{readings}
use Rattle.clock.specs.Access.{start_at, visible, shown_of, written_of, written_clock}
use Rattle.clock.specs.Ticking.{ticks}
use Rattle.clock.specs.declared.Clock.{Clock}
use Rattle.clock.proofs.TickLaws.{ticks_add}
use Rattle.mbc3.specs.Registers as ours
use Rattle.mbc3.specs.declared.Mbc3 as declared
use Rattle.timer.specs.Advance as timer
use Rattle.timer.specs.ClockWindow.{on_clock, window_read, clock_or, window_written}
use Rattle.timer.proofs.WindowLaws.{on_timer, read_off, written_there}
use Rattle.bus.specs.Run.{clocks}
use Rattle.original.specs.Machine.{Outcome, ok, bind, u64}
use Rattle.original.specs.MappingResult.{MappingResult}
use Rattle.original.specs.Rtc.{RtcRegister, default, read_register, write_register, set_latch}
use Rattle.original.specs.Mbc3.{Mbc3, new, init, map_ram_read, map_ram_write, write_bank_controller_register}
use Rattle.original.specs.Domain.{Since, since, completed, latch_write, onward}
use Rattle.original.specs.Follows.{second_parts, clocks_on, Follows, Counts, Clocked, mbc3_of, Same, shown_at, stored_at}
use Rattle.original.proofs.Mbc3Forms.{shown_with, read_is, write_is, register_is, clocks_is, Kept, written_kept}
use Rattle.original.proofs.CountLaws.{counted, counts_on, counts_after, clocks_follow}
use Rattle.original.proofs.FollowsLaws.{start_follows, read_follows, latch_follows, ProperWrite, write_follows}

-- ---- at the start

start_clocked : (timer : Bool) (wall : ℕ) → Clocked timer (since 0 0) (start_at wall) (default wall)
unfolding ticks
start_clocked true wall = start_follows wall
start_clocked false wall = record { sub = refl; time = refl; halt = refl; room = omega arith }

-- `new` and `init` of a cartridge that 11 does not refuse
pub record Begun (banks size : ℕ) (timer : Bool) (wall : ℕ) : Type 0 where
  pub state : Mbc3
  pub is : init (new timer wall) banks size ≡ ok state
  pub same : Same banks size (since 0 0) (ours.start timer wall) state

pub start_same : (banks size : ℕ) (timer : Bool) (wall : ℕ) → banks ≤ 256 → size < 0x200000 → Begun banks size timer wall
unfolding init
start_same banks size timer wall b s =
    let e : size / 0x2000 % 256 ≡ size / 0x2000 = omega arith in
    record {
      state = mbc3_of banks size (ours.start timer wall) (default wall);
      is = rw (le-leb banks 256 b, e) refl;
      same =
          record { rtc = default wall; is = refl; clocked = start_clocked timer wall; register = omega arith; few = omega arith };
    }

-- ---- a read of the RAM window

abbrev pub mapped : Mbc3 → MappingResult → Outcome (Mbc3 × MappingResult)
mapped u x = ok (u, x)

-- what it gives, and that the Rust's MBC3 stays beside m
pub record Mapped (banks size : ℕ) (s : Since) (m : declared.Mbc3) (o : Outcome (Mbc3 × MappingResult))
    (x : MappingResult) : Type 0 where
  pub next : Mbc3
  pub is : o ≡ mapped next x
  pub same : Same banks size s m next

-- a call that gives no more than the next state
pub record Stepped (banks size : ℕ) (s : Since) (m : declared.Mbc3) (o : Outcome Mbc3) : Type 0 where
  pub next : Mbc3
  pub is : o ≡ ok next
  pub same : Same banks size s m next

-- after an unlatched clock read nothing is due
abbrev pub after_read : Since → declared.Mbc3 → Since
after_read s m = pick (both (on_clock m) (not m.clock.latched)) (since 0 s.idle) s

module _ (banks size : ℕ) (s : Since) (m : declared.Mbc3) (u : Mbc3) (same : Same banks size s m u) where
  -- with a timer the RTC follows our clock
  followed : m.timer ≡ true → Follows s.due m.clock same.rtc
  followed t = subst (λ (b : Bool). Clocked b s m.clock same.rtc) t same.clocked

  -- and what follows n's clock is beside n
  beside : (s' : Since) (n : declared.Mbc3) (r : RtcRegister) → n.timer ≡ true → n.register < 5 → s'.due ≤ 1
      → Follows s'.due n.clock r → Same banks size s' n (mbc3_of banks size n r)
  beside s' n r t l few f =
      record {
        rtc = r;
        is = refl;
        clocked = subst (λ (b : Bool). Clocked b s' n.clock r) (sym t) f;
        register = l;
        few = few;
      }

  -- the same RTC beside a mapper with the same clock
  stays : (n : declared.Mbc3) → n.timer ≡ m.timer → n.clock ≡ m.clock → n.register < 5
      → Same banks size s n (mbc3_of banks size n same.rtc)
  stays n t c l =
      record {
        rtc = same.rtc;
        is = refl;
        clocked =
            subst (λ (b : Bool). Clocked b s n.clock same.rtc) (sym t)
            (subst (λ (x : Clock). Clocked m.timer s x same.rtc) (sym c) same.clocked);
        register = l;
        few = same.few;
      }

  -- the byte of a register that there is
  shown_there : on_clock m ≡ true → get_or (readings (visible m.clock)) m.register 0 ≡ window_read m
  unfolding window_read shown_of
  shown_there e = rw (e, lt-ltb m.register 5 same.register) refl

  pub read_mapped : (at : ℕ) → Mapped banks size (after_read s m) m (map_ram_read u at) (shown_at m size at)
  read_mapped at =
      subst (λ (o : Outcome (Mbc3 × MappingResult)). Mapped banks size (after_read s m) m o (shown_at m size at))
      (sym (ap (λ (v : Mbc3). map_ram_read v at) same.is ∙ read_is banks size m same.rtc at)) (go (on_clock m) refl)
    where
      due_by_lem : {c : Clock} {r : RtcRegister} (b : Bool) → Follows (pick b s.due 0) c r
          → Follows (pick (not b) (since 0 s.idle) s).due c r
      due_by_lem true f = f
      due_by_lem false f = f

      few_by : (b : Bool) → (pick (not b) (since 0 s.idle) s).due ≤ 1
      few_by true = same.few
      few_by false = omega arith

      go : (t : Bool) → on_clock m ≡ t
          → Mapped banks size (pick (both t (not m.clock.latched)) (since 0 s.idle) s) m
          (bind (pick t (read_register same.rtc m.register) (ok (same.rtc, 0xFF)))
          (λ x. mapped (mbc3_of banks size m x.0) (shown_with x.1 m size at))) (shown_at m size at)
      go true e =
          let t = on_timer m e in
          let x = read_follows s.due m.clock same.rtc m.register same.few same.register (followed t) in
          record {
            next = mbc3_of banks size m x.next;
            is =
                ap (λ (o : Outcome (RtcRegister × ℕ)). bind o
                (λ y. mapped (mbc3_of banks size m y.0) (shown_with y.1 m size at))) x.is
                ∙ ap (λ (b : ℕ). mapped (mbc3_of banks size m x.next) (shown_with b m size at)) (shown_there e);
            same =
                beside (pick (not m.clock.latched) (since 0 s.idle) s) m x.next t same.register
                (few_by m.clock.latched) (due_by_lem m.clock.latched x.follows);
          }
      go false e =
          record {
            next = mbc3_of banks size m same.rtc;
            is = ap (λ (b : ℕ). mapped (mbc3_of banks size m same.rtc) (shown_with b m size at)) (read_off m e);
            same = stays m refl refl same.register;
          }

  -- ---- a write to the RAM window

  -- what the domain asks of a write to a clock register: nothing is due, no minute 60 or hour 24, no carry
  pub record ClockWrite (byte : ℕ) : Type 0 where
    pub none : s.due ≡ 0
    pub proper : ProperWrite m.register byte
    pub clear : (written_clock m.clock m.register byte).running.carry ≡ false

  pub write_mapped : (at byte : ℕ) → byte < 256 → (on_clock m ≡ true → ClockWrite byte)
      → Mapped banks size s (window_written m byte) (map_ram_write u at byte) (stored_at m size at)
  unfolding window_written
  write_mapped at byte l w =
      subst (λ (o : Outcome (Mbc3 × MappingResult)). Mapped banks size s (window_written m byte) o (stored_at m size at))
      (sym (ap (λ (v : Mbc3). map_ram_write v at byte) same.is ∙ write_is banks size m same.rtc at byte))
      (go (on_clock m) refl)
    where
      go : (t : Bool) → on_clock m ≡ t
          → Mapped banks size s (pick t (clock_or m (written_of m.clock m.register byte)) m)
          (bind (pick t (write_register same.rtc m.register byte) (ok same.rtc))
          (λ x. mapped (mbc3_of banks size m x) (stored_at m size at))) (stored_at m size at)
      go true e =
          let t = on_timer m e in
          let k = w e in
          let n = ours.with_clock m (written_clock m.clock m.register byte) in
          let f = subst (λ (d : ℕ). Follows d m.clock same.rtc) k.none (followed t) in
          let x = write_follows m.clock same.rtc m.register byte same.register l k.proper k.clear f in
          subst (λ (y : declared.Mbc3). Mapped banks size s y
          (bind (write_register same.rtc m.register byte) (λ x. mapped (mbc3_of banks size m x) (stored_at m size at)))
          (stored_at m size at))
          (sym (written_there m byte same.register))
          (record {
            next = mbc3_of banks size m x.next;
            is = ap (λ (o : Outcome RtcRegister). bind o (λ y. mapped (mbc3_of banks size m y) (stored_at m size at))) x.is;
            same =
                beside s n x.next t same.register same.few
                (subst (λ (d : ℕ). Follows d n.clock x.next) (sym k.none) x.follows);
          })
      go false e =
          record { next = mbc3_of banks size m same.rtc; is = refl; same = stays m refl refl same.register }

  -- ---- a register write, of a selection that 16 does not refuse, and a latch with nothing due

  pub write_register_lem : (at byte : ℕ) → at < 0x8000 → byte < 256
      → (both (leb 0x4000 at) (leb at 0x5FFF) ≡ true → ours.selectable byte ≡ true)
      → (latch_write at ≡ true → m.timer ≡ true → s.due ≡ 0)
      → Stepped banks size s (ours.written m at byte) (write_bank_controller_register u at byte)
  write_register_lem at byte h o sel lat =
      subst (Stepped banks size s (ours.written m at byte))
      (sym
      (ap (λ (v : Mbc3). write_bank_controller_register v at byte) same.is
      ∙ register_is banks size m same.rtc at byte h o sel))
      (go (both (latch_write at) m.timer) refl (written_kept m at byte h))
    where
      go : (t : Bool) → both (latch_write at) m.timer ≡ t → Kept m (ours.written m at byte) t byte
          → Stepped banks size s (ours.written m at byte)
          (bind (pick t (set_latch same.rtc (eqb (bit_and byte 1) 1)) (ok same.rtc))
          (λ x. ok (mbc3_of banks size (ours.written m at byte) x)))
      go true e k =
          let n = ours.written m at byte in
          let p = both_parts (latch_write at) m.timer e in
          let none = lat p.0 p.1 in
          let f = subst (λ (d : ℕ). Follows d m.clock same.rtc) none (followed p.1) in
          let x = latch_follows m.clock same.rtc byte f in
          record {
            next = mbc3_of banks size n x.next;
            is = ap (λ (y : Outcome RtcRegister). bind y (λ z. ok (mbc3_of banks size n z))) x.is;
            same =
                beside s n x.next (k.timer ∙ p.1) (k.register same.register) same.few
                (subst (λ (d : ℕ). Follows d n.clock x.next) (sym none)
                (subst (λ (c : Clock). Follows 0 c x.next) (sym k.clock) x.follows));
          }
      go false e k =
          record {
            next = mbc3_of banks size (ours.written m at byte) same.rtc;
            is = refl;
            same = stays (ours.written m at byte) k.timer k.clock (k.register same.register);
          }

  -- ---- clocks

  -- what the domain asks of n clocks on a timer: no carry after them, no second while frozen, and no more than one due
  pub record Clocks (n : ℕ) : Type 0 where
    pub clear : (ticks n m.clock).running.carry ≡ false
    pub still : m.clock.latched ≡ true → completed m n ≡ 0
    pub few : s.due + completed m n ≤ 1

  clocks_by : (n : ℕ) (t : Bool) → m.timer ≡ t → (ticks (pick t n (s.idle + n)) m.clock).time < u64 → (t ≡ true → Clocks n)
      → Stepped banks size (pick t (since (s.due + completed m n) s.idle) (since s.due (s.idle + n)))
      (pick t (ours.with_clock m (ticks n m.clock)) m)
      (bind (second_parts n same.rtc) (λ x. ok (mbc3_of banks size m x)))
  clocks_by n true q l d =
      let k = d refl in
      let c = ticks n m.clock in
      let x = clocks_follow n s.due m.clock same.rtc (followed q) l k.clear k.still in
      record {
        next = mbc3_of banks size m x.next;
        is = ap (λ (o : Outcome RtcRegister). bind o (λ r. ok (mbc3_of banks size m r))) x.is;
        same =
            beside (since (s.due + completed m n) s.idle) (ours.with_clock m c) x.next q same.register k.few
            x.follows;
      }
  clocks_by n false q l d =
      let c = ticks s.idle m.clock in
      let join = ticks_add s.idle n m.clock in
      let counts = subst (λ (b : Bool). Clocked b s m.clock same.rtc) q same.clocked in
      let l' = subst (λ (x : Clock). x.time < u64) join l in
      let r = counted same.rtc (ticks n c) in
      record {
        next = mbc3_of banks size m r;
        is = ap (λ (o : Outcome RtcRegister). bind o (λ x. ok (mbc3_of banks size m x))) (counts_on n c same.rtc counts l');
        same =
            record {
              rtc = r;
              is = refl;
              clocked =
                  subst (λ (b : Bool). Clocked b (since s.due (s.idle + n)) m.clock r) (sym q)
                  (subst (λ (x : Clock). Counts x r) (sym join) (counts_after n c same.rtc counts));
              register = same.register;
              few = same.few;
            };
      }

  pub clocks_same : (n : ℕ) → (ticks (pick m.timer n (s.idle + n)) m.clock).time < u64 → (m.timer ≡ true → Clocks n)
      → Stepped banks size (onward m s (clocks n)) (timer.clocks_on m n) (clocks_on n u)
  unfolding timer.clocks_on
  clocks_same n l d =
      rw (same.is, clocks_is banks size m same.rtc n) (clocks_by n m.timer refl l d)
