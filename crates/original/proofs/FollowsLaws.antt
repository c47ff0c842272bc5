-- The Rust's RTC follows our clock, operation by operation, inside the domain.
use mathlib.Core.Bool.{Bool, true, false, not}
use mathlib.Core.Path.{◌≡◌, refl, sym, ap, ◌∙◌, subst}
use Prim.Native.Nat.{ℕ, zero, suc, ◌%◌, ◌<◌, ◌≤◌}
use native.Mathlib.Nat.{add-zero}
use native.Mathlib.Omega.{arith}
use lib.Bits.{bit_and, and_mask}
use lib.Dec.{eqb}
use lib.ListN.{get_or}
use borrow.Author.Tests.{eqb-false}
use Rattle.facts.specs.Choice.{pick}
use Rattle.facts.specs.Counter.{Counter, carries, step, step_if}
use Rattle.facts.proofs.ChoiceLaws.{false≢true}
use Rattle.clock_registers.specs.Access.{readings, writings}
use Rattle.clock_registers.specs.Seconds.{sixty, hours, minute_moves, hour_moves, second_on, seconds_on}
use Rattle.clock_registers.specs.declared.Registers.{Registers}
use Rattle.clock_registers.proofs.FitLaws.{fit_bounds, bounds_fit}
use Rattle.clock_registers.proofs.SecondLaws.{seconds_fit}
use Rattle.clock_registers.proofs.KeptLaws.{written_fit}
use Rattle.clock.specs.Access.{start_at, visible, written_clock, latched_of}
use Rattle.clock.specs.declared.Clock.{Clock}
use Rattle.original.specs.Machine.{Outcome, ok, bind}
use Rattle.original.specs.Rtc.{RtcRegister, default, shown, update_registers, read_register, write_register, set_latch}
use Rattle.original.specs.Follows.{rtc_of, Ahead, Follows}
use Rattle.original.proofs.RtcLaws.{Sound, up_to_date, made_up, shown_byte, write_register_lem}
use Rattle.clock_registers.specs.Fit.{Fit}

-- ---- seconds never come to minute 60 or hour 24

never_stop : (c : Counter) (b : Bool) (v : ℕ) → 0 < c.stop → (v ≡ c.stop → ⊥) → step_if c b v ≡ c.stop → ⊥
unfolding step_if step carries
never_stop c false v p d e = d e
never_stop c true v p d e = go (eqb (c.next v) c.stop) refl e
  where
    go : (t : Bool) → eqb (c.next v) c.stop ≡ t → pick t 0 (c.next v) ≡ c.stop → ⊥
    go true q z = omega arith
    go false q z = eqb-false (c.next v) c.stop q z

minute_kept : (n : ℕ) (q : Registers) → (q.minute ≡ 60 → ⊥) → (seconds_on n q).minute ≡ 60 → ⊥
unfolding seconds_on second_on
minute_kept zero q d = d
minute_kept (suc n) q d =
    never_stop sixty (minute_moves (seconds_on n q)) (seconds_on n q).minute (omega arith) (minute_kept n q d)

hour_kept : (n : ℕ) (q : Registers) → (q.hour ≡ 24 → ⊥) → (seconds_on n q).hour ≡ 24 → ⊥
unfolding seconds_on second_on
hour_kept zero q d = d
hour_kept (suc n) q d = never_stop hours (hour_moves (seconds_on n q)) (seconds_on n q).hour (omega arith) (hour_kept n q d)

-- ---- nothing due, with our own registers

caught_up : {due : ℕ} {c : Clock} {q : Registers} {last : ℕ} → Ahead due c q last → Ahead 0 c c.running c.time
unfolding seconds_on
caught_up {due} {c} {q} a =
    let e = a.running in
    record {
      running = refl;
      time = sym (add-zero c.time);
      copy = a.copy;
      frozen = λ _. refl;
      halted = λ _. refl;
      clear = a.clear;
      carry = a.clear;
      minute = λ z. minute_kept due q a.minute (ap (λ (x : Registers). x.minute) (sym e) ∙ z);
      hour = λ z. hour_kept due q a.hour (ap (λ (x : Registers). x.hour) (sym e) ∙ z);
      fit =
          subst Fit (sym e)
          (fit_bounds (seconds_on due q) (seconds_fit due q (bounds_fit q a.fit)));
      sub = a.sub;
    }

-- and so is all that follows with nothing due
pub level : {c : Clock} {r : RtcRegister} → Follows 0 c r → (r ≡ rtc_of c c.running c.time) × Ahead 0 c c.running
    c.time
unfolding seconds_on
level {c} f =
    let a = f.ahead in
    let e : f.last ≡ c.time = sym (a.time ∙ add-zero f.last) in
    (f.is ∙ ap (λ (x : Registers). rtc_of c x f.last) (sym a.running) ∙ ap (rtc_of c c.running) e, caught_up a)

-- ---- at the start

pub start_follows : (wall : ℕ) → Follows 0 (start_at wall) (default wall)
unfolding seconds_on
start_follows wall =
    record {
      registers = (start_at wall).running;
      last = wall;
      is = refl;
      ahead =
          record {
            running = refl;
            time = sym (add-zero wall);
            copy = λ e. refl;
            frozen = λ e. refl;
            halted = λ e. refl;
            clear = refl;
            carry = refl;
            minute = λ e. omega arith;
            hour = λ e. omega arith;
            fit = record { second = omega arith; minute = omega arith; hour = omega arith; day = omega arith };
            sub = omega arith;
          };
    }

-- ---- a read: the byte that ours shows, and an unlatched one leaves nothing due

abbrev pub gave : RtcRegister → ℕ → Outcome (RtcRegister × ℕ)
gave r byte = ok (r, byte)

pub record Read (due : ℕ) (c : Clock) (o : Outcome (RtcRegister × ℕ)) (byte : ℕ) : Type 0 where
  pub next : RtcRegister
  pub is : o ≡ gave next byte
  pub follows : Follows due c next

-- the `match` after the test of `latched`
matched : (r r' : RtcRegister) (n : ℕ) (t : Bool) → r.latched ≡ t → pick (not t) (update_registers r) (ok r) ≡ ok r'
    → read_register r n ≡ bind (shown r' n) (gave r')
unfolding read_register
matched r r' n t e u =
    ap (λ (b : Bool). bind (pick (not b) (update_registers r) (ok r)) (λ x. bind (shown x n) (gave x))) e
    ∙ ap (λ (o : Outcome RtcRegister). bind o (λ x. bind (shown x n) (gave x))) u

sound : {due : ℕ} {c : Clock} {q : Registers} {last : ℕ} → Ahead due c q last → Sound q
sound a = record { carry = a.carry; minute = a.minute; hour = a.hour; fit = a.fit }

pub read_follows : (due : ℕ) (c : Clock) (r : RtcRegister) (n : ℕ) → due ≤ 1 → n < 5 → Follows due c r
    → Read (pick c.latched due 0) c (read_register r n) (get_or (readings (visible c)) n 0)
unfolding seconds_on
read_follows due c r n l h f = go c.latched refl
  where
    a : Ahead due c f.registers f.last
    a = f.ahead

    shows : (q : Registers) (last : ℕ) → bind (shown (rtc_of c q last) n) (gave (rtc_of c q last)) ≡ gave (rtc_of c q last)
        (get_or (readings q) n 0)
    shows q last = ap (λ (x : Outcome ℕ). bind x (gave (rtc_of c q last))) (shown_byte n c q last h)

    go : (t : Bool) → c.latched ≡ t → Read (pick t due 0) c (read_register r n)
        (get_or (readings (pick t c.frozen c.running)) n 0)
    go true e =
        let q = f.registers in
        let same : q ≡ c.frozen = ap (λ (k : ℕ). seconds_on k q) (sym (a.frozen e)) ∙ sym a.running ∙ sym (a.copy e) in
        record {
          next = r;
          is =
              matched r r n true (ap (λ (x : RtcRegister). x.latched) f.is ∙ e) refl
              ∙ ap (λ (x : RtcRegister). bind (shown x n) (gave x)) f.is ∙ shows q f.last
              ∙ ap (λ (x : RtcRegister). gave x (get_or (readings q) n 0)) (sym f.is)
              ∙ ap (λ (x : Registers). gave r (get_or (readings x) n 0)) same;
          follows = f;
        }
    go false e =
        let q = f.registers in
        let next = rtc_of c c.running c.time in
        let update : update_registers r ≡ ok next =
        ap update_registers f.is ∙ made_up due c q f.last l a.time a.halted (sound a)
        ∙ ap (λ (x : Registers). ok (rtc_of c x c.time)) (sym a.running) in
        record {
          next = next;
          is =
              matched r next n false (ap (λ (x : RtcRegister). x.latched) f.is ∙ e) update ∙ shows c.running c.time;
          follows = record { registers = c.running; last = c.time; is = refl; ahead = caught_up a };
        }

-- ---- a latch write, with nothing due

pub record Done (due : ℕ) (c : Clock) (o : Outcome RtcRegister) : Type 0 where
  pub next : RtcRegister
  pub is : o ≡ ok next
  pub follows : Follows due c next

latch_set : (c : Clock) (value : Bool)
    → set_latch (rtc_of c c.running c.time) value
    ≡ ok (rtc_of (record { running = c.running; sub = c.sub; time = c.time; latched = value; frozen = c.frozen })
    c.running c.time)
unfolding set_latch
latch_set c true = refl
latch_set c false =
    up_to_date
    (rtc_of (record { running = c.running; sub = c.sub; time = c.time; latched = false; frozen = c.frozen }) c.running
    c.time) refl

pub latch_follows : (c : Clock) (r : RtcRegister) (b : ℕ) → Follows 0 c r → Done 0 (latched_of c b)
    (set_latch r (eqb (bit_and b 1) 1))
unfolding latched_of seconds_on
latch_follows c r b f =
    let a = (level f).1 in
    record {
      next = rtc_of (latched_of c b) c.running c.time;
      is =
          ap (λ (x : RtcRegister). set_latch x (eqb (bit_and b 1) 1)) (level f).0
          ∙ ap (λ (x : ℕ). set_latch (rtc_of c c.running c.time) (eqb x 1)) (and_mask b 1)
          ∙ latch_set c (eqb (b % 2) 1);
      follows =
          record {
            registers = c.running;
            last = c.time;
            is = refl;
            ahead =
                record {
                  running = refl;
                  time = a.time;
                  copy = copied (eqb (b % 2) 1) c.latched a.copy;
                  frozen = λ _. refl;
                  halted = λ _. refl;
                  clear = a.clear;
                  carry = a.carry;
                  minute = a.minute;
                  hour = a.hour;
                  fit = a.fit;
                  sub = a.sub;
                };
          };
    }
  where
    copied : (t u : Bool) → (u ≡ true → c.frozen ≡ c.running) → t ≡ true
        → pick t (pick u c.frozen c.running) c.frozen ≡ c.running
    copied true true k e = k refl
    copied true false k e = refl
    copied false u k e = false≢true e

-- ---- a clock write, with nothing due

-- Original 3: "nobody writes 60 to the minute or 24 to the hour"
abbrev pub ProperWrite : ℕ → ℕ → Type 0
ProperWrite n b = (n ≡ 1 → b % 64 ≡ 60 → ⊥) × (n ≡ 2 → b % 32 ≡ 24 → ⊥)

minute_written : (n b : ℕ) (q : Registers) → ProperWrite n b → (q.minute ≡ 60 → ⊥) → (get_or (writings q b) n q).minute ≡ 60 → ⊥
minute_written zero b q p d = d
minute_written (suc zero) b q p d = p.0 refl
minute_written (suc (suc zero)) b q p d = d
minute_written (suc (suc (suc zero))) b q p d = d
minute_written (suc (suc (suc (suc zero)))) b q p d = d
minute_written (suc (suc (suc (suc (suc n))))) b q p d = d

hour_written : (n b : ℕ) (q : Registers) → ProperWrite n b → (q.hour ≡ 24 → ⊥) → (get_or (writings q b) n q).hour ≡ 24 → ⊥
hour_written zero b q p d = d
hour_written (suc zero) b q p d = d
hour_written (suc (suc zero)) b q p d = p.1 refl
hour_written (suc (suc (suc zero))) b q p d = d
hour_written (suc (suc (suc (suc zero)))) b q p d = d
hour_written (suc (suc (suc (suc (suc n))))) b q p d = d

pub write_follows : (c : Clock) (r : RtcRegister) (n b : ℕ) → n < 5 → b < 256 → ProperWrite n b
    → (written_clock c n b).running.carry ≡ false → Follows 0 c r → Done 0 (written_clock c n b) (write_register r n b)
unfolding seconds_on
write_follows c r n b h l p clear f =
    let a = (level f).1 in
    record {
      next = rtc_of (written_clock c n b) (written_clock c n b).running c.time;
      is = ap (λ (x : RtcRegister). write_register x n b) (level f).0 ∙ write_register_lem n b c c.running h l;
      follows =
          record {
            registers = (written_clock c n b).running;
            last = c.time;
            is = refl;
            ahead =
                record {
                  running = refl;
                  time = a.time;
                  copy = λ e. copied c.latched a.copy e;
                  frozen = λ _. refl;
                  halted = λ _. refl;
                  clear = clear;
                  carry = clear;
                  minute = minute_written n b c.running p a.minute;
                  hour = hour_written n b c.running p a.hour;
                  fit = fit_bounds _ (written_fit c.running b n (bounds_fit c.running a.fit) l);
                  sub = room (eqb n 0);
                };
          };
    }
  where
    copied : (t : Bool) → (t ≡ true → c.frozen ≡ c.running) → t ≡ true
        → pick t (get_or (writings c.frozen b) n c.frozen) c.frozen ≡ get_or (writings c.running b) n c.running
    copied true k e = ap (λ (q : Registers). get_or (writings q b) n q) (k refl)
    copied false k e = false≢true e

    room : (t : Bool) → pick t 0 c.sub < 2097152
    room true = omega arith
    room false = f.ahead.sub
