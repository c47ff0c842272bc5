-- The Rust's RTC counts clocks as ours does: the sub-second and the time, and with each second one more is due.
use mathlib.Core.Bool.{Bool, true, false, not}
use mathlib.Core.Path.{◌≡◌, refl, sym, ap, ◌∙◌}
use Prim.Native.Nat.{ℕ, zero, suc, ◌+◌, ◌-◌, ◌<◌, ◌≤◌}
use native.Mathlib.Nat.{add-zero, add-suc}
use native.Mathlib.Omega.{arith}
use lib.Dec.{eqb, ltb}
use borrow.Author.Tests.{lt-ltb, le-ltb, ltb-true, ltb-false, eqb-false}
use Rattle.facts.specs.Choice.{pick, bit}
use Rattle.facts.specs.Counter.{carries, step}
use Rattle.clock_registers.specs.Seconds.{second_on, seconds_on}
use Rattle.clock_registers.specs.declared.Registers.{Registers}
use Rattle.clock_registers.proofs.SecondLaws.{seconds_halt}
use Rattle.clock.specs.Ticking.{clocks, moving, tick, ticks}
use Rattle.clock.specs.declared.Clock.{Clock}
use Rattle.clock.proofs.TickLaws.{seconds_in, after, halted_ticks, moving_ticks, time_grows}
use Rattle.clock.proofs.KeptLaws.{ticks_copy}
use Rattle.original.specs.Machine.{Outcome, ok, panic, bind, add_in, u32, u64}
use Rattle.original.specs.Rtc.{RtcRegister, rtc, clock_second_part}
use Rattle.original.specs.Follows.{second_parts, Follows, Counts}
use Rattle.original.proofs.FollowsLaws.{Done}

-- ---- one clock

-- the RTC at another sub-second and time, and at those of c
abbrev pub moved : RtcRegister → ℕ → ℕ → RtcRegister
moved r sub now =
    rtc sub r.seconds r.minutes r.hours r.days r.halt r.carry r.last r.latched now

abbrev pub counted : RtcRegister → Clock → RtcRegister
counted r c = moved r c.sub c.time

-- the state x, where its time is still a u64
abbrev in_word : RtcRegister → Outcome RtcRegister
in_word x = pick (ltb x.now u64) (ok x) panic

in_word_lem : (x : RtcRegister) → x.now < u64 → in_word x ≡ ok x
in_word_lem x l = ap (λ (t : Bool). pick t (ok x) panic) (lt-ltb x.now u64 l)

past_word : (x : RtcRegister) → u64 ≤ x.now → in_word x ≡ panic
past_word x g = ap (λ (t : Bool). pick t (ok x) panic) (le-ltb x.now u64 g)

-- where the RTC does not halt
part_moves : (r : RtcRegister) (sub now : ℕ) → sub < 2097152 → now < u64
    → bind (add_in u32 sub 1) (λ s. pick (eqb s 2097152) (bind (add_in u64 now 1) (λ n. ok (moved r 0 n))) (ok (moved r s now)))
    ≡ in_word (moved r (step clocks sub) (now + bit (carries clocks sub)))
unfolding step carries
part_moves r sub now h l = rw (lt-ltb (sub + 1) u32 (omega arith)) (go (eqb (sub + 1) 2097152))
  where
    added : (t : Bool) → bind (pick t (ok (now + 1)) panic) (λ n. ok (moved r 0 n)) ≡ pick t (ok (moved r 0 (now + 1))) panic
    added true = refl
    added false = refl

    go : (t : Bool) → pick t (bind (add_in u64 now 1) (λ n. ok (moved r 0 n))) (ok (moved r (sub + 1) now))
        ≡ in_word (moved r (pick t 0 (sub + 1)) (now + bit t))
    go true = added (ltb (now + 1) u64)
    go false = rw add-zero (sym (in_word_lem (moved r (sub + 1) now) l))

part : (r : RtcRegister) (c : Clock) → r.halt ≡ c.running.halt → c.sub < 2097152 → c.time < u64
    → clock_second_part (counted r c) ≡ in_word (counted r (tick c))
unfolding clock_second_part tick moving
part r c e h l = ap (λ (t : Bool). pick (not t) whole (ok (counted r c))) e ∙ go c.running.halt
  where
    whole : Outcome RtcRegister
    whole =
        bind (add_in u32 c.sub 1)
        (λ s. pick (eqb s 2097152) (bind (add_in u64 c.time 1) (λ n. ok (moved r 0 n))) (ok (moved r s c.time)))

    go : (t : Bool) → pick (not t) whole (ok (counted r c)) ≡ in_word (counted r (pick t c (moving c)))
    go true = sym (in_word_lem (counted r c) l)
    go false = part_moves r c.sub c.time h l

-- ---- n clocks

tick_halt : (c : Clock) → (tick c).running.halt ≡ c.running.halt
unfolding tick moving second_on
tick_halt c = outer c.running.halt
  where
    inner : (t : Bool) → (pick t (second_on c.running) c.running).halt ≡ c.running.halt
    inner true = refl
    inner false = refl

    outer : (t : Bool) → (pick t c (moving c)).running.halt ≡ c.running.halt
    outer true = refl
    outer false = inner (carries clocks c.sub)

tick_room : (c : Clock) → c.sub < 2097152 → (tick c).sub < 2097152
unfolding tick moving step carries
tick_room c h = outer c.running.halt
  where
    inner : (t : Bool) → eqb (c.sub + 1) 2097152 ≡ t → pick t 0 (c.sub + 1) < 2097152
    inner true e = omega arith
    inner false e = let z = eqb-false (c.sub + 1) 2097152 e in omega (arith, z)

    outer : (t : Bool) → (pick t c (moving c)).sub < 2097152
    outer true = h
    outer false = inner (eqb (c.sub + 1) 2097152) refl

pub ticks_halt : (n : ℕ) (c : Clock) → (ticks n c).running.halt ≡ c.running.halt
unfolding ticks
ticks_halt zero c = refl
ticks_halt (suc n) c = tick_halt (ticks n c) ∙ ticks_halt n c

pub ticks_room : (n : ℕ) (c : Clock) → c.sub < 2097152 → (ticks n c).sub < 2097152
unfolding ticks
ticks_room zero c h = h
ticks_room (suc n) c h = tick_room (ticks n c) (ticks_room n c h)

-- the time in between is no later
tick_later : (c : Clock) → c.time ≤ (tick c).time
unfolding ticks
tick_later c = time_grows 1 c

counts_all : (n : ℕ) (c : Clock) (r : RtcRegister) → Counts c r → c.time < u64 → second_parts n r ≡ in_word (counted r (ticks n c))
unfolding second_parts ticks
counts_all zero c r k l =
    ap (λ (x : ℕ). ok (moved r x r.now)) k.sub ∙ ap (λ (x : ℕ). ok (moved r c.sub x)) k.time
    ∙ sym (in_word_lem (counted r c) l)
counts_all (suc n) c r k l =
    ap (λ (o : Outcome RtcRegister). bind o clock_second_part) (counts_all n c r k l) ∙ go (ltb (ticks n c).time u64) refl
  where
    go : (t : Bool) → ltb (ticks n c).time u64 ≡ t
        → bind (pick t (ok (counted r (ticks n c))) panic) clock_second_part ≡ in_word (counted r (tick (ticks n c)))
    go true e =
        part r (ticks n c) (k.halt ∙ sym (ticks_halt n c)) (ticks_room n c k.room) (ltb-true (ticks n c).time u64 e)
    go false e =
        let late = ltb-false (ticks n c).time u64 e in
        sym (past_word (counted r (tick (ticks n c))) (omega (arith, tick_later (ticks n c))))

pub counts_on : (n : ℕ) (c : Clock) (r : RtcRegister) → Counts c r → (ticks n c).time < u64
    → second_parts n r ≡ ok (counted r (ticks n c))
counts_on n c r k l = counts_all n c r k (omega (arith, time_grows n c)) ∙ in_word_lem (counted r (ticks n c)) l

pub counts_stop : (n : ℕ) (c : Clock) (r : RtcRegister) → Counts c r → c.time < u64 → u64 ≤ (ticks n c).time → second_parts n r ≡ panic
counts_stop n c r k l g = counts_all n c r k l ∙ past_word (counted r (ticks n c)) g

-- and it still counts
pub counts_after : (n : ℕ) (c : Clock) (r : RtcRegister) → Counts c r → Counts (ticks n c) (counted r (ticks n c))
counts_after n c r k =
    record { sub = refl; time = refl; halt = k.halt ∙ sym (ticks_halt n c); room = ticks_room n c k.room }

-- ---- our clock moves on with it

-- the seconds that n clocks complete
abbrev gone : ℕ → Clock → ℕ
gone n c = (ticks n c).time - c.time

seconds_join : (a b : ℕ) (q : Registers) → seconds_on b (seconds_on a q) ≡ seconds_on (a + b) q
unfolding seconds_on
seconds_join a zero q = rw add-zero
seconds_join a (suc b) q = rw add-suc (ap second_on (seconds_join a b q))

gone_running : (n : ℕ) (c : Clock) → (ticks n c).running ≡ seconds_on (gone n c) c.running
unfolding after seconds_on
gone_running n c = go c.running.halt refl
  where
    go : (t : Bool) → c.running.halt ≡ t → (ticks n c).running ≡ seconds_on (gone n c) c.running
    go true e =
        let h = halted_ticks n c e in
        let z : gone n c ≡ 0 = ap (λ (x : Clock). x.time - c.time) h ∙ omega arith in
        ap (λ (x : Clock). x.running) h ∙ ap (λ (k : ℕ). seconds_on k c.running) (sym z)
    go false e =
        let m = moving_ticks n c e in
        let z : gone n c ≡ seconds_in n c = ap (λ (x : Clock). x.time - c.time) m ∙ omega arith in
        ap (λ (x : Clock). x.running) m ∙ ap (λ (k : ℕ). seconds_on k c.running) (sym z)

halted_gone : (n : ℕ) (c : Clock) → c.running.halt ≡ true → gone n c ≡ 0
halted_gone n c e = ap (λ (x : Clock). x.time - c.time) (halted_ticks n c e) ∙ omega arith

pub follows_counts : {due : ℕ} {c : Clock} {r : RtcRegister} → Follows due c r → Counts c r
follows_counts {due} {c} f =
    let a = f.ahead in
    record {
      sub = ap (λ (x : RtcRegister). x.sub) f.is;
      time = ap (λ (x : RtcRegister). x.now) f.is;
      halt =
          ap (λ (x : RtcRegister). x.halt) f.is ∙ sym (seconds_halt due f.registers)
          ∙ ap (λ (x : Registers). x.halt) (sym a.running);
      room = a.sub;
    }

-- n clocks that complete no second where it is frozen
pub clocks_follow : (n due : ℕ) (c : Clock) (r : RtcRegister) → Follows due c r → (ticks n c).time < u64
    → (ticks n c).running.carry ≡ false → (c.latched ≡ true → (ticks n c).time - c.time ≡ 0)
    → Done (due + ((ticks n c).time - c.time)) (ticks n c) (second_parts n r)
unfolding seconds_on
clocks_follow n due c r f l clear still =
    let a = f.ahead in
    let q = f.registers in
    let copy = ticks_copy n c in
    let d = ticks n c in
    let halt : q.halt ≡ c.running.halt = sym (seconds_halt due q) ∙ ap (λ (x : Registers). x.halt) (sym a.running) in
    record {
      next = counted r d;
      is = counts_on n c r (follows_counts f) l;
      follows =
          record {
            registers = q;
            last = f.last;
            is =
                ap (λ (x : RtcRegister). counted x d) f.is
                ∙ ap (λ (t : Bool). rtc d.sub q.second q.minute q.hour q.day q.halt q.carry f.last t
                d.time) (sym copy.latched);
            ahead =
                record {
                  running = gone_running n c ∙ ap (seconds_on (gone n c)) a.running ∙ seconds_join due (gone n c) q;
                  time = omega (arith, a.time, time_grows n c);
                  copy =
                      λ e.
                      let e' = sym copy.latched ∙ e in
                      copy.frozen ∙ a.copy e'
                      ∙ sym (gone_running n c ∙ ap (λ (k : ℕ). seconds_on k c.running) (still e'));
                  frozen =
                      λ e. let e' = sym copy.latched ∙ e in omega (arith, still e', a.frozen e');
                  halted = λ e. omega (arith, a.halted e, halted_gone n c (sym halt ∙ e));
                  clear = clear;
                  carry = a.carry;
                  minute = a.minute;
                  hour = a.hour;
                  fit = a.fit;
                  sub = ticks_room n c a.sub;
                };
          };
    }
