-- The Rust's RTC, method by method: what each comes to on registers of ours.
use mathlib.Core.Bool.{Bool, true, false, not}
use mathlib.Core.Path.{◌≡◌, refl, sym, ap, ◌∙◌}
use Prim.Native.Nat.{ℕ, zero, suc, ◌+◌, ◌-◌, ◌*◌, ◌/◌, ◌%◌, ◌^◌, ◌<◌, ◌≤◌}
use native.Mathlib.Nat.{add-zero, mod-eq_of_lt}
use native.Mathlib.Omega.{arith}
use lib.Bits.{bit_and, bit_or, and_mask, or_shifted}
use lib.Dec.{eqb, ltb}
use lib.ListN.{get_or}
use borrow.Author.Tests.{lt-ltb, le-ltb, ne_eqb, eqb-true, eqb-false}
use Rattle.facts.specs.Choice.{pick, both, bit}
use Rattle.facts.specs.Counter.{cyclic, carries, step, step_if}
use Rattle.facts.proofs.ChoiceLaws.{false≢true, bit_lt}
use Rattle.facts.proofs.BitLaws.{join_above}
use Rattle.clock_registers.specs.Access.{readings, writings}
use Rattle.clock_registers.specs.Seconds.{days, minute_moves, hour_moves, day_moves, second_on, seconds_on}
use Rattle.clock_registers.specs.declared.Registers.{Registers}
use Rattle.clock_registers.proofs.AccessLaws.{day_low}
use Rattle.clock.specs.Access.{sub_after}
use Rattle.clock.specs.declared.Clock.{Clock}
use Rattle.original.specs.Machine.{Outcome, ok, bind, u8, u64, as_u8, as_u16, wrapping_add_u64}
use Rattle.original.specs.Rtc.{RtcRegister, rtc, set_last, added, add_to_registers, update_registers, shown, set, write_register}
use Rattle.original.specs.Follows.{rtc_of}
use Rattle.clock_registers.specs.Fit.{Fit}

-- ---- one second more, in one jump

abbrev two : ℕ → ℕ → Outcome (ℕ × ℕ)
two a b = ok (a, b)

-- one place of k bits that steps where b holds: its carry goes into the next, which is 0. A place at the stop that does not
-- step would carry all the same: minute 60 and hour 24
place : (k stop w : ℕ) (b : Bool) (v : ℕ) → v < 2 ^ k → 2 ^ k ≤ 128 → 1 < w → (b ≡ false → v ≡ stop → ⊥)
    → added (2 ^ k - 1) stop w v (bit b) 0
    ≡ two (step_if (cyclic (2 ^ k) stop) b v) (bit (both b (carries (cyclic (2 ^ k) stop) v)))
unfolding step_if step carries
place k stop w true v h l one d =
    rw (lt-ltb (v + 1) 256 (omega arith), and_mask (v + 1) k, lt-ltb 1 w one) (go (eqb ((v + 1) % 2 ^ k) stop))
  where
    go : (t : Bool)
        → pick t (two 0 1) (two ((v + 1) % 2 ^ k) 0) ≡ two (pick t 0 ((v + 1) % 2 ^ k)) (bit t)
    go true = refl
    go false = refl
place k stop w false v h l one d =
    rw (add-zero, lt-ltb v 256 (omega arith), and_mask v k, mod-eq_of_lt h, ne_eqb v stop (d refl)) refl

-- the day, which a u16 and then nine bits hold, and whether it passed 511
day_place : (b : Bool) (d : ℕ) → d < 512
    → (bit_and (as_u16 (wrapping_add_u64 d (bit b))) 0x1FF ≡ step_if days b d)
    × (ltb 0x1FF (as_u16 (wrapping_add_u64 d (bit b))) ≡ both b (carries days d))
unfolding step_if step carries
day_place b d h =
    let e : (d + bit b) % u64 % 65536 ≡ d + bit b = omega (arith, bit_lt b) in
    rw (e, and_mask (d + bit b) 9) (go b)
  where
    one : (t : Bool) → eqb (d + 1) 512 ≡ t → ((d + 1) % 512 ≡ pick t 0 (d + 1)) × (ltb 511 (d + 1) ≡ t)
    one true e = let z = eqb-true (d + 1) 512 e in (omega arith, lt-ltb 511 (d + 1) (omega arith))
    one false e =
        let z = eqb-false (d + 1) 512 e in
        let l : d + 1 < 512 = omega (arith, z) in
        (mod-eq_of_lt l, le-ltb 511 (d + 1) (omega arith))

    go : (t : Bool)
        → ((d + bit t) % 512 ≡ pick t (pick (eqb (d + 1) 512) 0 (d + 1)) d) × (ltb 511 (d + bit t) ≡ both t (eqb (d + 1) 512))
    go true = one (eqb (d + 1) 512) refl
    go false = rw add-zero (mod-eq_of_lt h, le-ltb 511 d (omega arith))

-- registers that one jump of a second takes where a second takes ours
pub record Sound (q : Registers) : Type 0 where
  pub carry : q.carry ≡ false
  pub minute : q.minute ≡ 60 → ⊥
  pub hour : q.hour ≡ 24 → ⊥
  pub fit : Fit q

module _ (c : Clock) (q : Registers) (last : ℕ) (s : Sound q) where
  add_second : add_to_registers (rtc_of c q last) 1 0 0 0 ≡ ok (rtc_of c (second_on q) last)
  unfolding add_to_registers second_on step_if
  add_second =
      let f = s.fit in
      let p₁ = place 6 60 u8 true q.second f.second (omega arith) (omega arith) (λ e. false≢true (sym e)) in
      let p₂ = place 6 60 u8 (minute_moves q) q.minute f.minute (omega arith) (omega arith) (λ _. s.minute) in
      let p₃ = place 5 24 u64 (hour_moves q) q.hour f.hour (omega arith) (omega arith) (λ _. s.hour) in
      let d = day_place (day_moves q) q.day f.day in
      rw (p₁, p₂, p₃, d.0, d.1, s.carry) refl

-- `update_registers` where it is d seconds since the last one
by_difference : (r : RtcRegister) (d : ℕ) → r.now ≡ r.last + d
    → update_registers r
    ≡ pick r.halt (ok r)
    (pick (not (eqb d 0))
    (bind (add_to_registers r (as_u8 (d % 60)) (as_u8 (d / 60 % 60)) (as_u8 (d / 60 / 60 % 24)) (d / 60 / 60 / 24))
    (λ r'. ok (set_last r' r.now)))
    (ok r))
unfolding update_registers
by_difference r d e =
    let l : ltb r.now r.last ≡ false = le-ltb r.now r.last (omega arith) in
    let m : r.now - r.last ≡ d = omega arith in
    rw (l, m) refl

-- nothing due: the registers stay
pub up_to_date : (r : RtcRegister) → r.now ≡ r.last → update_registers r ≡ ok r
up_to_date r e = by_difference r 0 (e ∙ sym (add-zero r.last)) ∙ go r.halt
  where
    go : (b : Bool) → pick b (ok r) (ok r) ≡ ok r
    go true = refl
    go false = refl

-- at most one second due: it is made up for
pub made_up : (due : ℕ) (c : Clock) (q : Registers) (last : ℕ) → due ≤ 1 → c.time ≡ last + due → (q.halt ≡ true → due ≡ 0)
    → Sound q → update_registers (rtc_of c q last) ≡ ok (rtc_of c (seconds_on due q) c.time)
unfolding seconds_on
made_up zero c q last l t h s =
    let e : c.time ≡ last = t ∙ add-zero last in
    up_to_date (rtc_of c q last) e ∙ ap (λ (x : ℕ). ok (rtc_of c q x)) (sym e)
made_up (suc zero) c q last l t h s =
    by_difference (rtc_of c q last) 1 t ∙ go q.halt refl
    ∙ ap (λ (x : Outcome RtcRegister). bind x (λ r. ok (set_last r c.time))) (add_second c q last s)
  where
    made : Outcome RtcRegister
    made = bind (add_to_registers (rtc_of c q last) 1 0 0 0) (λ r. ok (set_last r c.time))

    go : (b : Bool) → q.halt ≡ b → pick b (ok (rtc_of c q last)) made ≡ made
    go true e = let z = h e in absurd (omega arith)
    go false e = refl
made_up (suc (suc n)) c q last l t h s = absurd (omega arith)

-- ---- the five registers read

flags : (a b : Bool) (d : ℕ)
    → bit_or (bit_or (bit a * 2 ^ 7 % 256) (bit b * 2 ^ 6 % 256)) (as_u8 (bit_and (d / 256) 1)) ≡ bit a * 128 +
    (bit b * 64 + d / 256 % 2)
flags a b d =
    let e : bit_and (d / 256) 1 % 256 ≡ d / 256 % 2 = omega (arith, and_mask (d / 256) 1) in
    rw (e, high a b) (or_shifted (bit a * 2 + bit b) 6 (d / 256 % 2) (omega arith) ∙ omega arith)
  where
    high : (a b : Bool) → bit_or (bit a * 2 ^ 7 % 256) (bit b * 2 ^ 6 % 256) ≡ (bit a * 2 + bit b) * 2 ^ 6
    high true true = refl
    high true false = refl
    high false true = refl
    high false false = refl

pub shown_byte : (n : ℕ) (c : Clock) (q : Registers) (last : ℕ) → n < 5 → shown (rtc_of c q last) n ≡ ok (get_or (readings q) n 0)
shown_byte zero c q last h = refl
shown_byte (suc zero) c q last h = refl
shown_byte (suc (suc zero)) c q last h = refl
shown_byte (suc (suc (suc zero))) c q last h = ap ok (omega (arith, and_mask q.day 8))
shown_byte (suc (suc (suc (suc zero)))) c q last h = ap ok (flags q.carry q.halt q.day)
shown_byte (suc (suc (suc (suc (suc n))))) c q last h = absurd (omega arith)

-- ---- and written

-- the RTC after a write to register n
abbrev pub put : Clock → Registers → ℕ → ℕ → RtcRegister
put c q last n =
    rtc (sub_after n c.sub) q.second q.minute q.hour q.day q.halt q.carry last c.latched c.time

set_register : (n b : ℕ) (c : Clock) (q : Registers) (last : ℕ) → n < 5 → b < 256
    → set (rtc_of c q last) n b ≡ ok (put c (get_or (writings q b) n q) last n)
set_register zero b c q last h l = rw (and_mask b 6) refl
set_register (suc zero) b c q last h l = rw (and_mask b 6) refl
set_register (suc (suc zero)) b c q last h l = rw (and_mask b 5) refl
set_register (suc (suc (suc zero))) b c q last h l =
    let e : b % 65536 ≡ b = omega arith in
    rw (e, day_low q.day b l) refl
set_register (suc (suc (suc (suc zero)))) b c q last h l =
    let e : bit_and b 1 % 65536 ≡ b % 2 = omega (arith, and_mask b 1) in
    let d : bit_or (bit_and q.day 255) (b % 2 * 256 % 65536) ≡ b % 2 * 256 + q.day % 256 =
    rw (and_mask q.day 8) (join_above 1 8 16 (omega arith) (omega arith) (omega arith)) in
    rw (e, d, and_mask (b / 64) 1, and_mask (b / 128) 1) refl
set_register (suc (suc (suc (suc (suc n))))) b c q last h l = absurd (omega arith)

-- a write where nothing is due: that it may end a halt changes nothing more
pub write_register_lem : (n b : ℕ) (c : Clock) (q : Registers) → n < 5 → b < 256
    → write_register (rtc_of c q c.time) n b ≡ ok (put c (get_or (writings q b) n q) c.time n)
unfolding write_register
write_register_lem n b c q h l = rw (set_register n b c q c.time h l) (go (both q.halt (not (get_or (writings q b) n q).halt)))
  where
    go : (t : Bool)
        → ok (pick t (set_last (put c (get_or (writings q b) n q) c.time n) c.time)
        (put c (get_or (writings q b) n q) c.time n))
        ≡ ok (put c (get_or (writings q b) n q) c.time n)
    go true = refl
    go false = refl
