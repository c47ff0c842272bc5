-- Demand 3 of what ships: `imf_advance` on any bytes.
use Rattle.std.specs.Prelude.{Ok, Err, Some, None, Result, Option}
use mathlib.Core.Bool.{Bool, true, false}
use mathlib.Core.List.{List, [], ◌∷◌}
use mathlib.Core.Logic.{inl}
use mathlib.Core.Path.{◌≡◌, refl, sym, ap, ◌∙◌, subst}
use Prim.Native.Nat.{ℕ, zero, suc, ◌+◌, ◌<◌, ◌≤◌, ◌^◌}
use native.Mathlib.Numerals.{add-one}
use native.Mathlib.Omega.{arith}
use lib.Dec.{eqb}
use lib.ListN.{replicate}
use borrow.Author.Tests.{eqb-true, eqb-false}
use Rattle.facts.specs.Choice.{pick}
use Rattle.facts.proofs.ChoiceLaws.{pick_has, pick_cases}
use Rattle.bytes_le.specs.Little.{Octets}
use Rattle.clock_registers.specs.Access.{registers}
use Rattle.clock.specs.Fit.{fit_clock}
use Rattle.clock.specs.declared.Clock.{Clock}
use Rattle.clock.specs.declared.AdvanceRefusal.TheVariants as late
use Rattle.clock.proofs.FitLaws.{fit_parts}
use Rattle.clock.proofs.KeptLaws as ticking
use Rattle.clock.proofs.AnswerLaws.{halted_answer}
use Rattle.clock.specs.declared.AdvanceRefusal.{AdvanceRefusal}
use Rattle.mapper.specs.declared.Mapper.{Mapper}
use Rattle.mapper.specs.declared.Mapper.TheVariants.{NoMapper, Mbc1, Mbc2, Mbc3, Mbc5}
use Rattle.battery.specs.Battery.{clock_in, with_clock}
use Rattle.cartridge.specs.Fit.{fit_cart, InTime}
use Rattle.cartridge.specs.declared.Cartridge.{Cartridge}
use Rattle.cartridge.proofs.Laws.{fit_registers_lem}
use Rattle.cartridge.specs.With.{with_mapper}
use Rattle.bus.specs.Advance as advance
use Rattle.bus.specs.Run as run
use Rattle.states.specs.Layout.{encode_of}
use Rattle.states.specs.Reading.{decode_of}
use Rattle.states.specs.Plain.{plain, Used}
use Rattle.states.specs.OnState.{on_state}
use Rattle.states.proofs.Back.{encoded_octets, decode_encode_same, fit_widths}
use Rattle.flat_write.specs.Calls.{timed, advance_state, state_advanced}
use Rattle.player.specs.Bus.{advance_number, advance_of}
use Rattle.player.proofs.imf_advance.Reads as imf-advance
use Rattle.runs.specs.Time.{Proper, SameTime, seconds_of, period, period_on}
use Rattle.runs.specs.Advances.{Timed, with_clock_of, from_clock, then_advance}
use Rattle.runs.proofs.MapperLaws.{clock_fits}
use Rattle.runs.proofs.BusLaws as laws
use Rattle.runs.proofs.AdvanceLaws.{clock_advance, timed_taken, timed_clock, advances_joined}
use Rattle.runs.proofs.TimeLaws.{taken_seconds, comes_back, whole_seconds, no_sooner}
use Rattle.shipped.specs.Sequence.{calls_of, Kept, kept}
use Rattle.shipped.specs.Made.{Call, AllMade}
use Rattle.shipped.specs.Moves.{Moved, moved_by, moved_of, then_moved, single_moves, SameMoved, ones_left}
use Rattle.shipped.specs.Along.{Outs, outs}
use Rattle.shipped.proofs.InTimeLaws as timing
use Rattle.shipped.proofs.PartLaws.{outs_same, kept_same}
use Rattle.shipped.proofs.Made.{all_made_are}
use Rattle.shipped.proofs.PlainLaws.{timed_stays, untimed_still, advance_plain}
use Rattle.shipped.proofs.StepLaws.{decoded}
use Rattle.shipped.proofs.Shipped.{decoded_in_time}

both : {x y : ℕ} {s t : List ℕ} → x ≡ y → s ≡ t → ◌≡◌ {A = Moved} (record { number = x; state = s }) (record { number = y; state = t })
both p q = cc

-- ---- what was made is what the definitions say

pub made_moved : (c : Call imf-advance.Learnt) → moved_by c ≡ moved_of c.passed.0.now c.passed.1.0
made_moved c = both c.known.0 c.known.1

-- ---- an advance of bytes is the cartridge's

abbrev as_moved : List ℕ → Result Cartridge AdvanceRefusal → Moved
as_moved s r = record { number = advance_number r; state = advance_state s r }

moved_cart : (s : List ℕ) (c : Cartridge) (n : ℕ) → decode_of s ≡ Some c → moved_of s n ≡ as_moved s (advance.advance_of c n)
unfolding advance_of state_advanced
moved_cart s c n e =
    ap (λ (d : Option Cartridge). record {
      number = on_state (λ k. advance_number (advance.advance_of k n)) 13 d;
      state = on_state (λ k. advance_state s (advance.advance_of k n)) s d;
    }) e

moved_none : (s : List ℕ) (n : ℕ) → decode_of s ≡ None → moved_of s n ≡ record { number = 13; state = s }
unfolding advance_of state_advanced
moved_none s n e =
    ap (λ (d : Option Cartridge). record {
      number = on_state (λ k. advance_number (advance.advance_of k n)) 13 d;
      state = on_state (λ k. advance_state s (advance.advance_of k n)) s d;
    }) e

-- of the bytes that were written for a cartridge it is that cartridge's too
moved_encoded : (c : Cartridge) (n : ℕ) → fit_cart c ≡ true → InTime c.mapper
    → moved_of (encode_of c) n ≡ as_moved (encode_of c) (advance.advance_of c n)
moved_encoded c n f t =
    let same = advance_plain c n in
    moved_cart (encode_of c) (plain c) n (decoded (record { cart = c; area = [] }) (record { fit = f; timed = t }))
    ∙ both same.number (same.state (encode_of c))

record_with : {n : ℕ} {s t : List ℕ} → s ≡ t → ◌≡◌ {A = Moved} (record { number = n; state = s }) (record { number = n; state = t })
record_with {n} e = ap (λ (s : List ℕ). record { number = n; state = s }) e

-- ---- the same moves

same_trans : {x y z : Moved} → SameMoved x y → SameMoved y z → SameMoved x z
same_trans p q = record { number = p.number ∙ q.number; state = λ e. p.state e ∙ q.state (sym p.number ∙ e) }

same_is : {x y : Moved} → x ≡ y → SameMoved x y
same_is e = record { number = ap (λ (x : Moved). x.number) e; state = λ _. ap (λ (x : Moved). x.state) e }

same_then : (x y : Moved) (n : ℕ) → SameMoved x y → SameMoved (then_moved x n) (then_moved y n)
same_then x y n h = go (eqb x.number 0) refl
  where
    chosen : (z : Moved) (b : Bool) → eqb z.number 0 ≡ b → then_moved z n ≡ pick b (moved_of z.state n) z
    chosen z b e = ap (λ (t : Bool). pick t (moved_of z.state n) z) e

    go : (b : Bool) → eqb x.number 0 ≡ b → SameMoved (then_moved x n) (then_moved y n)
    go true e =
        same_is (chosen x true e ∙ ap (λ (s : List ℕ). moved_of s n) (h.state (eqb-true _ _ e))
        ∙ sym (chosen y true (ap (λ (k : ℕ). eqb k 0) (sym h.number) ∙ e)))
    go false e =
        same_trans (same_is (chosen x false e))
        (same_trans h (same_is (sym (chosen y false (ap (λ (k : ℕ). eqb k 0) (sym h.number) ∙ e)))))

-- ---- Demand 3: "one by a and then one by b is one by a + b"

-- Of any bytes: the number of the advance by a + b is that of the first that is refused of a and then b, and where both are taken the
-- bytes are the same.
pub advances_join : (s : List ℕ) → Octets s → (a b : ℕ) → SameMoved (moved_of s (a + b)) (then_moved (moved_of s a) b)
advances_join s o a b = go (decode_of s) refl
  where
    -- with a timer each writes the next cartridge's bytes
    last : (d : Cartridge) → timed d.mapper ≡ true → (r : Result Cartridge AdvanceRefusal) → advance.advance_of d b ≡ r
        → SameMoved (as_moved s r) (as_moved (encode_of d) r)
    last d t (Ok e) p =
        let h = timed_stays d e b p ∙ t in
        same_is (record_with (ap (λ (x : Bool). pick x (encode_of e) s) h ∙ sym (ap (λ (x : Bool). pick x (encode_of e) (encode_of d)) h)))
    last d t (Err late.Unfit) p = record { number = refl; state = λ z. absurd (omega (arith, z)) }
    last d t (Err late.Late) p = record { number = refl; state = λ z. absurd (omega (arith, z)) }

    next : (c : Cartridge) → decode_of s ≡ Some c → (r : Result Cartridge AdvanceRefusal) → advance.advance_of c a ≡ r
        → SameMoved (as_moved s (then_advance r b)) (then_moved (as_moved s r) b)
    next c p (Ok d) e =
        let t = laws.advance_taken c d a e in
        let early = subst (λ (x : Cartridge). InTime x.mapper) (sym t.is)
        (timing.clocks_in_time c.mapper a t.early (decoded_in_time s c o p)) in
        pick_cases (λ (l : List ℕ). SameMoved (as_moved s (advance.advance_of d b)) (moved_of l b)) (timed d.mapper)
        (λ h. same_trans (last d h (advance.advance_of d b) refl) (same_is (sym (moved_encoded d b (laws.advance_fit c d a e) early))))
        (λ h. same_is (sym (moved_cart s d b (p ∙ ap Some (sym (untimed_still c d a e h))))))
    next c p (Err late.Unfit) e = same_is refl
    next c p (Err late.Late) e = same_is refl

    go : (d : Option Cartridge) → decode_of s ≡ d → SameMoved (moved_of s (a + b)) (then_moved (moved_of s a) b)
    go (Some c) p =
        same_trans (same_is (moved_cart s c (a + b) p ∙ ap (as_moved s) (advances_joined c a b)))
        (same_trans (next c p (advance.advance_of c a) refl)
        (same_is (ap (λ (x : Moved). then_moved x b) (sym (moved_cart s c a p)))))
    go None p =
        same_is (moved_none s (a + b) p ∙ ap (λ (x : Moved). then_moved x b) (sym (moved_none s a p)))

-- ---- Demand 3: "an advance by n is n single ticks"

pub advance_is_singles : (n : ℕ) (s : List ℕ) → Octets s → SameMoved (moved_of s n) (single_moves n s)
unfolding single_moves
advance_is_singles zero s o = same_is refl
advance_is_singles (suc n) s o =
    same_trans (same_is (ap (moved_of s) (sym (add-one n))))
    (same_trans (advances_join s o n 1) (same_then (moved_of s n) (single_moves n s) 1 (advance_is_singles n s o)))

-- ---- and as calls made one after the other

-- An advance leaves bytes,
advanced_octets : (s : List ℕ) (n : ℕ) → Octets s → Octets (state_advanced s n)
unfolding state_advanced
advanced_octets s n o = go (decode_of s)
  where
    left : (r : Result Cartridge AdvanceRefusal) → Octets (advance_state s r)
    left (Ok c) = pick_has Octets (timed c.mapper) (encoded_octets c) o
    left (Err w) = o

    go : (d : Option Cartridge) → Octets (on_state (λ c. advance_state s (advance.advance_of c n)) s d)
    go (Some c) = left (advance.advance_of c n)
    go None = o

-- where one by 1 + n is taken, so is the one by 1, and after it the one by n, which leaves the same bytes.
record Parts (s : List ℕ) (n : ℕ) : Type 0 where
  one : advance_of s 1 ≡ 0
  rest : advance_of (state_advanced s 1) n ≡ 0
  same : state_advanced (state_advanced s 1) n ≡ state_advanced s (suc n)

parts : (s : List ℕ) (n : ℕ) → Octets s → advance_of s (suc n) ≡ 0 → Parts s n
parts s n o z = go (eqb (advance_of s 1) 0) refl
  where
    whole : SameMoved (moved_of s (suc n)) (then_moved (moved_of s 1) n)
    whole =
        let e : suc n ≡ 1 + n = omega arith in
        same_trans (same_is (ap (moved_of s) e)) (advances_join s o 1 n)

    by : (b : Bool) → eqb (advance_of s 1) 0 ≡ b
        → SameMoved (moved_of s (suc n)) (pick b (moved_of (state_advanced s 1) n) (moved_of s 1))
    by b e = same_trans whole (same_is (ap (λ (t : Bool). pick t (moved_of (state_advanced s 1) n) (moved_of s 1)) e))

    go : (b : Bool) → eqb (advance_of s 1) 0 ≡ b → Parts s n
    go true e =
        let h = by true e in
        record { one = eqb-true _ _ e; rest = sym h.number ∙ z; same = sym (h.state z) }
    go false e = absurd (eqb-false (advance_of s 1) 0 e (sym (by false e).number ∙ z))

-- Where `imf_advance` by n answers 0, so does each of n calls by 1, and they leave the same bytes.
ones_of : (n : ℕ) (image s ram : List ℕ) → Octets s → advance_of s n ≡ 0
    → calls_of image (record { state = s; area = ram }) (replicate n (run.clocks 1))
    ≡ record { answers = replicate n 0; left = record { state = ones_left n s; area = ram } }
ones_of zero image s ram o z = refl
ones_of (suc n) image s ram o z =
    let p = parts s n o z in
    let t = state_advanced s 1 in
    ap (λ (r : Outs ℕ Kept). record { answers = advance_of s 1 ∷ r.answers; left = r.left })
    (ones_of n image t ram (advanced_octets s 1 o) p.rest)
    ∙ outs_same (ap (λ (x : ℕ). x ∷ replicate n 0) p.one) (kept_same (left n p.same) refl)
  where
    left : (n : ℕ) → state_advanced (state_advanced s 1) n ≡ state_advanced s (suc n) → ones_left n (state_advanced s 1) ≡ state_advanced s (suc n)
    left zero e = refl
    left (suc n) e = e

pub advance_is_ones : (n : ℕ) (image s ram : List ℕ) → Octets s → advance_of s n ≡ 0
    → {got : Outs ℕ Kept} → AllMade image (kept s ram) (replicate n (run.clocks 1)) got → got ≡ outs (replicate n 0) (kept (ones_left n s) ram)
advance_is_ones n image s ram o z made = all_made_are made ∙ ones_of n image s ram o z

-- ---- Demand 3: "44,236,800 seconds, 512 days, is the period, and nothing less"

-- with a timer all is used,
timer_used : (m : Mapper) (k j : Clock) → clock_in m ≡ Some k → Used (with_clock m j)
timer_used (NoMapper m) k j e = tt
timer_used (Mbc1 m) k j e = tt
timer_used (Mbc2 m) k j e = tt
timer_used (Mbc3 m) k j e = inl (go m.timer e)
  where
    go : (t : Bool) → pick t (Some m.clock) None ≡ Some k → t ≡ true
    go true p = refl
    go false p = let z : ◌≡◌ {A = ℕ} 0 1 = cc in absurd (omega arith)
timer_used (Mbc5 m) k j e = tt

-- and the bytes are written,
timer_timed : (m : Mapper) (k j : Clock) → clock_in m ≡ Some k → timed (with_clock m j) ≡ true
timer_timed (NoMapper m) k j e = let z : ◌≡◌ {A = ℕ} 0 1 = cc in absurd (omega arith)
timer_timed (Mbc1 m) k j e = let z : ◌≡◌ {A = ℕ} 0 1 = cc in absurd (omega arith)
timer_timed (Mbc2 m) k j e = let z : ◌≡◌ {A = ℕ} 0 1 = cc in absurd (omega arith)
timer_timed (Mbc3 m) k j e = go m.timer e
  where
    go : (t : Bool) → pick t (Some m.clock) None ≡ Some k → t ≡ true
    go true p = refl
    go false p = let z : ◌≡◌ {A = ℕ} 0 1 = cc in absurd (omega arith)
timer_timed (Mbc5 m) k j e = let z : ◌≡◌ {A = ℕ} 0 1 = cc in absurd (omega arith)

in_time_with : (m : Mapper) (j : Clock) → j.time < 2 ^ 64 → InTime (with_clock m j)
in_time_with (NoMapper m) j h = tt
in_time_with (Mbc1 m) j h = tt
in_time_with (Mbc2 m) j h = tt
in_time_with (Mbc3 m) j h = λ _. h
in_time_with (Mbc5 m) j h = tt

timed_fit : (c : Cartridge) (k : Clock) → Timed c k → fit_clock k ≡ true
timed_fit c k t = clock_fits c.mapper k t.clock (fit_registers_lem c t.fit)

-- so that the cartridge comes back from its bytes
back : (c : Cartridge) (k j : Clock) (n : ℕ) → Timed c k → advance.advance_of c n ≡ Ok (with_clock_of c j) → j.time < 2 ^ 64
    → decode_of (encode_of (with_clock_of c j)) ≡ Some (with_clock_of c j)
back c k j n t a h =
    let d = with_clock_of c j in
    decode_encode_same d (fit_widths d (laws.advance_fit c d n a) (in_time_with c.mapper j h)) (timer_used c.mapper k j t.clock)

-- Bytes of a fit cartridge with a timer: `imf_advance` by a period answers 0, and the bytes that it leaves are those of the same
-- cartridge with the same second, minute, hour and day, the carry set and the time that much later,
pub period_comes_back : (s : List ℕ) (c : Cartridge) (k : Clock) → decode_of s ≡ Some c → Timed c k → Proper k.running
    → k.running.halt ≡ false → k.time + period ≤ 18446744073709551615
    → (moved_of s (seconds_of period) ≡ record { number = 0; state = encode_of (with_clock_of c (period_on k)) })
    × (decode_of (state_advanced s (seconds_of period)) ≡ Some (with_clock_of c (period_on k)))
period_comes_back s c k e t p h l =
    let r = k.running in
    let f = timed_fit c k t in
    let a : advance.advance_of c (seconds_of period) ≡ Ok (with_clock_of c (period_on k)) =
    clock_advance c k (seconds_of period) t
    ∙ ap (from_clock c)
    (taken_seconds k period f h l
    (comes_back r (fit_parts k f).running p
    ∙ ap (λ (b : Bool). registers r.second r.minute r.hour r.day b true) h)) in
    let m : moved_of s (seconds_of period) ≡ record { number = 0; state = encode_of (with_clock_of c (period_on k)) } =
    moved_cart s c (seconds_of period) e ∙ ap (as_moved s) a
    ∙ ap (λ (b : Bool). record { number = 0; state = pick b (encode_of (with_clock_of c (period_on k))) s })
    (timer_timed c.mapper k (period_on k) t.clock) in
    (m, ap (λ (x : Moved). decode_of x.state) m ∙ back c k (period_on k) (seconds_of period) t a (omega arith))

-- and no smaller positive number of seconds leaves bytes with that time.
pub period_is_least : (s : List ℕ) (c d : Cartridge) (k j : Clock) (n : ℕ) → Octets s → decode_of s ≡ Some c → Timed c k
    → Proper k.running → k.running.halt ≡ false → 0 < n → n < period → advance_of s (seconds_of n) ≡ 0
    → decode_of (state_advanced s (seconds_of n)) ≡ Some d → clock_in d.mapper ≡ Some j
    → SameTime j.running k.running → ⊥
period_is_least s c d k j n o e t p h pos less zero' left has same =
    go (advance.advance_of c (seconds_of n)) refl
  where
    moved : moved_of s (seconds_of n) ≡ as_moved s (advance.advance_of c (seconds_of n))
    moved = moved_cart s c (seconds_of n) e

    number : (r : Result Cartridge AdvanceRefusal) → advance.advance_of c (seconds_of n) ≡ r → advance_number r ≡ 0
    number r a = ap advance_number (sym a) ∙ sym (ap (λ (x : Moved). x.number) moved) ∙ zero'

    go : (r : Result Cartridge AdvanceRefusal) → advance.advance_of c (seconds_of n) ≡ r → ⊥
    go (Ok b) a =
        let x = timed_taken c k (seconds_of n) t b a in
        let f = timed_fit c k t in
        let u = laws.advance_taken c b (seconds_of n) a in
        let early = subst (λ (y : Cartridge). InTime y.mapper) (sym u.is)
        (timing.clocks_in_time c.mapper (seconds_of n) u.early (decoded_in_time s c o e)) in
        let used = subst (λ (y : Cartridge). Used y.mapper) (sym x.is) (timer_used c.mapper k x.clock t.clock) in
        let came = decode_encode_same b (fit_widths b (laws.advance_fit c b (seconds_of n) a) early) used in
        let has_timer_lem = ap (λ (y : Cartridge). timed y.mapper) x.is ∙ timer_timed c.mapper k x.clock t.clock in
        let state = ap (λ (y : Moved). y.state) moved ∙ ap (advance_state s) a ∙ ap (λ (h : Bool). pick h (encode_of b) s) has_timer_lem in
        let q : Some b ≡ Some d = sym came ∙ ap decode_of (sym state) ∙ left in
        let is : b ≡ d = cc in
        let z = timed_clock c k (seconds_of n) t j b x (ap (λ (y : Cartridge). clock_in y.mapper) is ∙ has) in
        let w = sym z ∙ (ticking.advance_taken k x.clock (seconds_of n) x.taken).is ∙ whole_seconds k n f h in
        no_sooner k.running (fit_parts k f).running p n pos less (subst (λ (y : Clock). SameTime y.running k.running) w same)
    go (Err late.Unfit) a = omega (arith, number (Err late.Unfit) a)
    go (Err late.Late) a = omega (arith, number (Err late.Late) a)

-- ---- a halted clock

-- put back where it stands, a clock changes nothing
same_clock : (m : Mapper) (k : Clock) → clock_in m ≡ Some k → with_clock m k ≡ m
same_clock (NoMapper m) k e = refl
same_clock (Mbc1 m) k e = refl
same_clock (Mbc2 m) k e = refl
same_clock (Mbc3 m) k e = go m.timer e
  where
    go : (t : Bool) → pick t (Some m.clock) None ≡ Some k → with_clock (Mbc3 m) k ≡ Mbc3 m
    go true p =
        let q : m.clock ≡ k = cc in
        ap (λ (x : Clock). with_clock (Mbc3 m) x) (sym q)
    go false p = let z : ◌≡◌ {A = ℕ} 0 1 = cc in absurd (omega arith)
same_clock (Mbc5 m) k e = refl

timer_time : (m : Mapper) (k : Clock) → clock_in m ≡ Some k → InTime m → k.time < 2 ^ 64
timer_time (NoMapper m) k e h = let z : ◌≡◌ {A = ℕ} 0 1 = cc in absurd (omega arith)
timer_time (Mbc1 m) k e h = let z : ◌≡◌ {A = ℕ} 0 1 = cc in absurd (omega arith)
timer_time (Mbc2 m) k e h = let z : ◌≡◌ {A = ℕ} 0 1 = cc in absurd (omega arith)
timer_time (Mbc3 m) k e h = go m.timer refl e
  where
    go : (t : Bool) → m.timer ≡ t → pick t (Some m.clock) None ≡ Some k → k.time < 2 ^ 64
    go true q p =
        let same : m.clock ≡ k = cc in
        subst (λ (x : Clock). x.time < 2 ^ 64) same (h q)
    go false q p = let z : ◌≡◌ {A = ℕ} 0 1 = cc in absurd (omega arith)
timer_time (Mbc5 m) k e h = let z : ◌≡◌ {A = ℕ} 0 1 = cc in absurd (omega arith)

-- Bytes of a fit cartridge whose clock is halted: `imf_advance` by any n answers 0, and leaves the bytes of the same cartridge.
pub halted_stays : (s : List ℕ) (c : Cartridge) (k : Clock) (n : ℕ) → Octets s → decode_of s ≡ Some c → Timed c k → k.running.halt ≡ true
    → moved_of s n ≡ record { number = 0; state = encode_of c }
halted_stays s c k n o e t h =
    let early = timer_time c.mapper k t.clock (decoded_in_time s c o e) in
    let a : advance.advance_of c n ≡ Ok (with_clock_of c k) =
    clock_advance c k n t ∙ ap (from_clock c) (sym (halted_answer k n (timed_fit c k t) h early)) in
    moved_cart s c n e ∙ ap (as_moved s) a
    ∙ ap (λ (b : Bool). record { number = 0; state = pick b (encode_of (with_clock_of c k)) s }) (timer_timed c.mapper k k t.clock)
    ∙ ap (λ (m : Mapper). record { number = 0; state = encode_of (with_mapper c m) }) (same_clock c.mapper k t.clock)
