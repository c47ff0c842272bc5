-- The arguments behind demand 3.
use Rattle.std.specs.Prelude.{Ok, Err, Some, None, Result}
use mathlib.Core.Bool.{Bool, true, false}
use mathlib.Core.Logic.{◌↔◌}
use mathlib.Core.Path.{◌≡◌, refl, sym, ap, ◌∙◌, subst}
use Prim.Native.Nat.{ℕ, zero, suc, ◌+◌, ◌-◌, ◌*◌, ◌/◌, ◌%◌, ◌<◌, ◌≤◌}
use native.Mathlib.Numerals.{add-one}
use native.Mathlib.Omega.{arith}
use lib.Dec.{eqb, ltb}
use lib.ListN.{get_or}
use borrow.Author.Tests.{ltb-false, ltb-true, eq-eqb}
use Rattle.facts.specs.Choice.{pick, bit}
use Rattle.facts.specs.Counter.{Counter, cyclic, steps, count, Ran}
use Rattle.facts.proofs.ChoiceLaws.{either_true}
use Rattle.facts.proofs.CounterLaws.{low_digits, comes_back_whole, whole_comes_back, plain_grows, cyclic_grows, over_ran}
use Rattle.clock_registers.specs.Fit.{fit_registers}
use Rattle.clock.specs.Fit.{fit_clock}
use Rattle.clock_registers.specs.Seconds.{sixty, hours, days, seconds_on}
use Rattle.clock.specs.Ticking.{clocks, ticks, advance_of}
use Rattle.clock_registers.specs.Access.{readings, writings}
use Rattle.clock.specs.Access.{visible, shown_of, written_clock, written_of}
use Rattle.clock_registers.specs.declared.Registers.{Registers}
use Rattle.clock.specs.declared.Clock.{Clock}
use Rattle.clock.specs.declared.AdvanceRefusal.TheVariants.{Late}
use Rattle.clock_registers.proofs.FitLaws.{fit_bounds}
use Rattle.clock.proofs.FitLaws.{fit_parts}
use Rattle.clock_registers.proofs.SecondLaws.{placed, by_places, minute_steps, hour_steps, day_steps}
use Rattle.clock.proofs.TickLaws.{after, moving_ticks, halted_ticks, ticks_add, ticks_fit, time_grows}
use Rattle.clock.proofs.AnswerLaws.{unfit_answer, late_answer, taken_answer}
use Rattle.clock.proofs.KeptLaws.{SameCopy, advance_taken, ticks_copy}
use Rattle.clock.specs.declared.AdvanceRefusal.{AdvanceRefusal}
use Rattle.runs.specs.Time.{then_advance, single_ticks, Proper, SameTime, seconds_of, period, keeps}

-- ---- one advance after the other

-- after ticks that were taken, an advance answers as one that took them along
on_from_ticks : (c : Clock) (a b : ℕ) → fit_clock c ≡ true → advance_of c (a + b) ≡ advance_of (ticks a c) b
unfolding advance_of
on_from_ticks c a b f = rw (ticks_add a b c, f, ticks_fit a c f)

-- three cases: unfit, late already after a, and taken after a
pub joined : (c : Clock) (a b : ℕ) → advance_of c (a + b) ≡ then_advance (advance_of c a) b
joined c a b = go (fit_clock c) (ltb 18446744073709551615 (ticks a c).time) refl refl
  where
    go : (t u : Bool) → fit_clock c ≡ t → ltb 18446744073709551615 (ticks a c).time ≡ u
        → advance_of c (a + b) ≡ then_advance (advance_of c a) b
    go false u f l =
        sym (unfit_answer c (a + b) f) ∙ ap (λ (x : Result Clock AdvanceRefusal). then_advance x b) (unfit_answer c a f)
    go true true f l =
        let h = ltb-true 18446744073709551615 (ticks a c).time l in
        let g : (ticks a c).time ≤ (ticks (a + b) c).time = rw (ticks_add a b c) (time_grows b (ticks a c)) in
        sym (late_answer c (a + b) f (omega arith))
        ∙ ap (λ (x : Result Clock AdvanceRefusal). then_advance x b) (late_answer c a f h)
    go true false f l =
        let h = ltb-false 18446744073709551615 (ticks a c).time l in
        on_from_ticks c a b f ∙ ap (λ (x : Result Clock AdvanceRefusal). then_advance x b) (taken_answer c a f h)

pub by_singles : (n : ℕ) (c : Clock) → advance_of c n ≡ single_ticks n c
unfolding single_ticks
by_singles zero c = refl
by_singles (suc n) c =
    ap (advance_of c) (sym (add-one n)) ∙ joined c n 1 ∙ ap (λ (x : Result Clock AdvanceRefusal). then_advance x 1) (by_singles n c)

-- ---- the period: each place comes back only after whole rounds, and whole rounds bring it back

module _ (r : Registers) (f : fit_registers r ≡ true) (p : Proper r) where
  pub no_sooner : (k : ℕ) → 0 < k → k < period → SameTime (seconds_on k r) r → ⊥
  unfolding placed
  no_sooner k pos less same =
      let q = subst (λ (x : Registers). SameTime x r) (by_places k r) same in
      let s = comes_back_whole sixty (omega arith) (cyclic_grows 64 60 (omega arith)) k r.second p.second q.second in
      let m = comes_back_whole sixty (omega arith) (cyclic_grows 64 60 (omega arith)) (minute_steps k r) r.minute p.minute q.minute in
      let h = comes_back_whole hours (omega arith) (cyclic_grows 32 24 (omega arith)) (hour_steps k r) r.hour p.hour q.hour in
      let d = comes_back_whole days (omega arith) (plain_grows 512) (day_steps k r) r.day (fit_bounds r f).day q.day in
      omega arith

  pub comes_back : ◌≡◌ {A = Registers} (seconds_on period r)
      (record { second = r.second; minute = r.minute; hour = r.hour; day = r.day; halt = r.halt; carry = true })
  unfolding placed
  comes_back =
      let s = whole_comes_back sixty (omega arith) (cyclic_grows 64 60 (omega arith)) 737280 r.second p.second in
      let m = whole_comes_back sixty (omega arith) (cyclic_grows 64 60 (omega arith)) 12288 r.minute p.minute in
      let h = whole_comes_back hours (omega arith) (cyclic_grows 32 24 (omega arith)) 512 r.hour p.hour in
      let d = whole_comes_back days (omega arith) (plain_grows 512) 1 r.day (fit_bounds r f).day in
      by_places period r ∙ rw (s.0, s.1, m.0, m.1, h.0, h.1, d.0, d.1, either_true) refl

-- from any of its w values a counter gets below its stop s within w steps, and from then on every s-th step carries
lowered : (w s : ℕ) → 0 < s → s < w → (n v : ℕ) → v < w → w ≤ n
    → (steps (cyclic w s) n v < s) × (n ≤ count (cyclic w s) n v * s + s + w)
lowered w s pos low n v h m = go (ltb v s) refl
  where
    c : Counter
    c = cyclic w s

    from : (v k : ℕ) → v < s → (steps c k v < s) × (k ≤ count c k v * s + s)
    from v k l = let d = low_digits c pos (cyclic_grows w s low) k v l in (d.0, omega (arith, d.0, d.1))

    go : (t : Bool) → ltb v s ≡ t → (steps c n v < s) × (n ≤ count c n v * s + s + w)
    go true e = let d = from v n (ltb-true v s e) in (d.0, omega (arith, d.1))
    go false e =
        let k = n - (w - v) in
        let r : Ran c n v (steps c k 0) (count c k 0) =
        over_ran w s pos low (ltb-false v s e) h (omega arith) (record { value = refl; carried = refl }) in
        let d = from 0 k pos in
        (rw (← r.value) d.0, rw (← r.carried) (omega (arith, d.1)))

-- 122,764 seconds bring every second, minute and hour below their stops
pub seconds_proper : (k : ℕ) (r : Registers) → fit_registers r ≡ true → 122764 ≤ k → Proper (seconds_on k r)
unfolding placed
seconds_proper k r f h =
    let b = fit_bounds r f in
    let s = lowered 64 60 (omega arith) (omega arith) k r.second b.second (omega arith) in
    let m = lowered 64 60 (omega arith) (omega arith) (minute_steps k r) r.minute b.minute (omega (arith, s.1)) in
    let o = lowered 32 24 (omega arith) (omega arith) (hour_steps k r) r.hour b.hour (omega (arith, s.1, m.1)) in
    subst Proper (sym (by_places k r)) (record { second = s.0; minute = m.0; hour = o.0 })

-- whole seconds of a clock that is not halted
pub whole_seconds : (c : Clock) (k : ℕ) → fit_clock c ≡ true → c.running.halt ≡ false
    → ◌≡◌ {A = Clock} (ticks (seconds_of k) c)
    (record { running = seconds_on k c.running; sub = c.sub; time = c.time + k; latched = c.latched; frozen = c.frozen })
unfolding after
whole_seconds c k f h =
    let a = whole_comes_back clocks (omega arith) (plain_grows 2097152) k c.sub (fit_parts c f).sub in
    moving_ticks (seconds_of k) c h ∙ rw (a.0, a.1) refl

pub taken_seconds : (c : Clock) (k : ℕ) {r : Registers} → fit_clock c ≡ true → c.running.halt ≡ false
    → c.time + k ≤ 18446744073709551615 → seconds_on k c.running ≡ r
    → advance_of c (seconds_of k)
    ≡ Ok (record { running = r; sub = c.sub; time = c.time + k; latched = c.latched; frozen = c.frozen })
taken_seconds c k f h t e =
    let w = whole_seconds c k f h in
    sym (taken_answer c (seconds_of k) f (rw (ap (λ (x : Clock). x.time) w) t))
    ∙ ap Ok (w ∙ rw e refl)

-- ---- the carry

pub seconds_carry : (k : ℕ) (r : Registers) → r.carry ≡ true → (seconds_on k r).carry ≡ true
unfolding placed
seconds_carry k r h = ap (λ (x : Registers). x.carry) (by_places k r) ∙ rw h refl

pub ticks_carry : (n : ℕ) (c : Clock) → c.running.carry ≡ true → (ticks n c).running.carry ≡ true
unfolding after
ticks_carry n c h = go c.running.halt refl
  where
    go : (b : Bool) → c.running.halt ≡ b → (ticks n c).running.carry ≡ true
    go true s = ap (λ (x : Clock). x.running.carry) (halted_ticks n c s) ∙ h
    go false s =
        ap (λ (x : Clock). x.running.carry) (moving_ticks n c s)
        ∙ seconds_carry (count clocks n c.sub) c.running h

-- ---- a written register

bit_back : (x : ℕ) → x < 2 → bit (eqb x 1) ≡ x
bit_back zero h = refl
bit_back (suc zero) h = refl
bit_back (suc (suc x)) h = absurd (omega arith)

-- what register n shows of registers that b was written to
pub kept_reading : (r : Registers) (n b : ℕ) → n < 5 → b < 256
    → get_or (readings (get_or (writings r b) n r)) n 0 ≡ get_or (keeps b) n 0
kept_reading r zero b h l = refl
kept_reading r (suc zero) b h l = refl
kept_reading r (suc (suc zero)) b h l = refl
kept_reading r (suc (suc (suc zero))) b h l = omega arith
kept_reading r (suc (suc (suc (suc zero)))) b h l =
    let d : (b % 2 * 256 + r.day % 256) / 256 % 2 ≡ b % 2 = omega arith in
    rw (bit_back (b / 128 % 2) (omega arith), bit_back (b / 64 % 2) (omega arith), d)
kept_reading r (suc (suc (suc (suc (suc n))))) b h l = absurd (omega arith)

-- the answer to a fit clock is one of two, so each is given exactly where its test holds
pub late_exactly : (c : Clock) (n : ℕ) → fit_clock c ≡ true
    → (advance_of c n ≡ Err Late) ↔ (18446744073709551615 < (ticks n c).time)
late_exactly c n f = (only, λ h. sym (late_answer c n f h))
  where
    only : advance_of c n ≡ Err Late → 18446744073709551615 < (ticks n c).time
    only e = go (ltb 18446744073709551615 (ticks n c).time) refl
      where
        go : (u : Bool) → ltb 18446744073709551615 (ticks n c).time ≡ u → 18446744073709551615 < (ticks n c).time
        go true l = ltb-true 18446744073709551615 (ticks n c).time l
        go false l =
            let t = taken_answer c n f (ltb-false 18446744073709551615 (ticks n c).time l) in
            let z : ◌≡◌ {A = ℕ} 0 1 = cc in
            absurd (omega arith)

pub taken_exactly : (c : Clock) (n : ℕ) → fit_clock c ≡ true
    → (advance_of c n ≡ Ok (ticks n c)) ↔ ((ticks n c).time ≤ 18446744073709551615)
taken_exactly c n f = (λ e. (advance_taken c (ticks n c) n e).room, λ h. sym (taken_answer c n f h))

-- ---- what a register shows

pub frozen_reading : (c d : Clock) (n k : ℕ) → c.latched ≡ true → advance_of c n ≡ Ok d → shown_of d k ≡ shown_of c k
unfolding shown_of
frozen_reading c d n k l e =
    let t = advance_taken c d n e in
    let s = subst (SameCopy c) (sym t.is) (ticks_copy n c) in
    let a : visible d ≡ c.frozen = ap (λ (b : Bool). pick b d.frozen d.running) (s.latched ∙ l) ∙ s.frozen in
    let b : visible c ≡ c.frozen = ap (λ (b : Bool). pick b c.frozen c.running) l in
    ap (λ (r : Registers). pick (ltb k 5) (Some (get_or (readings r) k 0)) None) (a ∙ sym b)

-- what is visible after a write is what was visible before, written
visible_written : (c : Clock) (n b : ℕ) → visible (written_clock c n b) ≡ get_or (writings (visible c) b) n (visible c)
visible_written c n b = picked c.latched
  where
    put : Registers → Registers
    put r = get_or (writings r b) n r

    picked : (t : Bool) → pick t (pick t (put c.frozen) c.frozen) (put c.running) ≡ put (pick t c.frozen c.running)
    picked true = refl
    picked false = refl

pub written_reading : (c d : Clock) (n b : ℕ) → b < 256 → written_of c n b ≡ Some d
    → shown_of d n ≡ Some (get_or (keeps b) n 0)
unfolding written_of shown_of
written_reading c d n b l e = go (ltb n 5) refl e
  where
    go : (t : Bool) → ltb n 5 ≡ t → pick t (Some (written_clock c n b)) None ≡ Some d
        → pick t (Some (get_or (readings (visible d)) n 0)) None ≡ Some (get_or (keeps b) n 0)
    go true h p =
        let i : written_clock c n b ≡ d = cc in
        let v = ap visible (sym i) ∙ visible_written c n b in
        ap (λ (r : Registers). Some (get_or (readings r) n 0)) v
        ∙ ap Some (kept_reading (visible c) n b (ltb-true n 5 h) l)
    go false h p = let z : ◌≡◌ {A = ℕ} 0 1 = cc in absurd (omega arith)

-- ---- the carry and a write

pub written_carry : (c d : Clock) (n b : ℕ) → c.running.carry ≡ true → (n ≡ 4 → b / 128 % 2 ≡ 1)
    → written_of c n b ≡ Some d → d.running.carry ≡ true
unfolding written_of
written_carry c d n b h keep e = go (ltb n 5) e
  where
    by_register : (n : ℕ) → (n ≡ 4 → b / 128 % 2 ≡ 1) → (get_or (writings c.running b) n c.running).carry ≡ true
    by_register zero k = h
    by_register (suc zero) k = h
    by_register (suc (suc zero)) k = h
    by_register (suc (suc (suc zero))) k = h
    by_register (suc (suc (suc (suc zero)))) k = eq-eqb (b / 128 % 2) 1 (k refl)
    by_register (suc (suc (suc (suc (suc n))))) k = h

    go : (t : Bool) → pick t (Some (written_clock c n b)) None ≡ Some d → d.running.carry ≡ true
    go true p =
        let i : written_clock c n b ≡ d = cc in
        ap (λ (x : Clock). x.running.carry) (sym i) ∙ by_register n keep
    go false p = let z : ◌≡◌ {A = ℕ} 0 1 = cc in absurd (omega arith)
