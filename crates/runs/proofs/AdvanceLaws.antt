-- Advances of a cartridge: they are its clock's, and without a timer nothing.
use Rattle.std.specs.Prelude.{Ok, Err, Some, None, Result, Option}
use mathlib.Core.Bool.{Bool, true, false, not}
use mathlib.Core.List.{[], ◌∷◌}
use mathlib.Core.Path.{◌≡◌, refl, sym, ap, ◌∙◌}
use Prim.Native.Nat.{ℕ, zero, suc, ◌+◌}
use native.Mathlib.Numerals.{add-one}
use native.Mathlib.Omega.{arith}
use Rattle.facts.specs.Choice.{pick}
use Rattle.facts.specs.Refusals.{no, first_no}
use Rattle.clock.specs.Ticking as ticking
use Rattle.clock.specs.declared.Clock.{Clock}
use Rattle.clock.specs.declared.AdvanceRefusal.TheVariants.{Unfit, Late}
use Rattle.clock.specs.declared.AdvanceRefusal.{AdvanceRefusal}
use Rattle.mapper.specs.Mappers as mapper
use Rattle.mapper.specs.declared.Mapper.{Mapper}
use Rattle.battery.specs.Battery.{clock_in, has_clock}
use Rattle.cartridge.specs.Fit.{fit_cart}
use Rattle.cartridge.specs.With.{with_mapper}
use Rattle.cartridge.specs.declared.Cartridge.{Cartridge}
use Rattle.cartridge.proofs.Laws.{fit_registers_lem}
use Rattle.bus.specs.Advance.{advance_of}
use Rattle.bus.proofs.Laws.{unfit_answer}
use Rattle.runs.specs.Time as time
use Rattle.runs.specs.Advances.{Timed, with_clock_of, from_clock, then_advance, single_advances}
use Rattle.runs.proofs.MapperLaws as kept
use Rattle.runs.proofs.BusLaws.{advance_fit}
use Rattle.runs.proofs.TimeLaws.{joined}

-- the answer of a fit one, by its mapper's
fit_answer : (c : Cartridge) (n : ℕ) → fit_cart c ≡ true
    → advance_of c n ≡ pick (mapper.late c.mapper n) (Err Late) (Ok (with_mapper c (mapper.clocks_on c.mapper n)))
unfolding advance_of
fit_answer c n f =
    let next = Ok (with_mapper c (mapper.clocks_on c.mapper n)) in
    ap (λ (t : Bool). first_no Err (no (not t) Unfit ∷ no (mapper.late c.mapper n) Late ∷ []) next) f

-- with a timer it is the clock's, and all else stays
pub clock_advance : (c : Cartridge) (k : Clock) (n : ℕ) → Timed c k → advance_of c n ≡ from_clock c (ticking.advance_of k n)
unfolding ticking.advance_of
clock_advance c k n t =
    let m = kept.clock_moves c.mapper k n t.clock in
    let f = kept.clock_fits c.mapper k t.clock (fit_registers_lem c t.fit) in
    fit_answer c n t.fit
    ∙ ap (λ (b : Bool). pick b (Err Late) (Ok (with_mapper c (mapper.clocks_on c.mapper n)))) m.0
    ∙ ap (λ (x : Mapper). pick (ticking.late k n) (Err Late) (Ok (with_mapper c x))) m.1
    ∙ same (ticking.late k n)
    ∙ ap (λ (b : Bool). from_clock c (first_no Err (no (not b) Unfit ∷ no (ticking.late k n) Late ∷ []) (Ok (ticking.ticks n k))))
    (sym f)
  where
    same : (b : Bool) → pick b (Err Late) (Ok (with_clock_of c (ticking.ticks n k)))
        ≡ from_clock c (pick b (Err Late) (Ok (ticking.ticks n k)))
    same true = refl
    same false = refl

-- without one nothing moves
pub no_clock_advance : (c : Cartridge) (n : ℕ) → fit_cart c ≡ true → clock_in c.mapper ≡ None → advance_of c n ≡ Ok c
no_clock_advance c n f e =
    let m = kept.no_clock_stands c.mapper n e in
    fit_answer c n f
    ∙ ap (λ (b : Bool). pick b (Err Late) (Ok (with_mapper c (mapper.clocks_on c.mapper n)))) m.0
    ∙ ap (λ (x : Mapper). Ok (with_mapper c x)) m.1

-- the clock of an advanced cartridge is the clock advanced
pub timed_on : (c : Cartridge) (k j : Clock) (n : ℕ) → Timed c k → advance_of c n ≡ Ok (with_clock_of c j) → Timed (with_clock_of c j) j
timed_on c k j n t e =
    record {
      fit = advance_fit c (with_clock_of c j) n e;
      clock = kept.clock_with_lem c.mapper j (ap has_clock t.clock);
    }

-- an answer to a cartridge with a timer, taken apart
pub record TakenTimed (c d : Cartridge) (k : Clock) (n : ℕ) : Type 0 where
  pub clock : Clock
  pub taken : ticking.advance_of k n ≡ Ok clock
  pub is : d ≡ with_clock_of c clock

module _ (c : Cartridge) (k : Clock) (n : ℕ) (t : Timed c k) where
  pub timed_taken : (d : Cartridge) → advance_of c n ≡ Ok d → TakenTimed c d k n
  timed_taken d e = go (ticking.advance_of k n) refl (sym (clock_advance c k n t) ∙ e)
    where
      go : (x : Result Clock AdvanceRefusal) → ticking.advance_of k n ≡ x → from_clock c x ≡ Ok d → TakenTimed c d k n
      go (Ok j) p q = record { clock = j; taken = p; is = cc }
      go (Err w) p q = let z : ◌≡◌ {A = ℕ} 0 1 = cc in absurd (omega arith)

  pub timed_late : advance_of c n ≡ Err Late → ticking.advance_of k n ≡ Err Late
  timed_late e = go (ticking.advance_of k n) refl (sym (clock_advance c k n t) ∙ e)
    where
      go : (x : Result Clock AdvanceRefusal) → ticking.advance_of k n ≡ x → from_clock c x ≡ Err Late → x ≡ Err Late
      go (Ok j) p q = let z : ◌≡◌ {A = ℕ} 0 1 = cc in absurd (omega arith)
      go (Err w) p q = cc

  -- the clock that is then in it
  pub timed_clock : (j : Clock) (d : Cartridge) (x : TakenTimed c d k n) → clock_in d.mapper ≡ Some j → x.clock ≡ j
  timed_clock j d x e =
      let p : Some x.clock ≡ Some j =
      sym (kept.clock_with_lem c.mapper x.clock (ap has_clock t.clock))
      ∙ ap (λ (y : Cartridge). clock_in y.mapper) (sym x.is) ∙ e in cc

-- one advance after the other
pub advances_joined : (c : Cartridge) (a b : ℕ) → advance_of c (a + b) ≡ then_advance (advance_of c a) b
advances_joined c a b = go (fit_cart c) (clock_in c.mapper) refl refl
  where
    from : (k : Clock) → Timed c k → (x : Result Clock AdvanceRefusal) → ticking.advance_of k a ≡ x
        → from_clock c (time.then_advance x b) ≡ then_advance (from_clock c x) b
    from k t (Ok j) e =
        let d = clock_advance c k a t ∙ ap (from_clock c) e in
        sym (clock_advance (with_clock_of c j) j b (timed_on c k j a t d) ∙ again j (ticking.advance_of j b))
      where
        again : (j : Clock) (x : Result Clock AdvanceRefusal) → from_clock (with_clock_of c j) x ≡ from_clock c x
        again j (Ok i) = ap (λ (m : Mapper). Ok (with_mapper c m)) (kept.with_clock_twice c.mapper j i)
        again j (Err w) = refl
    from k t (Err w) e = refl

    go : (f : Bool) (s : Option Clock) → fit_cart c ≡ f → clock_in c.mapper ≡ s → advance_of c (a + b) ≡ then_advance (advance_of c a) b
    go false s p q = sym (unfit_answer c (a + b) p) ∙ ap (λ (x : Result Cartridge AdvanceRefusal). then_advance x b) (unfit_answer c a p)
    go true None p q =
        no_clock_advance c (a + b) p q ∙ sym (no_clock_advance c b p q)
        ∙ ap (λ (x : Result Cartridge AdvanceRefusal). then_advance x b) (sym (no_clock_advance c a p q))
    go true (Some k) p q =
        let t : Timed c k = record { fit = p; clock = q } in
        clock_advance c k (a + b) t ∙ ap (from_clock c) (joined k a b) ∙ from k t (ticking.advance_of k a) refl
        ∙ ap (λ (x : Result Cartridge AdvanceRefusal). then_advance x b) (sym (clock_advance c k a t))

pub by_single_advances : (n : ℕ) (c : Cartridge) → advance_of c n ≡ single_advances n c
unfolding single_advances
by_single_advances zero c = refl
by_single_advances (suc n) c =
    ap (advance_of c) (sym (add-one n)) ∙ advances_joined c n 1
    ∙ ap (λ (x : Result Cartridge AdvanceRefusal). then_advance x 1) (by_single_advances n c)
