-- What the operations keep: the widths, and in an accepted advance everything but the running clock.
use Rattle.std.specs.Prelude.{Ok, Err, Some, None}
use mathlib.Core.Bool.{Bool, true, false, not}
use mathlib.Core.Path.{◌≡◌, refl, sym, ap, ◌∙◌, subst}
use Prim.Native.Nat.{ℕ, ◌%◌, ◌<◌, ◌≤◌}
use native.Mathlib.Omega.{arith}
use lib.Dec.{eqb, ltb}
use borrow.Author.Tests.{ltb-false}
use Rattle.facts.specs.Choice.{pick}
use Rattle.facts.proofs.ChoiceLaws.{pick_has, not_false}
use Rattle.clock_registers.specs.Fit.{fit_registers}
use Rattle.clock_registers.specs.declared.Registers.{Registers}
use Rattle.clock_registers.proofs.KeptLaws.{written_fit}
use Rattle.clock.specs.Fit.{fit_clock}
use Rattle.clock.specs.Ticking.{ticks, advance_of}
use Rattle.clock.specs.Access.{start_at, written_clock, written_of, latched_of}
use Rattle.clock.specs.declared.Clock.{Clock}
use Rattle.clock.specs.declared.AdvanceRefusal.TheVariants.{Unfit, Late}
use Rattle.clock.proofs.FitLaws.{FitClock, fit_parts, parts_fit}
use Rattle.clock.proofs.TickLaws.{after, halted_ticks, moving_ticks, ticks_fit}

-- ---- an accepted advance, taken apart

pub record Taken (c d : Clock) (n : ℕ) : Type 0 where
  pub fit : fit_clock c ≡ true
  pub room : (ticks n c).time ≤ 18446744073709551615
  pub is : d ≡ ticks n c

pub advance_taken : (c d : Clock) (n : ℕ) → advance_of c n ≡ Ok d → Taken c d n
unfolding advance_of
advance_taken c d n e = go (not (fit_clock c)) (ltb 18446744073709551615 (ticks n c).time) refl refl e
  where
    go : (t u : Bool) → not (fit_clock c) ≡ t → ltb 18446744073709551615 (ticks n c).time ≡ u
        → pick t (Err Unfit) (pick u (Err Late) (Ok (ticks n c))) ≡ Ok d → Taken c d n
    go true u p q r = let z : ◌≡◌ {A = ℕ} 0 1 = cc in absurd (omega arith)
    go false true p q r = let z : ◌≡◌ {A = ℕ} 0 1 = cc in absurd (omega arith)
    go false false p q r =
        record { fit = not_false (fit_clock c) p; room = ltb-false 18446744073709551615 (ticks n c).time q; is = cc }

-- ticks leave the latch and the frozen copy
pub record SameCopy (c d : Clock) : Type 0 where
  pub latched : d.latched ≡ c.latched
  pub frozen : d.frozen ≡ c.frozen

pub ticks_copy : (n : ℕ) (c : Clock) → SameCopy c (ticks n c)
unfolding after
ticks_copy n c = go c.running.halt refl
  where
    go : (b : Bool) → c.running.halt ≡ b → SameCopy c (ticks n c)
    go true h = subst (SameCopy c) (sym (halted_ticks n c h)) (record { latched = refl; frozen = refl })
    go false h = subst (SameCopy c) (sym (moving_ticks n c h)) (record { latched = refl; frozen = refl })

-- ---- a fit clock stays fit

pub advance_fit : (c d : Clock) (n : ℕ) → advance_of c n ≡ Ok d → fit_clock d ≡ true
advance_fit c d n e = let t = advance_taken c d n e in ap fit_clock t.is ∙ ticks_fit n c t.fit

pub write_fit : (c d : Clock) (n b : ℕ) → fit_clock c ≡ true → b < 256 → written_of c n b ≡ Some d → fit_clock d ≡ true
unfolding written_of
write_fit c d n b f l e = go (ltb n 5) e
  where
    p : FitClock c
    p = fit_parts c f

    good : FitClock (written_clock c n b)
    good =
        record {
          running = written_fit c.running b n p.running l;
          frozen =
              pick_has (λ (r : Registers). fit_registers r ≡ true) c.latched (written_fit c.frozen b n p.frozen l)
              p.frozen;
          sub = pick_has (λ (x : ℕ). x < 2097152) (eqb n 0) (omega arith) p.sub;
        }

    go : (t : Bool) → pick t (Some (written_clock c n b)) None ≡ Some d → fit_clock d ≡ true
    go true q = let i : written_clock c n b ≡ d = cc in ap fit_clock (sym i) ∙ parts_fit (written_clock c n b) good
    go false q = let z : ◌≡◌ {A = ℕ} 0 1 = cc in absurd (omega arith)

pub latch_fit : (c : Clock) (b : ℕ) → fit_clock c ≡ true → fit_clock (latched_of c b) ≡ true
unfolding latched_of
latch_fit c b f =
    let p = fit_parts c f in
    let P : Registers → Type 0 = λ r. fit_registers r ≡ true in
    parts_fit (latched_of c b)
    (record {
      running = p.running;
      frozen = pick_has P (eqb (b % 2) 1) (pick_has P c.latched p.frozen p.running) p.frozen;
      sub = p.sub;
    })

pub start_fit : (wall : ℕ) → fit_clock (start_at wall) ≡ true
unfolding fit_clock fit_registers
start_fit wall = refl
