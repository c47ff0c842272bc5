-- Sequences of accesses: the calls give what `run_of` says, and a cartridge that was mounted and lent its own image and area
-- stays fit and its area as long.
use Rattle.std.specs.Prelude.{Ok, Err, Result}
use mathlib.Core.Bool.{Bool, true, false, not}
use mathlib.Core.List.{List, [], ◌∷◌}
use mathlib.Core.Path.{◌≡◌, refl, sym, ap, ◌∙◌, subst}
use Prim.Native.Nat.{ℕ, ◌<◌}
use native.Mathlib.Omega.{arith}
use lib.ListN.{length, length-replicate}
use borrow.Author.Tests.{eq-eqb}
use Rattle.facts.specs.Refusals.{no, first_no}
use Rattle.facts.proofs.ChoiceLaws.{false≢true, both_true}
use Rattle.clock.specs.declared.AdvanceRefusal.TheVariants as late
use Rattle.clock.specs.declared.AdvanceRefusal.{AdvanceRefusal}
use Rattle.mapper.specs.Mappers as mapper
use Rattle.cartridge.specs.Fit.{fit_cart, area_of}
use Rattle.cartridge.specs.declared.Cartridge.{Cartridge}
use Rattle.mount.specs.Mount as mount
use Rattle.mount.specs.Mount.{cart_of, mount_of}
use Rattle.mount.specs.declared.MountRefusal.{MountRefusal}
use Rattle.access.specs.Verdict.{number_of, in_rom, in_ram, verdict_of}
use Rattle.cartridge.specs.With.{with_mapper}
use Rattle.bus.specs.Bus.{lent_both, lent_area, read_verdict, write_verdict, read_by, read_of, write_by, write_of, area_after}
use Rattle.bus.specs.Advance.{advance_of}
use Rattle.bus.specs.Run.{Access, Answer, Machine, Left, after_read, after_write, after_clocks, step_of, run_of, Ready}
use Rattle.bus.specs.Run as run
use Rattle.access.proofs.Laws.{by_tests_lem, by_tests}
use Rattle.access.specs.declared.Target.{Target}
use Rattle.access.specs.declared.BusRefusal.{BusRefusal}
use Rattle.access.specs.declared.Target.TheVariants.{Rom, Ram}
use Rattle.runs.specs.Calls.{Called, Calls, Octet, Octets, Neither, AllNeither}
use Rattle.runs.specs.Calls as calls
use Rattle.runs.proofs.MapperLaws as kept
use Rattle.runs.proofs.BusLaws.{write_taken, write_fit, write_area_stays, write_one, refused_area, one_length, advance_taken, advance_fit, mount_taken, mount_fit}

-- ---- the calls made one after the other are the run

called_step : {rom : List ℕ} {m : Machine} {a : Access} {x : Left} → Called rom m a x → x ≡ step_of rom m a
called_step {m = m} (calls.read r p) = ap (after_read m) p
called_step {m = m} (calls.write {addr = addr} {byte = byte} r area p q) =
    ap (λ (t : Result Cartridge BusRefusal). after_write m t area) p ∙ ap (after_write m (write_of m.cart m.area addr byte)) q
called_step {m = m} (calls.advance r p) = ap (after_clocks m) p

pub calls_run : {rom : List ℕ} {m n : Machine} {as' : List Access} {xs : List Answer} → Calls rom m as' xs n
    → (xs ≡ (run_of rom m as').answers) × (n ≡ (run_of rom m as').left)
calls_run calls.end = (refl, refl)
calls_run {rom} (calls.call {as' = as'} {x = x} c cs) =
    let e = called_step c in
    let i = calls_run cs in (
      ap (λ (l : List Answer). x.answer ∷ l) i.0
          ∙ ap (λ (y : Left). y.answer ∷ (run_of rom y.left as').answers) e,
      i.1 ∙ ap (λ (y : Left). (run_of rom y.left as').left) e,
    )

-- a step is what a call may answer, and so is the run
pub called : (rom : List ℕ) (m : Machine) (a : Access) → Called rom m a (step_of rom m a)
called rom m (run.reads addr) = calls.read (read_of m.cart rom m.area addr) refl
called rom m (run.writes addr byte) =
    calls.write (write_of m.cart m.area addr byte) (area_after m.cart m.area addr byte) refl refl
called rom m (run.clocks n) = calls.advance (advance_of m.cart n) refl

pub run_called : (rom : List ℕ) (m : Machine) (as' : List Access) → Calls rom m as' (run_of rom m as').answers (run_of rom m as').left
run_called rom m [] = calls.end
run_called rom m (a ∷ as') = calls.call (called rom m a) (run_called rom (step_of rom m a).left as')

-- ---- 13 and 14 are not given to a cartridge that is fit and lent its own

-- the verdict on a fit cartridge lent its own is a window, 15 or 16
abbrev Later : Result Target BusRefusal → Type 0
Later (Ok Rom) = Unit {0}
Later (Ok Ram) = Unit {0}
Later (Err w) = 14 < number_of w

later : (c : Cartridge) (lent : Bool) (addr : ℕ) (bad : Bool) → fit_cart c ≡ true → lent ≡ true → Later (verdict_of c lent addr bad)
later c lent addr bad f l = subst Later (by_tests c lent addr bad f l refl refl refl) (go (in_rom addr) (in_ram addr) bad)
  where
    go : (i r b : Bool) → Later (by_tests_lem true true i r b)
    go true r true = omega arith
    go true r false = tt
    go false true true = omega arith
    go false true false = tt
    go false false b = omega arith

pub read_left : (rom : List ℕ) (m : Machine) (addr : ℕ) → (step_of rom m (run.reads addr)).left ≡ m
read_left rom m addr = go (read_of m.cart rom m.area addr)
  where
    go : (r : Result ℕ BusRefusal) → (after_read m r).left ≡ m
    go (Ok b) = refl
    go (Err w) = refl

-- a refused access leaves the machine as it was
pub refused_left : (rom : List ℕ) (m : Machine) (a : Access) (k : ℕ) → (step_of rom m a).answer ≡ run.refused k
    → (step_of rom m a).left ≡ m
refused_left rom m (run.reads addr) k e = read_left rom m addr
refused_left rom m (run.writes addr byte) k e = go (write_of m.cart m.area addr byte) refl e
  where
    after : List ℕ
    after = area_after m.cart m.area addr byte

    go : (r : Result Cartridge BusRefusal) → write_of m.cart m.area addr byte ≡ r → (after_write m r after).answer ≡ run.refused k
        → (after_write m r after).left ≡ m
    go (Ok d) p q = let z : ◌≡◌ {A = ℕ} 0 1 = cc in absurd (omega arith)
    go (Err w) p q =
        ap (λ (x : List ℕ). record { cart = m.cart; area = x }) (refused_area m.cart m.area addr byte w p)
refused_left rom m (run.clocks n) k e = go (advance_of m.cart n) e
  where
    go : (r : Result Cartridge AdvanceRefusal) → (after_clocks m r).answer ≡ run.refused k → (after_clocks m r).left ≡ m
    go (Ok d) q = let z : ◌≡◌ {A = ℕ} 0 1 = cc in absurd (omega arith)
    go (Err w) q = refl

module _ (rom : List ℕ) (m : Machine) (ready : Ready rom m) where
  step_neither : (a : Access) → Neither (step_of rom m a).answer
  unfolding read_of read_verdict write_of write_verdict advance_of
  step_neither (run.reads addr) =
      go (read_verdict m.cart rom m.area addr)
      (later m.cart (lent_both m.cart (length rom) (length m.area)) addr false ready.fit
      (both_true (eq-eqb _ _ ready.image) (eq-eqb _ _ ready.area)))
    where
      go : (v : Result Target BusRefusal) → Later v → Neither (after_read m (read_by m.cart rom m.area addr v)).answer
      go (Ok Rom) h = tt
      go (Ok Ram) h = tt
      go (Err w) h = h
  step_neither (run.writes addr byte) =
      go (write_verdict m.cart m.area addr byte)
      (later m.cart (lent_area m.cart (length m.area)) addr (mapper.bad_selection m.cart.mapper addr byte) ready.fit
      (eq-eqb _ _ ready.area))
    where
      go : (v : Result Target BusRefusal) → Later v
          → Neither (after_write m (write_by m.cart addr byte v) (area_after m.cart m.area addr byte)).answer
      go (Ok Rom) h = tt
      go (Ok Ram) h = tt
      go (Err w) h = h
  step_neither (run.clocks n) = go (fit_cart m.cart) (mapper.late m.cart.mapper n) ready.fit
    where
      go : (f l : Bool) → f ≡ true
          → Neither (after_clocks m (first_no Err (no (not f) late.Unfit ∷ no l late.Late ∷ []) (Ok (with_mapper m.cart (mapper.clocks_on m.cart.mapper n))))).answer
      go true true e = omega arith
      go true false e = tt
      go false l e = false≢true e

  step_ready : (a : Access) → Octet a → Ready rom (step_of rom m a).left
  step_ready (run.reads addr) o = subst (Ready rom) (sym (read_left rom m addr)) ready
  step_ready (run.writes addr byte) o = go (write_of m.cart m.area addr byte) refl
    where
      long : length (area_after m.cart m.area addr byte) ≡ area_of m.cart
      long = one_length m.area _ (write_one m.cart m.area addr byte) ∙ ready.area

      go : (r : Result Cartridge BusRefusal) → write_of m.cart m.area addr byte ≡ r
          → Ready rom (after_write m r (area_after m.cart m.area addr byte)).left
      go (Ok d) e =
          let t = write_taken m.cart d m.area addr byte e in
          record {
            fit = write_fit m.cart d m.area addr byte o e;
            image = ready.image ∙ ap (λ (x : Cartridge). x.length) (sym t.is);
            area = long ∙ sym (write_area_stays m.cart d m.area addr byte e);
          }
      go (Err w) e = record { fit = ready.fit; image = ready.image; area = long }
  step_ready (run.clocks n) o = go (advance_of m.cart n) refl
    where
      go : (r : Result Cartridge AdvanceRefusal) → advance_of m.cart n ≡ r → Ready rom (after_clocks m r).left
      go (Ok d) e =
          let t = advance_taken m.cart d n e in
          record {
            fit = advance_fit m.cart d n e;
            image = ready.image ∙ ap (λ (x : Cartridge). x.length) (sym t.is);
            area = ready.area ∙ sym (ap area_of t.is ∙ (kept.clocks_same m.cart.mapper n).area m.cart.size);
          }
      go (Err w) e = ready

pub mount_ready : (image ram : List ℕ) (wall : ℕ) (c : Cartridge) → mount_of image ram wall ≡ Ok c
    → Ready image (record { cart = c; area = mount.area_after image ram wall })
unfolding mount.area_after cart_of
mount_ready image ram wall c e =
    let t = mount_taken image ram wall c e in
    record {
      fit = mount_fit image ram wall c e;
      image = sym (ap (λ (x : Cartridge). x.length) t.is);
      area = ap (λ (x : Result Cartridge MountRefusal). length (mount.area_by x ram)) e ∙ length-replicate (length ram) 0 ∙ t.lent;
    }

pub run_ready : (rom : List ℕ) (m : Machine) (as' : List Access) → Ready rom m → Octets as' → Ready rom (run_of rom m as').left
run_ready rom m [] r o = r
run_ready rom m (a ∷ as') r o = run_ready rom (step_of rom m a).left as' (step_ready rom m r a o.0) o.1

pub run_neither : (rom : List ℕ) (m : Machine) (as' : List Access) → Ready rom m → Octets as'
    → AllNeither (run_of rom m as').answers
run_neither rom m [] r o = tt
run_neither rom m (a ∷ as') r o =
    (step_neither rom m r a, run_neither rom (step_of rom m a).left as' (step_ready rom m r a o.0) o.1)
