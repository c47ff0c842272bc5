-- A record by its kind, and an access by its answer.
use Rattle.std.specs.Prelude.{Result}
use mathlib.Core.List.{List}
use mathlib.Core.Path.{◌≡◌, sym, ap, ◌∙◌, subst}
use Prim.Native.Nat.{ℕ, ◌+◌, ◌*◌, ◌≤◌}
use native.Mathlib.Omega.{arith}
use Rattle.trace.specs.Trace.{size_of}
use Rattle.trace.specs.declared.Record.{Record}
use Rattle.facts.proofs.ChoiceLaws.{coincide}
use Rattle.digits.specs.Put.{Put}
use Rattle.digits.proofs.PutLaws.{put_one}
use Rattle.bus.specs.Run.{Access, Machine, Left, after_write, step_of}
use Rattle.replay_step.specs.Step.{access_of, line_of, Did}
use Rattle.cartridge.specs.declared.Cartridge.{Cartridge}
use Rattle.access.specs.declared.BusRefusal.{BusRefusal}

-- an access by its answer
pub did_by : {x y : Left} {a : Access} {s t : List ℕ} {at r : ℕ} {left : Machine} → y ≡ x → left ≡ y.left
    → Put s at (line_of a y.answer) t r → Did x a s at left t r
did_by {a = a} {s} {t} {at} {r} e l p =
    record {
      leaves = l ∙ ap (λ (z : Left). z.left) e;
      line = subst (λ (z : Left). Put s at (line_of a z.answer) t r) e p;
    }

-- any two that an access may leave so coincide
pub did_one : {x : Left} {a : Access} {s t u : List ℕ} {at i j : ℕ} {left next : Machine} → Did x a s at left t i
    → Did x a s at next u j → (left ≡ next) × (t ≡ u) × (i ≡ j)
did_one d e = let p = put_one d.line e.line in (coincide d.leaves e.leaves, p.0, p.1)

-- a write by its answer and the area
pub wrote : (m : Machine) {r x : Result Cartridge BusRefusal} {area a : List ℕ} → r ≡ x → area ≡ a → after_write m r area ≡ after_write m x a
wrote m {r} {x} {area} {a} e f = ap (λ (t : Result Cartridge BusRefusal). after_write m t area) e ∙ ap (after_write m x) f

-- a record by its kind: its line has at most k bytes
pub stepped : (rom : List ℕ) (m : Machine) (k : ℕ) {r q : Record} {s t : List ℕ} {at n : ℕ} {left : Machine} → r ≡ q
    → Did (step_of rom m (access_of q)) (access_of q) s at left t n → n ≤ at + k → 2 * k ≤ 5 * size_of q
    → Did (step_of rom m (access_of r)) (access_of r) s at left t n × (2 * n ≤ 2 * at + 5 * size_of r)
stepped rom m k {s = s} {t} {at} {n} {left} e d h l = (
  subst (λ (x : Record). Did (step_of rom m (access_of x)) (access_of x) s at left t n) (sym e) d,
  omega (arith, ap size_of e),
)
