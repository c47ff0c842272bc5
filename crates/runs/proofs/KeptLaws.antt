-- The accesses that we don't refuse leave what all leave.
use mathlib.Core.Bool.{Bool, true, false}
use mathlib.Core.List.{List, [], ◌∷◌}
use mathlib.Core.Path.{◌≡◌, refl, sym, subst}
use Prim.Native.Nat.{ℕ}
use Rattle.facts.specs.Choice.{pick}
use Rattle.facts.proofs.ChoiceLaws.{false≢true}
use Rattle.bus.specs.Run.{Access, Answer, Machine, gave, took, refused, step_of, run_of}
use Rattle.runs.specs.Calls.{Calls, Octets, end, call}
use Rattle.runs.specs.Kept.{is_refused, kept_of, kept_answers}
use Rattle.runs.proofs.RunLaws.{called, calls_run, refused_left}

pub refused_stays : (rom : List ℕ) (m : Machine) (a : Access) → is_refused (step_of rom m a).answer ≡ true → (step_of rom m a).left ≡ m
refused_stays rom m a e = go (step_of rom m a).answer refl e
  where
    go : (x : Answer) → (step_of rom m a).answer ≡ x → is_refused x ≡ true → (step_of rom m a).left ≡ m
    go (gave b) p q = false≢true q
    go took p q = false≢true q
    go (refused k) p q = refused_left rom m a k p

kept_calls : (rom : List ℕ) (m : Machine) (as' : List Access)
    → Calls rom m (kept_of rom m as') (kept_answers (run_of rom m as').answers) (run_of rom m as').left
kept_calls rom m [] = end
kept_calls rom m (a ∷ as') = go (is_refused (step_of rom m a).answer) refl (kept_calls rom (step_of rom m a).left as')
  where
    next : Machine
    next = (step_of rom m a).left

    go : (t : Bool) → is_refused (step_of rom m a).answer ≡ t
        → Calls rom next (kept_of rom next as') (kept_answers (run_of rom next as').answers) (run_of rom next as').left
        → Calls rom m (pick t (kept_of rom next as') (a ∷ kept_of rom next as'))
        (pick t (kept_answers (run_of rom next as').answers) ((step_of rom m a).answer ∷ kept_answers (run_of rom next as').answers))
        (run_of rom next as').left
    go true e c =
        subst (λ (k : Machine). Calls rom k (kept_of rom next as') (kept_answers (run_of rom next as').answers) (run_of rom next as').left)
        (refused_stays rom m a e) c
    go false e c = call (called rom m a) c

-- any answers that the calls give: those that are no refusals, to the accesses that are not refused
pub made_kept : {rom : List ℕ} {m n : Machine} {as' : List Access} {xs : List Answer} → Calls rom m as' xs n
    → Calls rom m (kept_of rom m as') (kept_answers xs) n
made_kept {rom} {m} {n} {as'} {xs} c =
    let e = calls_run c in
    subst (λ (k : Machine). Calls rom m (kept_of rom m as') (kept_answers xs) k) (sym e.1)
    (subst (λ (ys : List Answer). Calls rom m (kept_of rom m as') (kept_answers ys) (run_of rom m as').left) (sym e.0)
    (kept_calls rom m as'))

pub kept_octets : (rom : List ℕ) (m : Machine) (as' : List Access) → Octets as' → Octets (kept_of rom m as')
kept_octets rom m [] b = tt
kept_octets rom m (a ∷ as') b = go (is_refused (step_of rom m a).answer) (kept_octets rom (step_of rom m a).left as' b.1)
  where
    rest : List Access
    rest = kept_of rom (step_of rom m a).left as'

    go : (t : Bool) → Octets rest → Octets (pick t rest (a ∷ rest))
    go true r = r
    go false r = (b.0, r)
