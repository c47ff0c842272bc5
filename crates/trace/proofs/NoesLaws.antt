-- What stands at a place is the first refusal that is given there, or what is taken.
use Rattle.std.specs.Prelude.{Ok, Err, Some, None, Option}
use mathlib.Core.Bool.{Bool, true, false}
use mathlib.Core.List.{List, [], ◌∷◌}
use mathlib.Core.Path.{◌≡◌, refl}
use Prim.Native.Nat.{ℕ}
use native.Mathlib.Omega.{arith}
use lib.Dec.{eqb, leb}
use borrow.Author.Tests.{eqb-true, eqb-false, leb-true, leb-false}
use Rattle.facts.specs.Choice.{pick, both, either}
use Rattle.facts.specs.Refusals.{no, first_no}
use Rattle.trace.specs.Trace.{left_at, whole_at, marked_at, record_at}
use Rattle.trace.specs.Noes.{mark_at, is_no_mark, no_mark_at, is_cut, cut_at, trace_noes, whole_in, taken_at}
use Rattle.trace.specs.declared.TraceRefusal.{TraceRefusal}
use Rattle.trace.specs.declared.TraceRefusal.TheVariants.{UnknownMark, CutShort}
use Rattle.trace.specs.declared.Kind.{Kind}

-- by how many bytes are left
pub next_is_first : (s : List ℕ) (at : ℕ) → record_at s at ≡ first_no Err (trace_noes s at) (taken_at s at)
unfolding whole_at record_at no_mark_at cut_at taken_at
next_is_first s at = go (eqb left 0) (eqb left 1) (leb 2 left) refl refl refl (mark_at s at)
  where
    left : ℕ
    left = left_at s at

    marked : (m : Option Kind)
        → marked_at m s at
        ≡ first_no Err (no (is_no_mark m) (UnknownMark at) ∷ no (is_cut m left) (CutShort at) ∷ []) (whole_in m s at)
    marked (Some k) = refl
    marked None = refl

    go : (a b c : Bool) → eqb left 0 ≡ a → eqb left 1 ≡ b → leb 2 left ≡ c → (m : Option Kind)
        → pick a (Ok None) (pick b (Err (CutShort at)) (marked_at m s at))
        ≡ first_no Err
        (no (both c (is_no_mark m)) (UnknownMark at) ∷ no (either b (both c (is_cut m left))) (CutShort at) ∷ [])
        (pick a (Ok None) (whole_in m s at))
    go true true c e f g m = absurd (omega (arith, eqb-true left 0 e, eqb-true left 1 f))
    go true false true e f g m = absurd (omega (arith, eqb-true left 0 e, leb-true 2 left g))
    go true false false e f g m = refl
    go false true true e f g m = absurd (omega (arith, eqb-true left 1 f, leb-true 2 left g))
    go false true false e f g m = refl
    go false false false e f g m = absurd (omega (arith, eqb-false left 0 e, eqb-false left 1 f, leb-false 2 left g))
    go false false true e f g m = marked m

-- what is taken is no refusal
pub taken_is_none : (s : List ℕ) (at : ℕ) (w : TraceRefusal) → taken_at s at ≡ Err w → false ≡ true
unfolding taken_at
taken_is_none s at w = go (mark_at s at) (eqb (left_at s at) 0)
  where
    go : (m : Option Kind) (t : Bool) → pick t (Ok None) (whole_in m s at) ≡ Err w → false ≡ true
    go (Some k) true e = cc
    go (Some k) false e = cc
    go None true e = cc
    go None false e = cc
