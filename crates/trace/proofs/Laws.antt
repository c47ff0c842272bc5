-- What stands at a place, by its tests.
use Rattle.std.specs.Prelude.{Ok, Err, Some, None, Result, Option}
use mathlib.Core.Bool.{Bool, true, false}
use mathlib.Core.List.{List, [], ◌∷◌}
use mathlib.Core.Path.{◌≡◌, refl, sym, ap, ◌∙◌}
use Prim.Native.Nat.{ℕ, ◌+◌, ◌-◌, ◌*◌, ◌<◌, ◌≤◌}
use native.Mathlib.Omega.{arith}
use lib.Dec.{eqb}
use lib.ListN.{length, get_or}
use borrow.Author.Tests.{eq-eqb, ne_eqb, eqb-true, lt-ltb, le-ltb}
use Rattle.facts.specs.Choice.{pick, both}
use Rattle.trace.specs.Trace.{Mark, body_of, record_of, kind_by, kind_of, left_at, whole_at, marked_at, record_at}
use Rattle.trace.specs.declared.Record.{Record}
use Rattle.trace.specs.declared.TraceRefusal.TheVariants.{CutShort}
use Rattle.trace.specs.declared.Kind.{Kind}
use Rattle.trace.specs.declared.TraceRefusal.{TraceRefusal}

-- ---- the marks, as one number of two bytes

pub marked : {m : Option Kind} (a b x y : ℕ) → b < 256 → y < 256 → 256 * a + b ≡ 256 * x + y → m ≡ kind_of x y → m ≡ kind_of a b
marked a b x y h l e is =
    let p : x ≡ a = omega arith in
    let q : y ≡ b = omega arith in
    is ∙ ap (λ (k : ℕ). kind_of k y) p ∙ ap (kind_of a) q

-- two bytes that are none of a list's marks
abbrev NoneOf : List Mark → ℕ → ℕ → Type 0
NoneOf [] a b = Unit {0}
NoneOf (m ∷ ms) a b = (256 * a + b ≡ 256 * m.first + m.second → ⊥) × NoneOf ms a b

no_mark : (a b x y : ℕ) → (256 * a + b ≡ 256 * x + y → ⊥) → both (eqb a x) (eqb b y) ≡ false
no_mark a b x y n = go (eqb a x) (eqb b y) refl refl
  where
    go : (s t : Bool) → eqb a x ≡ s → eqb b y ≡ t → both s t ≡ false
    go true true p q = absurd (n (omega (arith, eqb-true a x p, eqb-true b y q)))
    go true false p q = refl
    go false t p q = refl

pub unmarked : (ms : List Mark) (a b : ℕ) → NoneOf ms a b → None ≡ kind_by ms a b
unmarked [] a b n = refl
unmarked (m ∷ ms) a b n =
    unmarked ms a b n.1
    ∙ sym (ap (λ (t : Bool). pick t (Some m.kind) (kind_by ms a b)) (no_mark a b m.first m.second n.0))

-- ---- what stands at a place

-- the body that is asked for, of a kind that is known
pub body_in : {k : Kind} (x : Kind) (s : List ℕ) (at : ℕ) → k ≡ x → at + body_of k ≤ length s → at + body_of x ≤ length s
body_in x s at e h = rw (ap body_of (sym e)) h

module _ (s : List ℕ) (at : ℕ) where
  abbrev by_body : Kind → Bool → Result (Option (Record × ℕ)) TraceRefusal
  by_body k t = pick t (Err (CutShort at)) (Ok (Some (record_of k s (at + 2), at + (2 + body_of k))))

  pub cut : {n : ℕ} (k : Kind) → n ≡ body_of k → left_at s at - 2 < n → Err (CutShort at) ≡ whole_at k s at
  unfolding whole_at
  cut k e h = sym (ap (by_body k) (lt-ltb (left_at s at) (2 + body_of k) (omega arith)))

  pub whole : {n : ℕ} {r : Record} (k : Kind) → at + 2 ≤ length s → n ≡ body_of k → n ≤ left_at s at - 2
      → r ≡ record_of k s (at + 2) → Ok (Some (r, at + 2 + n)) ≡ whole_at k s at
  unfolding whole_at
  whole {n} {r} k h e l is =
      let p : at + 2 + n ≡ at + (2 + body_of k) = omega arith in
      ap (λ (x : Record). Ok (Some (x, at + 2 + n))) is ∙ ap (λ (n : ℕ). Ok (Some (record_of k s (at + 2), n))) p
      ∙ sym (ap (by_body k) (le-ltb (left_at s at) (2 + body_of k) (omega arith)))

  pub none_left : length s ≤ at → Ok None ≡ record_at s at
  unfolding record_at
  none_left h = sym (rw (eq-eqb (left_at s at) 0 (omega arith)) refl)

  pub one_left : at < length s → left_at s at < 2 → Err (CutShort at) ≡ record_at s at
  unfolding record_at
  one_left h l = sym (rw (ne_eqb (left_at s at) 0 (λ e. omega arith), eq-eqb (left_at s at) 1 (omega arith)) refl)

  pub two_left : {m : Option Kind} → 2 ≤ left_at s at → m ≡ kind_of (get_or s at 0) (get_or s (at + 1) 0) → marked_at m s at ≡ record_at s at
  unfolding record_at
  two_left {m} h e =
      ap (λ (x : Option Kind). marked_at x s at) e
      ∙ sym (rw (ne_eqb (left_at s at) 0 (λ e. omega arith), ne_eqb (left_at s at) 1 (λ e. omega arith)) refl)
