-- What an answer says of the places, and the records from a place on: by what stands there, and as a caller reads them one
-- after the other.
use Rattle.std.specs.Prelude.{Ok, Err, Some, None, Result, Option}
use mathlib.Core.List.{List}
use mathlib.Core.Path.{◌≡◌, refl, sym, ap, ◌∙◌, subst}
use Prim.Native.Nat.{ℕ, zero, suc, ◌+◌, ◌<◌, ◌≤◌, zero-le}
use native.Mathlib.Omega.{arith}
use lib.Dec.{eqb, ltb}
use lib.ListN.{length, get_or}
use borrow.Author.Tests.{eqb-true, eqb-false, ltb-false}
use Rattle.facts.proofs.ChoiceLaws.{pick_cases}
use Rattle.trace.specs.Trace.{
  place_of,
  size_of,
  sizes_of,
  body_of,
  record_of,
  kind_of,
  left_at,
  whole_at,
  marked_at,
  record_at,
  Records,
  ended,
  refused,
  stopped,
  and_then,
  records_by,
  records_in,
  records_from,
  records_of,
}
use Rattle.trace.specs.Reads.{Reads, Sound, StopsAt}
use Rattle.trace.specs.Reads as reads
use Rattle.trace.specs.declared.Record.{Record}
use Rattle.trace.specs.declared.Record.TheVariants as record'
use Rattle.trace.specs.declared.TraceRefusal.{TraceRefusal}
use Rattle.trace.specs.declared.Kind.{Kind}
use Rattle.trace.specs.declared.Kind.TheVariants.{Read, Write, Clocks}

-- ---- the places that an answer speaks of

-- a record is its mark and the body of its kind
size_of_lem : (k : Kind) (s : List ℕ) (at : ℕ) → size_of (record_of k s at) ≡ 2 + body_of k
size_of_lem Read s at = refl
size_of_lem Write s at = refl
size_of_lem Clocks s at = refl

whole_sound : (k : Kind) (s : List ℕ) (at : ℕ) → at < length s → Sound s at (whole_at k s at)
unfolding whole_at
whole_sound k s at h =
    pick_cases (Sound s at) (ltb (left_at s at) (2 + body_of k)) (λ e. (refl, h))
    (λ e. (ap (λ (n : ℕ). at + n) (sym (size_of_lem k s (at + 2))), omega (arith, ltb-false (left_at s at) (2 + body_of k) e)))

pub sound : (s : List ℕ) (at : ℕ) → Sound s at (record_at s at)
unfolding record_at
sound s at =
    pick_cases (Sound s at) (eqb (left_at s at) 0) (λ e. omega (arith, eqb-true (left_at s at) 0 e))
    (λ e. let h : at < length s = omega (arith, eqb-false (left_at s at) 0 e) in
    pick_cases (Sound s at) (eqb (left_at s at) 1) (λ f. (refl, h)) (λ f. go h (kind_of (get_or s at 0) (get_or s (at + 1) 0))))
  where
    go : at < length s → (m : Option Kind) → Sound s at (marked_at m s at)
    go h (Some k) = whole_sound k s at h
    go h None = (refl, h)

-- Progress: behind a record lies a place that is greater by its size, 4, 5 or 6, and at most the trace's length.
pub after_found : (s : List ℕ) (at : ℕ) {after : ℕ} {r : Record} → record_at s at ≡ Ok (Some (r, after))
    → (after ≡ at + size_of r) × (after ≤ length s)
after_found s at e = subst (Sound s at) e (sound s at)

pub size_bounds : (r : Record) → (4 ≤ size_of r) × (size_of r ≤ 6)
size_bounds (record'.Read addr) = (omega arith, omega arith)
size_bounds (record'.Write addr byte) = (omega arith, omega arith)
size_bounds (record'.Clocks count) = (omega arith, omega arith)

pub progress : (s : List ℕ) (at : ℕ) {after : ℕ} {r : Record} → record_at s at ≡ Ok (Some (r, after))
    → (at < after) × (after ≤ length s)
progress s at {r = r} e =
    let p = after_found s at e in
    (omega (arith, p.0, (size_bounds r).0), p.1)

-- A refusal's place is the record's own, and in the trace.
pub place_refused : (s : List ℕ) (at : ℕ) {w : TraceRefusal} → record_at s at ≡ Err w → (place_of w ≡ at) × (at < length s)
place_refused s at e = subst (Sound s at) e (sound s at)

pub none_at_end : (s : List ℕ) (at : ℕ) → record_at s at ≡ (Ok None) → length s ≤ at
none_at_end s at e = subst (Sound s at) e (sound s at)

-- ---- the records from a place on

-- any two numbers of places that are more than the bytes left give the same
pub more : (m n : ℕ) (s : List ℕ) (at : ℕ) → left_at s at < m → left_at s at < n → records_in m s at ≡ records_in n s at
unfolding records_in
more zero n s at h l = absurd (omega arith)
more (suc m) zero s at h l = absurd (omega arith)
more (suc m) (suc n) s at h l = go (record_at s at) (sound s at) (more m n s)
  where
    go : (x : Result (Option (Record × ℕ)) TraceRefusal) → Sound s at x → ((k : ℕ) → left_at s k < m → left_at s k < n → records_in m s k ≡ records_in n s k)
        → records_by (records_in m s) at x ≡ records_by (records_in n s) at x
    go (Ok (Some (r, after))) p f =
        let b = size_bounds r in ap (and_then r) (f after (omega (arith, p.0, p.1, b.0)) (omega (arith, p.0, p.1, b.0)))
    go (Ok None) p f = refl
    go (Err w) p f = refl

pub enough : (n : ℕ) (s : List ℕ) (at : ℕ) → left_at s at < n → records_in n s at ≡ records_from s at
unfolding records_from
enough n s at h = more n (suc (left_at s at)) s at h (omega arith)

-- by what stands there
pub from_by : (s : List ℕ) (at : ℕ) → records_from s at ≡ records_by (records_from s) at (record_at s at)
unfolding records_from records_in
from_by s at = go (record_at s at) (sound s at)
  where
    go : (x : Result (Option (Record × ℕ)) TraceRefusal) → Sound s at x → records_by (records_in (left_at s at) s) at x ≡ records_by (records_from s) at x
    go (Ok (Some (r, after))) p =
        let b = size_bounds r in ap (and_then r) (enough (left_at s at) s after (omega (arith, p.0, p.1, b.0)))
    go (Ok None) p = refl
    go (Err w) p = refl

pub from_record : (s : List ℕ) (at : ℕ) {after : ℕ} {r : Record} → record_at s at ≡ Ok (Some (r, after))
    → records_from s at ≡ and_then r (records_from s after)
from_record s at e = from_by s at ∙ ap (records_by (records_from s) at) e

pub from_end : (s : List ℕ) (at : ℕ) → record_at s at ≡ (Ok None) → records_from s at ≡ stopped at ended
from_end s at e = from_by s at ∙ ap (records_by (records_from s) at) e

pub from_refused : (s : List ℕ) (at : ℕ) {w : TraceRefusal} → record_at s at ≡ Err w
    → records_from s at ≡ stopped at (refused w)
from_refused s at e = from_by s at ∙ ap (records_by (records_from s) at) e

-- ---- the records as a caller reads them one after the other

pub reads_from : {s : List ℕ} {at : ℕ} {x : Records} → Reads s at x → x ≡ records_from s at
reads_from {s} {at} (reads.found {r = r} e t) = ap (and_then r) (reads_from t) ∙ sym (from_record s at (sym e))
reads_from {s} {at} (reads.end e) = sym (from_end s at (sym e))
reads_from {s} {at} (reads.refuse e) = sym (from_refused s at (sym e))

-- On every byte list what is read from its start is exactly what `records_of` says: the records, the place where it stops, and
-- why it stops there.
pub reads_all : {s : List ℕ} {x : Records} → Reads s 0 x → x ≡ records_of s
unfolding records_of
reads_all = reads_from

-- and every byte list is read to a stop
reads_in : (n : ℕ) (s : List ℕ) (at : ℕ) → left_at s at < n → Reads s at (records_in n s at)
unfolding records_in
reads_in zero s at h = absurd (omega arith)
reads_in (suc n) s at h = go (record_at s at) refl (sound s at) (reads_in n s)
  where
    go : (x : Result (Option (Record × ℕ)) TraceRefusal) → x ≡ record_at s at → Sound s at x → ((k : ℕ) → left_at s k < n → Reads s k (records_in n s k))
        → Reads s at (records_by (records_in n s) at x)
    go (Ok (Some (r, after))) e p f = let b = size_bounds r in reads.found e (f after (omega (arith, p.0, p.1, b.0)))
    go (Ok None) e p f = reads.end e
    go (Err w) e p f = reads.refuse e

pub reads_on : (s : List ℕ) (at : ℕ) → Reads s at (records_from s at)
unfolding records_from
reads_on s at = reads_in (suc (left_at s at)) s at (omega arith)

-- ---- where the reading stops

pub stop_place : {s : List ℕ} {at : ℕ} {x : Records} → Reads s at x → x.place ≡ at + sizes_of x.records
stop_place {s} {at} (reads.found e t) = omega (arith, (after_found s at (sym e)).0, stop_place t)
stop_place (reads.end e) = omega arith
stop_place (reads.refuse e) = omega arith

pub stops_at : {s : List ℕ} {at : ℕ} {x : Records} → Reads s at x → at ≤ length s → StopsAt s x.place x.stop
stops_at {s} {at} (reads.found e t) h = stops_at t (after_found s at (sym e)).1
stops_at {s} {at} (reads.end e) h = omega (arith, none_at_end s at (sym e))
stops_at {s} {at} (reads.refuse e) h = place_refused s at (sym e)

-- The whole trace: the reading stops behind all the records read, and that is the trace's end, or in the trace the place of the
-- record refused.
pub stop_of : (s : List ℕ)
    → ((records_of s).place ≡ sizes_of (records_of s).records) × StopsAt s (records_of s).place (records_of s).stop
unfolding records_of
stop_of s = (omega (arith, stop_place (reads_on s 0)), stops_at (reads_on s 0) zero-le)
