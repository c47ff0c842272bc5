-- The refusals of a record, each with when it is given (Trace 2, Order 8).
use Rattle.std.specs.Prelude.{Bool, true, false, List, [], ◌∷◌, ℕ, ◌+◌, eqb, ltb, leb, get_or, Ok, Some, None, Result, Option}
use Rattle.facts.specs.Choice.{pick, both, either}
use Rattle.facts.specs.Refusals.{No, no}
use Rattle.trace.specs.Trace.{body_of, record_of, kind_of, left_at}
use Rattle.trace.specs.declared.TraceRefusal.{TraceRefusal}
use Rattle.trace.specs.declared.TraceRefusal.TheVariants.{UnknownMark, CutShort}
use Rattle.trace.specs.declared.Record.{Record}
use Rattle.trace.specs.declared.Kind.{Kind}

-- what the two bytes at a place mark
abbrev pub mark_at : List ℕ → ℕ → Option Kind
mark_at s at = kind_of (get_or s at 0) (get_or s (at + 1) 0)

-- Trace 2: "two bytes that are no mark are number 22"
abbrev pub is_no_mark : Option Kind → Bool
is_no_mark (Some k) = false
is_no_mark None = true

unfoldable pub no_mark_at : List ℕ → ℕ → Bool
no_mark_at s at = both (leb 2 (left_at s at)) (is_no_mark (mark_at s at))

-- Trace 2: "One byte alone, or a mark whose body is not all there, is number 23"
abbrev pub is_cut : Option Kind → ℕ → Bool
is_cut (Some k) left = ltb left (2 + body_of k)
is_cut None left = false

unfoldable pub cut_at : List ℕ → ℕ → Bool
cut_at s at = either (eqb (left_at s at) 1) (both (leb 2 (left_at s at)) (is_cut (mark_at s at) (left_at s at)))

-- Order 8: "A place of a trace is tested for 22, then for 23"
abbrev pub trace_noes : List ℕ → ℕ → List (No TraceRefusal)
trace_noes s at = no (no_mark_at s at) (UnknownMark at) ∷ no (cut_at s at) (CutShort at) ∷ []

-- where neither is given, Trace 2: "At a place where no byte is left .. the trace ends .. Else the record is read, and the next
-- place is behind it"
abbrev pub whole_in : Option Kind → List ℕ → ℕ → Result (Option (Record × ℕ)) TraceRefusal
whole_in (Some k) s at = Ok (Some (record_of k s (at + 2), at + (2 + body_of k)))
whole_in None s at = Ok None

unfoldable pub taken_at : List ℕ → ℕ → Result (Option (Record × ℕ)) TraceRefusal
taken_at s at = pick (eqb (left_at s at) 0) (Ok None) (whole_in (mark_at s at) s at)
