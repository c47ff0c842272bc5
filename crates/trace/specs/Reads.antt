-- Calls of `next_record` made one after the other, each answered as its contract allows, and what must hold of them.
use Rattle.std.specs.Prelude.{List, ◌≡◌, ℕ, ◌+◌, ◌<◌, ◌≤◌, length, Ok, Err, Some, None, Result, Option}
use Rattle.trace.specs.Trace.{place_of, size_of, record_at, Records, Stop, ended, refused, stopped, and_then}
use Rattle.trace.specs.declared.Record.{Record}
use Rattle.trace.specs.declared.TraceRefusal.{TraceRefusal}

-- what a caller has read that asks at a place, then at the place behind each record found, until there is none
pub data Reads (s : List ℕ) : ℕ → Records → Type 0 where
  found : {at after : ℕ} {r : Record} {rest : Records} → Ok (Some (r, after)) ≡ record_at s at → Reads s after rest
      → Reads s at (and_then r rest)
  end : {at : ℕ} → Ok None ≡ record_at s at → Reads s at (stopped at ended)
  refuse : {at : ℕ} {w : TraceRefusal} → Err w ≡ record_at s at → Reads s at (stopped at (refused w))

-- a record is followed by the place behind it, which is in the trace or its end; at the end nothing is left; and a refusal
-- is of the record at the place asked for, of which at least a byte is there
abbrev pub Sound : List ℕ → ℕ → Result (Option (Record × ℕ)) TraceRefusal → Type 0
Sound s at (Ok (Some (r, after))) = (after ≡ at + size_of r) × (after ≤ length s)
Sound s at (Ok None) = length s ≤ at
Sound s at (Err w) = (place_of w ≡ at) × (at < length s)

-- where the reading stops: at the trace's end, or before it at the record refused
abbrev pub StopsAt : List ℕ → ℕ → Stop → Type 0
StopsAt s place ended = place ≡ length s
StopsAt s place (refused w) = (place_of w ≡ place) × (place < length s)
