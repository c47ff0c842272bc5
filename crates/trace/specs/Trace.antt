-- What stands at a place of a trace, and all its records (Trace 1 to 3).
use Rattle.std.specs.Prelude.{List, [], ◌∷◌, ℕ, zero, suc, ◌+◌, ◌-◌, eqb, ltb, length, get_or, Ok, Err, Some, None, Result, Option}
use Rattle.std.specs.Borrow.{Bor}
use Rattle.facts.specs.Choice.{pick, both}
use Rattle.bytes_le.specs.Little.{field_at}
use Rattle.trace.specs.declared.Record.{Record}
use Rattle.trace.specs.declared.Record.TheVariants as record'
use Rattle.trace.specs.declared.TraceRefusal.{TraceRefusal}
use Rattle.trace.specs.declared.TraceRefusal.TheVariants.{UnknownMark, CutShort}
use Rattle.trace.specs.declared.Kind.{Kind}
use Rattle.trace.specs.declared.Kind.TheVariants.{Read, Write, Clocks}
use Rattle.trace.specs.declared.Reader.{Reader}

-- Numbers 22: "UnknownMark"; Numbers 23: "CutShort"
abbrev pub number_of : TraceRefusal → ℕ
number_of (UnknownMark at) = 22
number_of (CutShort at) = 23

-- Trace 7: "the record's place"
abbrev pub place_of : TraceRefusal → ℕ
place_of (UnknownMark at) = at
place_of (CutShort at) = at

-- ---- the marks and their bodies

-- Trace 1: "52 44 is a read, with an address of two bytes; 57 52 a write, with an address of two bytes and a byte; 43 4B clocks
-- that pass, with a count of four bytes. Addresses and counts are little-endian"

pub record Mark : Type 0 where
  pub first : ℕ
  pub second : ℕ
  pub kind : Kind

abbrev pub mark : ℕ → ℕ → Kind → Mark
mark a b k = record { first = a; second = b; kind = k }

unfoldable pub marks : List Mark
marks = mark 0x52 0x44 Read ∷ mark 0x57 0x52 Write ∷ mark 0x43 0x4B Clocks ∷ []

-- the bytes behind the mark
abbrev pub body_of : Kind → ℕ
body_of Read = 2
body_of Write = 3
body_of Clocks = 4

-- the record whose body stands at a place
abbrev pub record_of : Kind → List ℕ → ℕ → Record
record_of Read s at = record'.Read (field_at 2 s at)
record_of Write s at = record'.Write (field_at 2 s at) (field_at 1 s (at + 2))
record_of Clocks s at = record'.Clocks (field_at 4 s at)

-- the kind that two bytes mark, by a list of marks and by all of them
abbrev pub kind_by : List Mark → ℕ → ℕ → Option Kind
kind_by [] a b = None
kind_by (m ∷ ms) a b = pick (both (eqb a m.first) (eqb b m.second)) (Some m.kind) (kind_by ms a b)

unfoldable pub kind_of : ℕ → ℕ → Option Kind
unfolding marks
kind_of a b = kind_by marks a b

-- ---- what stands at a place

-- how many bytes are left there
abbrev pub left_at : List ℕ → ℕ → ℕ
left_at s at = length s - at

-- Trace 2: "a mark whose body is not all there, is number 23", or the record and the place behind it
unfoldable pub whole_at : Kind → List ℕ → ℕ → Result (Option (Record × ℕ)) TraceRefusal
whole_at k s at =
    pick (ltb (left_at s at) (2 + body_of k)) (Err (CutShort at)) (Ok (Some (record_of k s (at + 2), at + (2 + body_of k))))

-- Trace 2: "two bytes that are no mark are number 22"
abbrev pub marked_at : Option Kind → List ℕ → ℕ → Result (Option (Record × ℕ)) TraceRefusal
marked_at (Some k) s at = whole_at k s at
marked_at None s at = Err (UnknownMark at)

-- Trace 2: "At a place where no byte is left, the end or beyond it, the trace ends. One byte alone .. is number 23", or two
-- bytes that are a mark or not
unfoldable pub record_at : List ℕ → ℕ → Result (Option (Record × ℕ)) TraceRefusal
record_at s at =
    pick (eqb (left_at s at) 0) (Ok None)
    (pick (eqb (left_at s at) 1) (Err (CutShort at)) (marked_at (kind_of (get_or s at 0) (get_or s (at + 1) 0)) s at))

-- Trace 3: "A reader is a trace that is lent to it, and the place where it stands"
abbrev pub reader_at : Bor (List ℕ) → ℕ → Reader
reader_at trace at = record { trace = trace; at = at }

-- the bytes of a record, its mark with it
abbrev pub size_of : Record → ℕ
size_of (record'.Read addr) = 4
size_of (record'.Write addr byte) = 5
size_of (record'.Clocks count) = 6

abbrev pub sizes_of : List Record → ℕ
sizes_of [] = 0
sizes_of (r ∷ rs) = size_of r + sizes_of rs

-- ---- all records

-- why the reading stops
pub data Stop : Type 0 where
  ended : Stop
  refused : TraceRefusal → Stop

-- the records, and the place where the reading stops
pub record Records : Type 0 where
  pub records : List Record
  pub place : ℕ
  pub stop : Stop

abbrev pub stopped : ℕ → Stop → Records
stopped at w = record { records = []; place = at; stop = w }

-- a record, and then those of the rest
abbrev pub and_then : Record → Records → Records
and_then r rest = record { records = r ∷ rest.records; place = rest.place; stop = rest.stop }

-- the records from a place on, by what stands there: behind a record the reading goes on, at the end it stops, and so it does
-- at a refusal, Trace 7: "nothing more is read"
abbrev pub records_by : (ℕ → Records) → ℕ → Result (Option (Record × ℕ)) TraceRefusal → Records
records_by rest at (Ok (Some (r, after))) = and_then r (rest after)
records_by rest at (Ok None) = stopped at ended
records_by rest at (Err w) = stopped at (refused w)

-- the same, where at most n places are looked at
unfoldable pub records_in : ℕ → List ℕ → ℕ → Records
records_in zero s at = stopped at ended
records_in (suc n) s at = records_by (records_in n s) at (record_at s at)

-- a record is longer than a byte, so that one place more than there are bytes left is never too few (`enough` in
-- proofs/Records)
unfoldable pub records_from : List ℕ → ℕ → Records
records_from s at = records_in (suc (left_at s at)) s at

unfoldable pub records_of : List ℕ → Records
records_of s = records_from s 0
