-- The fields of a record found in bytes have their widths.
use Rattle.std.specs.Prelude.{Ok, Err, Some, None, Result, Option}
use mathlib.Core.List.{List}
use mathlib.Core.Path.{◌≡◌, subst}
use Prim.Native.Nat.{ℕ, ◌+◌, ◌<◌}
use lib.Dec.{eqb, ltb}
use lib.ListN.{get_or}
use Rattle.facts.proofs.ChoiceLaws.{pick_cases}
use Rattle.bytes_le.specs.Little.{Octets}
use Rattle.bytes_le.proofs.FieldLaws.{field_lt}
use Rattle.trace.specs.Trace.{kind_of, left_at, whole_at, marked_at, record_at}
use Rattle.trace.specs.declared.Record.{Record}
use Rattle.trace.specs.declared.Record.TheVariants as record'
use Rattle.trace.specs.declared.Kind.{Kind}
use Rattle.trace.specs.declared.Kind.TheVariants.{Read, Write, Clocks}
use Rattle.trace.specs.declared.TraceRefusal.{TraceRefusal}

-- an address has 16 bits, a byte 8, a count 32
abbrev pub Narrow : Record → Type 0
Narrow (record'.Read addr) = addr < 65536
Narrow (record'.Write addr byte) = (addr < 65536) × (byte < 256)
Narrow (record'.Clocks count) = count < 4294967296

abbrev NarrowNext : Result (Option (Record × ℕ)) TraceRefusal → Type 0
NarrowNext (Ok (Some (r, after))) = Narrow r
NarrowNext (Ok None) = Unit {0}
NarrowNext (Err w) = Unit {0}

narrow_whole : (k : Kind) (s : List ℕ) (at : ℕ) → Octets s → NarrowNext (whole_at k s at)
unfolding whole_at
narrow_whole Read s at o =
    pick_cases NarrowNext (ltb (left_at s at) 4) (λ e. tt)
    (λ e. field_lt 2 s (at + 2) o)
narrow_whole Write s at o =
    pick_cases NarrowNext (ltb (left_at s at) 5) (λ e. tt)
    (λ e. (field_lt 2 s (at + 2) o, field_lt 1 s (at + 2 + 2) o))
narrow_whole Clocks s at o =
    pick_cases NarrowNext (ltb (left_at s at) 6) (λ e. tt)
    (λ e. field_lt 4 s (at + 2) o)

narrow_at : (s : List ℕ) (at : ℕ) → Octets s → NarrowNext (record_at s at)
unfolding record_at
narrow_at s at o =
    pick_cases NarrowNext (eqb (left_at s at) 0) (λ e. tt)
    (λ e. pick_cases NarrowNext (eqb (left_at s at) 1) (λ f. tt) (λ f. go (kind_of (get_or s at 0) (get_or s (at + 1) 0))))
  where
    go : (m : Option Kind) → NarrowNext (marked_at m s at)
    go (Some k) = narrow_whole k s at o
    go None = tt

pub narrow : (s : List ℕ) (at : ℕ) {after : ℕ} {r : Record} → Octets s → record_at s at ≡ Ok (Some (r, after)) → Narrow r
narrow s at o e = subst NarrowNext e (narrow_at s at o)
