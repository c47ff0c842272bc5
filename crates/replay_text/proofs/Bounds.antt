-- How long the text of a replay is: every trace of bytes fits into the room asked for its length.
use mathlib.Core.List.{List, [], ◌∷◌, ◌++◌}
use mathlib.Core.Path.{sym}
use Prim.Native.Nat.{ℕ, ◌*◌, ◌<◌, ◌≤◌, zero-le}
use native.Mathlib.Omega.{arith}
use lib.ListN.{length, length-append}
use Rattle.bytes_le.specs.Little.{Octets}
use Rattle.trace.specs.Trace.{place_of, sizes_of, Stop, ended, refused, Records, records_from, records_of}
use Rattle.trace.specs.Reads.{Reads, StopsAt}
use Rattle.trace.specs.Reads as seen
use Rattle.trace.specs.declared.Record.{Record}
use Rattle.trace.proofs.Records.{size_bounds, reads_on, stop_of}
use Rattle.trace.proofs.Widths.{narrow}
use Rattle.digits.proofs.Laws.{length_decimal_64}
use Rattle.lines.specs.Lines.{end_line}
use Rattle.lines.proofs.Laws.{length_numbered, length_end}
use Rattle.bus.specs.Run.{Machine, step_of}
use Rattle.replay_step.specs.Step.{access_of, line_of}
use Rattle.replay_step.proofs.Bounds.{line_length}
use Rattle.replay_text.specs.Replay.{stop_line, lines_by, text_of, room_for}

lines_length : (rom : List ℕ) {s : List ℕ} (m : Machine) {at : ℕ} {x : Records} → Octets s → Reads s at x
    → 2 * length (lines_by rom m x) ≤ 5 * sizes_of x.records
lines_length rom {s} m {at} o (seen.found {r = r} {rest} e t) =
    let y = step_of rom m (access_of r) in
    omega (
      arith,
      length-append (line_of (access_of r) y.answer) (lines_by rom y.left rest),
      line_length rom m r (narrow s at o (sym e)),
      lines_length rom y.left o t,
    )
lines_length rom m o (seen.end e) = zero-le
lines_length rom m o (seen.refuse e) = zero-le

count_le : (rs : List Record) → length rs ≤ sizes_of rs
count_le [] = zero-le
count_le (r ∷ rs) = omega (arith, (size_bounds r).0, count_le rs)

stop_length : (s : List ℕ) (place : ℕ) (w : Stop) → length s < 18446744073709551616 → StopsAt s place w
    → (length (stop_line w) ≤ 23) × (place ≤ length s)
stop_length s place ended h p = (zero-le, omega (arith, p))
stop_length s place (refused w) h p = (
  omega (arith, length_numbered 84 (place_of w), length_decimal_64 (place_of w) (omega (arith, p.0, p.1))),
  omega (arith, p.1),
)

-- The text of a trace is no longer than the room that is asked for.
pub text_length : (rom : List ℕ) (m : Machine) (s : List ℕ) → Octets s → length s < 18446744073709551616
    → length (text_of rom m s) ≤ room_for (length s)
unfolding text_of room_for records_of
text_length rom m s o h =
    let x = records_from s 0 in
    let p = stop_of s in
    let q = stop_length s x.place x.stop h p.1 in
    let n = length x.records in
    omega (
      arith,
      length-append (lines_by rom m x) (stop_line x.stop ++ end_line n),
      length-append (stop_line x.stop) (end_line n),
      lines_length rom m o (reads_on s 0),
      p.0,
      q.0,
      q.1,
      length_end n,
      length_decimal_64 n (omega (arith, count_le x.records, p.0, q.1)),
    )

-- With that room nothing is cut.
pub text_fits : (rom : List ℕ) (m : Machine) (s room : List ℕ) → Octets s → length s < 18446744073709551616
    → room_for (length s) ≤ length room → length (text_of rom m s) ≤ length room
text_fits rom m s room o h l = omega (arith, text_length rom m s o h)

-- 41,008 bytes are room for every trace of at most 16,384.
pub room_16384 : (n : ℕ) → n ≤ 16384 → room_for n ≤ 41008
unfolding room_for
room_16384 n h = omega arith
