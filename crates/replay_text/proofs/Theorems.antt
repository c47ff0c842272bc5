-- What holds of a replay: how its text ends, and what it leaves.
use mathlib.Core.List.{List, ◌++◌, append_assoc}
use mathlib.Core.Path.{◌≡◌, refl, sym}
use Prim.Native.Nat.{ℕ}
use lib.ListN.{length}
use Rattle.trace.specs.Trace.{records_of}
use Rattle.lines.specs.Lines.{end_line}
use Rattle.bus.specs.Run.{Machine, run_of}
use Rattle.replay_text.specs.Replay.{accesses_of, lines_by, stop_line, text_of, left_of}

-- The last line has the number of whole records, refused ones too.
pub ends_with_count : (rom : List ℕ) (m : Machine) (s : List ℕ)
    → text_of rom m s ≡ (lines_by rom m (records_of s) ++ stop_line (records_of s).stop) ++ end_line (length (records_of s).records)
unfolding text_of
ends_with_count rom m s =
    sym (append_assoc (lines_by rom m (records_of s)) (stop_line (records_of s).stop) (end_line (length (records_of s).records)))

-- What is left is what the run of all the records leaves.
pub left_is_run : (rom : List ℕ) (m : Machine) (s : List ℕ) → left_of rom m s ≡ (run_of rom m (accesses_of (records_of s))).left
unfolding left_of
left_is_run rom m s = refl
