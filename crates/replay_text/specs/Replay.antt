-- The replay of a trace: its text, and what is left (Trace 6 to 8).
use Rattle.std.specs.Prelude.{List, [], ◌∷◌, ◌++◌, map, ℕ, ◌+◌, ◌*◌, ◌/◌, length}
use Rattle.trace.specs.Trace.{place_of, Stop, ended, refused, Records, records_of}
use Rattle.bus.specs.Run.{Access, Answer, Machine, run_of}
use Rattle.lines.specs.Lines.{numbered, end_line}
use Rattle.replay_step.specs.Step.{access_of, line_of}

abbrev pub lines_of : List Access → List Answer → List ℕ
lines_of [] xs = []
lines_of (a ∷ as') [] = []
lines_of (a ∷ as') (x ∷ xs) = line_of a x ++ lines_of as' xs

-- Trace 7: "At 22 and 23 the line is `T` and the record's place": `T` is 84
abbrev pub stop_line : Stop → List ℕ
stop_line ended = []
stop_line (refused w) = numbered 84 (place_of w)

-- the accesses of the records one after the other, and their lines
abbrev pub accesses_of : Records → List Access
accesses_of rs = map access_of rs.records

abbrev pub lines_by : List ℕ → Machine → Records → List ℕ
lines_by rom m rs = lines_of (accesses_of rs) (run_of rom m (accesses_of rs)).answers

abbrev pub left_by : List ℕ → Machine → Records → Machine
left_by rom m rs = (run_of rom m (accesses_of rs)).left

-- Trace 6: "A line for each record"; Trace 7: "nothing more is read; the last line follows"; Trace 8: "The last line is `end` and how many
-- whole records there were, refused ones too."
unfoldable pub text_of : List ℕ → Machine → List ℕ → List ℕ
text_of rom m trace =
    let rs = records_of trace in
    lines_by rom m rs ++ (stop_line rs.stop ++ end_line (length rs.records))

unfoldable pub left_of : List ℕ → Machine → List ℕ → Machine
left_of rom m trace = left_by rom m (records_of trace)

-- room for the longest text of a trace of n bytes: a line of at most 10 bytes for a record of 4 or 5, of at most 13 for one of
-- 6, so at most 5 bytes for 2; and at most 23 and 25 for the last two (`text_fits` in proofs/Bounds)
unfoldable pub room_for : ℕ → ℕ
room_for n = 5 * n / 2 + 48
