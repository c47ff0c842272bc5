-- The room has no more bytes than it was lent with, and each read but the last leaves fewer of them to fill.
use Rattle.std.proofs.Common.{length, ◌-◌, ◌≤◌}
use Rattle.replay_files.proofs.read_full.Given as goal

abbrev pub invariant-loop-count : goal.invariant-loop-count
invariant-loop-count g l = l.count ≤ length l.fn.room

abbrev pub decreases-loop-count : goal.decreases-loop-count
decreases-loop-count g l = length l.initial.room - l.count
