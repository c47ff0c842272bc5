-- Each record found lies behind the one before, so the bytes left become fewer.
use Rattle.std.proofs.Common.{◌-◌, length}
use Rattle.trace_vectors.proofs.from.Given as goal

abbrev pub decreases-loop-r : goal.decreases-loop-r
decreases-loop-r g l = length l.bytes - l.at
