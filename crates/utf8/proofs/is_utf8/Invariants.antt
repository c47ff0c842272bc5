-- `utf8::is_utf8` meets its contract: what is still to be read decides.
use Rattle.std.proofs.Common.{◌≡◌, drop}
use Rattle.utf8.specs.Utf8.{reads, is_utf8, pending}
use Rattle.utf8.proofs.is_utf8.Given as goal

abbrev pub invariant-loop-b : goal.invariant-loop-b
invariant-loop-b l = is_utf8 l.s ≡ reads (pending l.state) (drop l.b-index l.s)
