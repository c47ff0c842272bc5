-- `utf8::is_utf8` meets its contract: what is still to be read decides.
use Rattle.std.proofs.Common.{arith}
use Rattle.utf8.specs.Utf8.{pending}
use Rattle.utf8.proofs.ReaderLaws.{starts, goes_on, ends}
use Rattle.utf8.proofs.is_utf8.Goals as goal

pub loop-b-init : goal.loop-b-init
loop-b-init c =
    starts _

pub loop-b-preserved : goal.loop-b-preserved
loop-b-preserved c =
    let l = c.loop-b in
    goes_on _ l.b-index (pending l.state) (omega arith) l.invariant c.next-state.ensures

pub returns : goal.returns
returns c =
    let l = c.loop-b in
    ends _ l.b-index (pending l.state) (omega arith) l.invariant c.whole.ensures
