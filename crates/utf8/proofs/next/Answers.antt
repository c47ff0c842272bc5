-- `utf8::next` meets its contract: by the state; inside a character by the byte.
use Rattle.utf8.specs.Utf8.{after}
use Rattle.utf8.proofs.ReaderLaws.{below, above, last, inner}
use Rattle.utf8.proofs.next.Goals as goal

pub returns-then-b-lo : goal.returns-then-b-lo
returns-then-b-lo c =
    rw c.in-Tail.is (below c.in-Tail.lo c.in-Tail.hi c.in-Tail.more _ c.if-b-lo.true)

pub returns-then-hi-b : goal.returns-then-hi-b
returns-then-hi-b c =
    rw c.in-Tail.is (above c.in-Tail.lo c.in-Tail.hi c.in-Tail.more _ c.if-b-lo.false c.if-hi-b.true)

pub returns-then-more-eq0 : goal.returns-then-more-eq0
returns-then-more-eq0 c =
    rw c.in-Tail.is (last c.in-Tail.lo c.in-Tail.hi c.in-Tail.more _ c.if-b-lo.false c.if-hi-b.false c.if-more-eq0.true)

pub returns-in-Whole : goal.returns-in-Whole
unfolding after
returns-in-Whole c =
    rw c.in-Whole.is c.first.ensures

pub returns-else-more-eq0 : goal.returns-else-more-eq0
returns-else-more-eq0 c =
    rw c.in-Tail.is (inner c.in-Tail.lo c.in-Tail.hi c.in-Tail.more _ c.if-b-lo.false c.if-hi-b.false c.if-more-eq0.false)

pub returns-in-Bad : goal.returns-in-Bad
unfolding after
returns-in-Bad c =
    rw c.in-Bad.is
