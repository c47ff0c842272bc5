-- `header::check_mapper` meets its contract: the tests 9, 10 and 11, and the facts.
use Rattle.header.proofs.CheckLaws.{no_9, no_10, no_11, accepts}
use mathlib.Core.Bool.{not}
use mathlib.Core.Path.{ap}
use Rattle.header.proofs.check_mapper.Goals as goal

pub returns-then-sum-named : goal.returns-then-sum-named
returns-then-sum-named c =
    no_9 _ c.args.row c.checksum-sum.ensures c.byte_at-named.ensures c.if-sum-named.true

pub returns-then-not-is_supported : goal.returns-then-not-is_supported
returns-then-not-is_supported c =
    no_10 _ c.args.row c.checksum-sum.ensures c.byte_at-named.ensures c.if-sum-named.false c.is_supported.ensures (ap not c.if-not-is_supported.true)

pub returns-then-is_beyond : goal.returns-then-is_beyond
returns-then-is_beyond c =
    no_11 _ c.args.row c.checksum-sum.ensures c.byte_at-named.ensures c.if-sum-named.false c.is_supported.ensures (ap not c.if-not-is_supported.false) c.requires.0 c.requires.2 c.is_beyond.ensures c.if-is_beyond.true

pub returns : goal.returns
returns c =
    accepts _ c.args.row c.checksum-sum.ensures c.byte_at-named.ensures c.if-sum-named.false c.is_supported.ensures (ap not c.if-not-is_supported.false) c.requires.0 c.requires.2 c.is_beyond.ensures c.if-is_beyond.false c.facts_of.ensures
