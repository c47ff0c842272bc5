-- `types::find` meets its contract: the search of the whole table is the search of its rest.
use mathlib.Core.Path.{refl}
use native.Mathlib.Omega.{arith}
use Rattle.types.specs.Types.{types, type_of}
use Rattle.types.proofs.TypeLaws.{hit, miss, over}
use Rattle.types.proofs.find.Goals as goal

pub loop-row-init : goal.loop-row-init
unfolding type_of
loop-row-init c =
    refl

pub returns-then-row-b : goal.returns-then-row-b
unfolding types
returns-then-row-b c =
    hit c.args.b c.loop-row.row-index (omega arith) c.loop-row.invariant refl c.if-row-b.true

pub loop-row-preserved : goal.loop-row-preserved
unfolding types
loop-row-preserved c =
    miss c.args.b c.loop-row.row-index (omega arith) c.loop-row.invariant refl c.if-row-b.false

pub returns : goal.returns
returns c =
    over c.args.b c.loop-row.row-index (omega arith) c.loop-row.invariant
