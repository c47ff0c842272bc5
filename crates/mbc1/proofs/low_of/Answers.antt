-- `mbc1::low_of` meets its contract: five bits and the zero test, then four on a multicart.
use mathlib.Core.Path.{◌∙◌}
use lib.Bits.{and_mask}
use Rattle.mbc1.specs.Registers.{low_of}
use Rattle.mbc1.proofs.low_of.Goals as goal

pub returns-then-multicart : goal.returns-then-multicart
unfolding low_of
returns-then-multicart c =
    simp c.if-multicart.true
    (and_mask c.or_one-five.result 4 ∙ simp (c.or_one-five.ensures, and_mask c.args.byte 5))

pub returns-else-multicart : goal.returns-else-multicart
unfolding low_of
returns-else-multicart c =
    simp (c.if-multicart.false, c.or_one-five.ensures, and_mask c.args.byte 5)
