-- `image::checksum` meets its contract: what is left of 0 after the bytes before this place.
use Rattle.std.proofs.Common.{arith, rules}
use Rattle.image.proofs.ImageLaws.{left_none, left_more, left_all}
use Rattle.image.proofs.checksum.Goals as goal

pub loop-at-init : goal.loop-at-init
loop-at-init c =
    (omega arith, left_none _)

pub loop-at-preserved : goal.loop-at-preserved
loop-at-preserved c =
    (omega arith, left_more _ _ _ (omega arith) (search rules) c.loop-at.invariant.1 c.byte_at.ensures)

pub returns : goal.returns
returns c =
    left_all _ _ _ (omega arith) (omega arith) c.loop-at.invariant.1
