-- `image::logo_at` meets its contract: the bytes before i agree.
use Rattle.std.proofs.Common.{refl, arith}
use Rattle.image.specs.Image.{logo}
use Rattle.image.proofs.ImageLaws.{logo_start, logo_differs, logo_agrees, logo_whole}
use Rattle.image.proofs.logo_at.Goals as goal

pub loop-i-init : goal.loop-i-init
loop-i-init c =
    logo_start _ _

pub returns-then-byte_at-l : goal.returns-then-byte_at-l
unfolding logo
returns-then-byte_at-l c =
    logo_differs _ _ c.loop-i.i (omega arith) c.loop-i.invariant c.byte_at.ensures refl c.if-byte_at-l.true

pub loop-i-preserved : goal.loop-i-preserved
unfolding logo
loop-i-preserved c =
    logo_agrees _ _ c.loop-i.i (omega arith) c.loop-i.invariant c.byte_at.ensures refl c.if-byte_at-l.false

pub returns : goal.returns
returns c =
    logo_whole _ _ c.loop-i.i (omega arith) c.loop-i.invariant
