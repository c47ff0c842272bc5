-- `image::checksum` meets its contract: what is left of 0 after the bytes before this place.
use Rattle.std.proofs.Common.{◌-◌, ◌<◌}
use Rattle.image.proofs.ImageLaws.{Left}
use Rattle.image.proofs.checksum.Given as goal

abbrev pub invariant-loop-at : goal.invariant-loop-at
invariant-loop-at l = (l.c < 256) × Left l.image l.c (l.at - 0x134)
