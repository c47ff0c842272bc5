-- `image::is_colour` meets its contract: bit 7 by its mask.
use Rattle.std.proofs.Common.{◌∙◌}
use Rattle.facts.proofs.BitLaws.{bit_test}
use Rattle.image.specs.Image.{is_colour}
use Rattle.image.proofs.is_colour.Goals as goal

pub returns : goal.returns
unfolding is_colour
returns c =
    bit_test c.byte_at.result 7 ∙ rw c.byte_at.ensures
