-- `image::is_multicart` meets its contract: the length, and the four quarters.
use Rattle.image.proofs.ImageLaws.{one_quarter, four_quarters}
use Rattle.image.proofs.is_multicart.Goals as goal

pub returns-then-padded_len-ne1048576 : goal.returns-then-padded_len-ne1048576
returns-then-padded_len-ne1048576 c =
    one_quarter _ c.padded_len.ensures c.if-padded_len-ne1048576.true

pub returns : goal.returns
returns c =
    four_quarters _ c.padded_len.ensures c.if-padded_len-ne1048576.false
    c.logo_at.ensures
    c.logo_at-2.ensures
    c.logo_at-3.ensures
    c.logo_at-4.ensures
    c.both-low.ensures
    c.both-high.ensures
    c.both.ensures
