-- `flat::lent` meets its contract: the image's length and the area's.
use Rattle.flat.proofs.lent.Goals as goal

pub returns : goal.returns
returns c =
    simp (c.both.ensures, c.is_area.ensures, c.read-length.ensures)
