-- `flat::half_byte` meets its contract: the part of the area from the size on.
use Rattle.facts.proofs.ListLaws.{part_from}
use Rattle.window.specs.Window as window
use Rattle.flat.proofs.half_byte.Goals as goal

pub returns : goal.returns
unfolding window.read_of
returns c =
    simp (c.read_half.ensures, part_from c.args.size c.args.ram.now)
