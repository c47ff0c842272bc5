-- `window::read` meets its contract: every way is within the area.
use mathlib.Core.Path.{ap, ◌∙◌}
use Rattle.window.proofs.Laws.{lent_within}
use Rattle.window.specs.Window.{read_by, read_of}
use Rattle.window.proofs.read.Goals as goal

pub read_by-requires : goal.read_by-requires
read_by-requires c =
    lent_within c.args.mapper c.args.size c.args.addr c.way_of.ensures c.requires

pub returns : goal.returns
unfolding read_of
returns c =
    c.read_by.ensures
    ∙ ap (λ w. read_by w c.args.size c.args.ram.now c.args.addr) c.way_of.ensures
