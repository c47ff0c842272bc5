-- `player::kind_number` meets its contract: the kind of the mapper that mounting starts with.
use mathlib.Core.Path.{ap, ◌∙◌}
use Rattle.states.specs.Layout.{kind_of}
use Rattle.player.proofs.kind_number.Goals as goal

pub returns : goal.returns
returns c =
    c.kind.ensures ∙ ap kind_of c.start.ensures
