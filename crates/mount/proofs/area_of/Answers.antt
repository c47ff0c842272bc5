-- `mount::area_of` meets its contract: of the mapper at its start.
use mathlib.Core.Path.{◌∙◌, ap}
use Rattle.mapper.specs.Mappers.{area_of}
use Rattle.mapper.specs.declared.Mapper.{Mapper}
use Rattle.mount.proofs.area_of.Goals as goal

pub returns : goal.returns
returns c =
    c.area.ensures ∙ ap (λ (m : Mapper). area_of m c.args.size) c.start-mapper.ensures
