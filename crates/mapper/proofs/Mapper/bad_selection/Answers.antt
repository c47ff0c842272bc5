-- `mapper::Mapper::bad_selection` meets its contract: by the mapper that is in it.
use mathlib.Core.Path.{sym, ap, ◌∙◌}
use Rattle.mapper.specs.Mappers.{bad_selection}
use Rattle.mapper.proofs.Mapper.bad_selection.Goals as goal

pub returns-in-Mbc3 : goal.returns-in-Mbc3
returns-in-Mbc3 c =
    let a = c.args in
    c.bad_selection.ensures ∙ ap (λ x. bad_selection x a.addr a.byte) (sym c.in-Mbc3.is)
