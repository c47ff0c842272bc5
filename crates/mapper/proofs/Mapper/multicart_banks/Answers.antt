-- `mapper::Mapper::multicart_banks` meets its contract: by the mapper that is in it.
use mathlib.Core.Path.{sym, ap, ◌∙◌}
use Rattle.mapper.specs.Mappers.{multicart_banks}
use Rattle.mapper.proofs.Mapper.multicart_banks.Goals as goal

pub returns-in-Mbc1 : goal.returns-in-Mbc1
returns-in-Mbc1 c =
    let a = c.args in
    c.either.ensures ∙ ap (λ x. multicart_banks x a.banks) (sym c.in-Mbc1.is)
