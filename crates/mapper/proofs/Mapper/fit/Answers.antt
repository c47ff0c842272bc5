-- `mapper::Mapper::fit` meets its contract: by the mapper that is in it.
use mathlib.Core.Path.{sym, ap, ◌∙◌}
use Rattle.mapper.specs.Mappers.{fit_registers}
use Rattle.mapper.proofs.Mapper.fit.Goals as goal

pub returns-in-Mbc1 : goal.returns-in-Mbc1
returns-in-Mbc1 c =
    c.fit-in-Mbc1.ensures ∙ ap fit_registers (sym c.in-Mbc1.is)

pub returns-in-Mbc2 : goal.returns-in-Mbc2
returns-in-Mbc2 c =
    c.fit-in-Mbc2.ensures ∙ ap fit_registers (sym c.in-Mbc2.is)

pub returns-in-Mbc3 : goal.returns-in-Mbc3
returns-in-Mbc3 c =
    c.fit-in-Mbc3.ensures ∙ ap fit_registers (sym c.in-Mbc3.is)

pub returns-in-Mbc5 : goal.returns-in-Mbc5
returns-in-Mbc5 c =
    c.fit-in-Mbc5.ensures ∙ ap fit_registers (sym c.in-Mbc5.is)
