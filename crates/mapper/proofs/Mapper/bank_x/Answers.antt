-- `mapper::Mapper::bank_x` meets its contract: by the mapper that is in it.
use mathlib.Core.Path.{sym, ap, ◌∙◌}
use Rattle.mapper.specs.Mappers.{bank_x, fit_registers}
use Rattle.mapper.proofs.Mapper.bank_x.Goals as goal

pub bank_x-requires-in-Mbc1 : goal.bank_x-requires-in-Mbc1
bank_x-requires-in-Mbc1 c =
    ap fit_registers (sym c.in-Mbc1.is) ∙ c.requires

pub returns-in-Mbc1 : goal.returns-in-Mbc1
returns-in-Mbc1 c =
    c.bank_x-in-Mbc1.ensures ∙ ap bank_x (sym c.in-Mbc1.is)

pub returns-in-Mbc2 : goal.returns-in-Mbc2
returns-in-Mbc2 c =
    c.bank_x-in-Mbc2.ensures ∙ ap bank_x (sym c.in-Mbc2.is)

pub returns-in-Mbc3 : goal.returns-in-Mbc3
returns-in-Mbc3 c =
    c.bank_x-in-Mbc3.ensures ∙ ap bank_x (sym c.in-Mbc3.is)

pub returns-in-Mbc5 : goal.returns-in-Mbc5
returns-in-Mbc5 c =
    c.bank_x-in-Mbc5.ensures ∙ ap bank_x (sym c.in-Mbc5.is)
