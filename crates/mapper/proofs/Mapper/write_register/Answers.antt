-- `mapper::Mapper::write_register` meets its contract: by the mapper that is in it.
use mathlib.Core.Path.{sym, ap, ◌∙◌}
use Rattle.mapper.specs.Mappers.{written}
use Rattle.mapper.specs.declared.Mapper.TheVariants.{NoMapper, Mbc1, Mbc2, Mbc3, Mbc5}
use Rattle.mapper.proofs.Mapper.write_register.Goals as goal

pub returns-in-NoMapper : goal.returns-in-NoMapper
returns-in-NoMapper c =
    let a = c.args in
    ap NoMapper c.write_register.ensures
    ∙ ap (λ x. written x a.addr a.byte) (sym c.in-NoMapper.is)

pub returns-in-Mbc1 : goal.returns-in-Mbc1
returns-in-Mbc1 c =
    let a = c.args in
    ap Mbc1 c.write_register-in-Mbc1.ensures
    ∙ ap (λ x. written x a.addr a.byte) (sym c.in-Mbc1.is)

pub returns-in-Mbc2 : goal.returns-in-Mbc2
returns-in-Mbc2 c =
    let a = c.args in
    ap Mbc2 c.write_register-in-Mbc2.ensures
    ∙ ap (λ x. written x a.addr a.byte) (sym c.in-Mbc2.is)

pub returns-in-Mbc3 : goal.returns-in-Mbc3
returns-in-Mbc3 c =
    let a = c.args in
    ap Mbc3 c.write_register-in-Mbc3.ensures
    ∙ ap (λ x. written x a.addr a.byte) (sym c.in-Mbc3.is)

pub returns-in-Mbc5 : goal.returns-in-Mbc5
returns-in-Mbc5 c =
    let a = c.args in
    ap Mbc5 c.write_register-in-Mbc5.ensures
    ∙ ap (λ x. written x a.addr a.byte) (sym c.in-Mbc5.is)
