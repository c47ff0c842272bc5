-- `mapper::Mapper::is_area` meets its contract: by the mapper that is in it.
use mathlib.Core.Path.{sym, ap, ◌∙◌}
use lib.Dec.{eqb}
use Rattle.mapper.specs.Mappers.{area_of}
use Rattle.mapper.proofs.Laws.{no_half_bytes, half_bytes_more}
use Rattle.mapper.proofs.Mapper.is_area.Goals as goal

pub returns-then-len-lt512 : goal.returns-then-len-lt512
returns-then-len-lt512 c =
    let a = c.args in
    no_half_bytes a.len a.size c.if-len-lt512.true
    ∙ ap (λ x. eqb a.len (area_of x a.size)) (sym c.in-Mbc2.is)

pub returns-in-NoMapper : goal.returns-in-NoMapper
returns-in-NoMapper c =
    let a = c.args in
    ap (λ x. eqb a.len (area_of x a.size)) (sym c.in-NoMapper.is)

pub returns-in-Mbc1 : goal.returns-in-Mbc1
returns-in-Mbc1 c =
    let a = c.args in
    ap (λ x. eqb a.len (area_of x a.size)) (sym c.in-Mbc1.is)

pub returns-else-len-lt512 : goal.returns-else-len-lt512
returns-else-len-lt512 c =
    let a = c.args in
    half_bytes_more a.len a.size c.if-len-lt512.false
    ∙ ap (λ x. eqb a.len (area_of x a.size)) (sym c.in-Mbc2.is)

pub returns-in-Mbc3 : goal.returns-in-Mbc3
returns-in-Mbc3 c =
    let a = c.args in
    ap (λ x. eqb a.len (area_of x a.size)) (sym c.in-Mbc3.is)

pub returns-in-Mbc5 : goal.returns-in-Mbc5
returns-in-Mbc5 c =
    let a = c.args in
    ap (λ x. eqb a.len (area_of x a.size)) (sym c.in-Mbc5.is)
