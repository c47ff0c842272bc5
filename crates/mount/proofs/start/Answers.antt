-- `mount::start` meets its contract: by the kind.
use mathlib.Core.Path.{sym, ap, ◌∙◌}
use Rattle.mount.specs.Mount.{start_of}
use Rattle.mapper.specs.declared.Mapper.TheVariants.{NoMapper, Mbc1, Mbc2, Mbc3, Mbc5}
use Rattle.mount.proofs.start.Goals as goal

pub returns-in-NoMapper : goal.returns-in-NoMapper
returns-in-NoMapper c =
    let a = c.args in
    ap NoMapper c.new.ensures ∙ ap (λ x. start_of x a.multicart a.wall) (sym c.in-NoMapper.is)

pub returns-in-Mbc1 : goal.returns-in-Mbc1
returns-in-Mbc1 c =
    let a = c.args in
    ap Mbc1 c.new-in-Mbc1.ensures ∙ ap (λ x. start_of x a.multicart a.wall) (sym c.in-Mbc1.is)

pub returns-in-Mbc2 : goal.returns-in-Mbc2
returns-in-Mbc2 c =
    let a = c.args in
    ap Mbc2 c.new-in-Mbc2.ensures ∙ ap (λ x. start_of x a.multicart a.wall) (sym c.in-Mbc2.is)

pub returns-in-Mbc3 : goal.returns-in-Mbc3
returns-in-Mbc3 c =
    let a = c.args in
    ap Mbc3 c.new-in-Mbc3.ensures ∙ ap (λ x. start_of x a.multicart a.wall) (sym c.in-Mbc3.is)

pub returns-in-Mbc5 : goal.returns-in-Mbc5
returns-in-Mbc5 c =
    let a = c.args in
    ap Mbc5 c.new-in-Mbc5.ensures ∙ ap (λ x. start_of x a.multicart a.wall) (sym c.in-Mbc5.is)

pub returns-in-Mmm01 : goal.returns-in-Mmm01
returns-in-Mmm01 c =
    let a = c.args in
    ap NoMapper c.new-in-Mmm01.ensures ∙ ap (λ x. start_of x a.multicart a.wall) (sym c.in-Mmm01.is)

pub returns-in-Mbc6 : goal.returns-in-Mbc6
returns-in-Mbc6 c =
    let a = c.args in
    ap NoMapper c.new-in-Mbc6.ensures ∙ ap (λ x. start_of x a.multicart a.wall) (sym c.in-Mbc6.is)

pub returns-in-Mbc7 : goal.returns-in-Mbc7
returns-in-Mbc7 c =
    let a = c.args in
    ap NoMapper c.new-in-Mbc7.ensures ∙ ap (λ x. start_of x a.multicart a.wall) (sym c.in-Mbc7.is)
