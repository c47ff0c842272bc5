-- `window::way_of` meets its contract: by the mapper that is in it.
use mathlib.Core.Path.{sym, ap, ◌∙◌}
use Rattle.window.specs.Window.{way_of}
use Rattle.window.specs.declared.Way.TheVariants.{Bytes}
use Rattle.window.proofs.way_of.Goals as goal

pub returns-in-NoMapper : goal.returns-in-NoMapper
returns-in-NoMapper c =
    let a = c.args in
    ap Bytes c.ram_at.ensures ∙ ap (λ x. way_of x a.size a.addr) (sym c.in-NoMapper.is)

pub returns-in-Mbc1 : goal.returns-in-Mbc1
returns-in-Mbc1 c =
    let a = c.args in
    ap Bytes c.ram_at-in-Mbc1.ensures ∙ ap (λ x. way_of x a.size a.addr) (sym c.in-Mbc1.is)

pub returns-in-Mbc2 : goal.returns-in-Mbc2
returns-in-Mbc2 c =
    let a = c.args in
    ap (λ x. way_of x a.size a.addr) (sym c.in-Mbc2.is)

pub returns-in-Mbc3 : goal.returns-in-Mbc3
returns-in-Mbc3 c =
    let a = c.args in
    c.by_selection.ensures ∙ ap (λ x. way_of x a.size a.addr) (sym c.in-Mbc3.is)

pub returns-in-Mbc5 : goal.returns-in-Mbc5
returns-in-Mbc5 c =
    let a = c.args in
    ap Bytes c.ram_at-in-Mbc5.ensures ∙ ap (λ x. way_of x a.size a.addr) (sym c.in-Mbc5.is)
