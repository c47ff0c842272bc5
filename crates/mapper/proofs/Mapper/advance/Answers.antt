-- `mapper::Mapper::advance` meets its contract: only a timer moves.
use Rattle.std.specs.Prelude.{Ok}
use mathlib.Core.Path.{sym, ap, ◌∙◌}
use mathlib.Core.Path.{refl}
use Rattle.mapper.specs.Mappers.{advance_of, from_timer}
use Rattle.mapper.proofs.Laws.{still_by, timed_answer}
use Rattle.mapper.proofs.Mapper.advance.Goals as goal

pub returns-in-NoMapper : goal.returns-in-NoMapper
returns-in-NoMapper c =
    let a = c.args in
    still_by a.self a.n c.in-NoMapper.is refl refl refl (ap Ok c.in-NoMapper.is)

pub returns-in-Mbc1 : goal.returns-in-Mbc1
returns-in-Mbc1 c =
    let a = c.args in
    still_by a.self a.n c.in-Mbc1.is refl refl c.fit.ensures
    c.still.ensures

pub returns-in-Mbc2 : goal.returns-in-Mbc2
returns-in-Mbc2 c =
    let a = c.args in
    still_by a.self a.n c.in-Mbc2.is refl refl c.fit-in-Mbc2.ensures
    c.still-in-Mbc2.ensures

pub returns-in-Mbc3 : goal.returns-in-Mbc3
returns-in-Mbc3 c =
    let a = c.args in
    c.timed.ensures
    ∙ ap from_timer c.advance.ensures
    ∙ timed_answer _ a.n
    ∙ ap (λ x. advance_of x a.n) (sym c.in-Mbc3.is)

pub returns-in-Mbc5 : goal.returns-in-Mbc5
returns-in-Mbc5 c =
    let a = c.args in
    still_by a.self a.n c.in-Mbc5.is refl refl c.fit-in-Mbc5.ensures
    c.still-in-Mbc5.ensures
