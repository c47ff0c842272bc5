-- `flat_write::advance` meets its contract: fit or not, with a timer or without, and by the mapper.
use Rattle.flat_write.proofs.Laws.{timed_at, untimed_at, unfit_clocked, fit_still, fit_clocked}
use mathlib.Core.Bool.{not}
use mathlib.Core.Path.{ap}
use Rattle.flat_write.proofs.advance.Goals as goal

pub advance_mapper-requires : goal.advance_mapper-requires
advance_mapper-requires c =
    let a = c.args in
    timed_at a.s.now c.if-kind-ne5.false c.mapper_in-m.ensures

pub returns-then-not-fit : goal.returns-then-not-fit
returns-then-not-fit c =
    let a = c.args in
    let said = unfit_clocked a.s.now a.n c.read-kind.ensures c.fit.ensures (ap not c.if-not-fit.true) in
    record { value = said.0; s_after = said.1 }

pub returns-then-kind-ne5 : goal.returns-then-kind-ne5
returns-then-kind-ne5 c =
    let a = c.args in
    let said = fit_still a.s.now a.n c.read-kind.ensures c.fit.ensures (ap not c.if-not-fit.false)
    (untimed_at a.s.now c.read-kind.result c.if-kind-ne5.true) in
    record { value = said.0; s_after = said.1 }

pub returns : goal.returns
returns c =
    let a = c.args in
    let said = fit_clocked a.s.now a.n c.read-kind.ensures c.fit.ensures
    (ap not c.if-not-fit.false) c.mapper_in-m.ensures (c.advance_mapper.ensures.value, c.advance_mapper.ensures.s_after) in
    record { value = said.0; s_after = said.1 }
