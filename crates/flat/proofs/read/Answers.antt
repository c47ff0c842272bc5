-- `flat::read` meets its contract: fit or not, and by the verdict.
use Rattle.facts.proofs.Handed.{handed_on}
use Rattle.std.specs.Prelude.{Ok}
use mathlib.Core.Path.{ap, ◌∙◌}
use Rattle.flat.proofs.Laws.{unfit_read, fit_cart_lem, area_lent, fit_read}
use mathlib.Core.Bool.{not}
use Rattle.flat.proofs.read.Goals as goal

pub returns-then-not-fit : goal.returns-then-not-fit
returns-then-not-fit c =
    let a = c.args in
    unfit_read a.s.now a.image.now a.ram.now a.addr c.read-kind.ensures c.fit.ensures (ap not c.if-not-fit.true)

pub rom_byte-requires : goal.rom_byte-requires
rom_byte-requires c =
    let a = c.args in
    fit_cart_lem a.s.now c.read-kind.ensures c.fit.ensures (ap not c.if-not-fit.false)

pub ram_byte-requires : goal.ram_byte-requires
ram_byte-requires c =
    let a = c.args in
    area_lent a.s.now a.image.now a.ram.now a.addr c.read-kind.ensures c.fit.ensures (ap not c.if-not-fit.false)
    c.lent-lent.ensures c.decide.ensures (c.in_ok-target.was ∙ ap Ok c.in-Ram.is)

pub returns-in-Rom : goal.returns-in-Rom
returns-in-Rom c =
    let a = c.args in
    ap Ok c.rom_byte.ensures
    ∙ fit_read a.s.now a.image.now a.ram.now a.addr c.read-kind.ensures c.fit.ensures (ap not c.if-not-fit.false)
    c.lent-lent.ensures c.decide.ensures (c.in_ok-target.was ∙ ap Ok c.in-Rom.is)

pub returns-in-Ram : goal.returns-in-Ram
returns-in-Ram c =
    let a = c.args in
    ap Ok c.ram_byte.ensures
    ∙ fit_read a.s.now a.image.now a.ram.now a.addr c.read-kind.ensures c.fit.ensures (ap not c.if-not-fit.false)
    c.lent-lent.ensures c.decide.ensures (c.in_ok-target.was ∙ ap Ok c.in-Ram.is)

pub returns-in_err-target : goal.returns-in_err-target
returns-in_err-target c =
    let a = c.args in
    handed_on _ c.from_residual.ensures
    ∙ fit_read a.s.now a.image.now a.ram.now a.addr c.read-kind.ensures c.fit.ensures (ap not c.if-not-fit.false)
    c.lent-lent.ensures c.decide.ensures c.in_err-target.was
