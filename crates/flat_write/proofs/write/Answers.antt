-- `flat_write::write` meets its contract: fit or not.
use Rattle.flat.proofs.Laws.{fit_cart_lem}
use Rattle.flat_write.proofs.Laws.{unfit_written, fit_written}
use mathlib.Core.Bool.{not}
use mathlib.Core.Path.{ap}
use Rattle.flat_write.proofs.write.Goals as goal

pub returns-then-not-fit : goal.returns-then-not-fit
returns-then-not-fit c =
    let a = c.args in
    let said = unfit_written a.s.now a.ram.now a.addr a.byte c.read-kind.ensures c.fit.ensures (ap not c.if-not-fit.true) in
    record { value = said.0; s_after = said.1.0; ram_after = said.1.1 }

pub write_fit-requires : goal.write_fit-requires
write_fit-requires c =
    fit_cart_lem c.args.s.now c.read-kind.ensures c.fit.ensures (ap not c.if-not-fit.false)

pub returns : goal.returns
returns c =
    let a = c.args in
    let said = fit_written a.s.now a.ram.now a.addr a.byte c.read-kind.ensures c.fit.ensures
    (ap not c.if-not-fit.false) (c.write_fit.ensures.value, (c.write_fit.ensures.s_after, c.write_fit.ensures.ram_after)) in
    record { value = said.0; s_after = said.1.0; ram_after = said.1.1 }
