-- `flat_windows::of` meets its contract: what fit bytes give is what the windows ask.
use Rattle.flat_windows.proofs.Laws.{unfit_asked, bytes_stand, fit_asked}
use mathlib.Core.Bool.{not}
use mathlib.Core.Path.{ap}
use Rattle.flat_windows.proofs.of.Goals as goal

pub returns-then-not-fit : goal.returns-then-not-fit
returns-then-not-fit c =
    let a = c.args in
    unfit_asked a.s.now c.read-kind.ensures c.fit.ensures (ap not c.if-not-fit.true)

pub standing-requires : goal.standing-requires
standing-requires c =
    let a = c.args in
    bytes_stand a.s.now c.read-kind.ensures c.fit.ensures (ap not c.if-not-fit.false) c.read-banks.ensures
    c.read-size.ensures

pub returns : goal.returns
returns c =
    let a = c.args in
    fit_asked a.s.now c.read-kind.ensures c.fit.ensures (ap not c.if-not-fit.false) c.read-banks.ensures
    c.read-size.ensures c.standing.ensures
