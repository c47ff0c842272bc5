-- `flat_write::bad_selection` meets its contract: an MBC3, or none.
use mathlib.Core.Path.{◌∙◌}
use native.Mathlib.Omega.{arith}
use Rattle.flat_write.proofs.Laws.{selection_at, no_selection}
use Rattle.flat_write.proofs.bad_selection.Goals as goal

pub returns-in-4 : goal.returns-in-4
returns-in-4 c =
    let a = c.args in
    λ s. c.bad_selection.ensures ∙ selection_at s a.kind a.addr a.byte c.in-4.if-kind-lt4-own.false c.in-4.if-kind-lt6-own.true

pub returns-in_default : goal.returns-in_default
returns-in_default c =
    let a = c.args in
    λ s. no_selection s a.kind a.addr a.byte (λ h. absurd (omega (arith, h, c.in_default.if-kind-lt4-own.true)))

pub returns-in_default-2 : goal.returns-in_default-2
returns-in_default-2 c =
    let a = c.args in
    λ s. no_selection s a.kind a.addr a.byte (λ h. c.in_default.if-kind-lt6-own.false)
