-- `trace::record_at` meets its contract: nothing left, one byte, or two that are a mark or not.
use mathlib.Core.Path.{sym, ◌∙◌}
use Rattle.trace.proofs.Laws.{none_left, one_left, two_left}
use Rattle.trace.proofs.record_at.Goals as goal

pub returns-then-bytes-at : goal.returns-then-bytes-at
returns-then-bytes-at c =
    let a = c.args in
    none_left a.bytes.now a.at c.if-bytes-at.true

pub returns-then-bytes-at-lt2 : goal.returns-then-bytes-at-lt2
returns-then-bytes-at-lt2 c =
    let a = c.args in
    one_left a.bytes.now a.at c.if-bytes-at.false c.if-bytes-at-lt2.true

pub returns : goal.returns
returns c =
    let a = c.args in
    c.whole_at.ensures
    ∙ two_left a.bytes.now a.at c.if-bytes-at-lt2.false (sym c.in-Some.is ∙ c.kind_of.ensures)

pub returns-in_default : goal.returns-in_default
returns-in_default c =
    let a = c.args in
    two_left a.bytes.now a.at c.if-bytes-at-lt2.false (sym c.in_default.is ∙ c.kind_of.ensures)
