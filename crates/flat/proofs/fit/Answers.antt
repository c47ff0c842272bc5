-- `flat::fit` meets its contract: what was mounted, then what the kind asks.
use mathlib.Core.Path.{refl, sym, ◌∙◌}
use Rattle.flat.proofs.Laws.{fit_tested}
use Rattle.flat.proofs.fit.Goals as goal

pub returns-then-not-is_bank_count : goal.returns-then-not-is_bank_count
returns-then-not-is_bank_count c =
    let a = c.args in
    fit_tested a.s.now a.kind c.read-banks.ensures refl refl (sym c.is_bank_count.ensures ∙ c.if-not-is_bank_count.true) refl refl

pub returns-then-not-fills : goal.returns-then-not-fills
returns-then-not-fills c =
    let a = c.args in
    fit_tested a.s.now a.kind c.read-banks.ensures c.read.ensures refl
    (sym c.is_bank_count.ensures ∙ c.if-not-is_bank_count.false) (sym c.fills.ensures ∙ c.if-not-fills.true) refl

pub returns-then-not-is_ram_size : goal.returns-then-not-is_ram_size
returns-then-not-is_ram_size c =
    let a = c.args in
    fit_tested a.s.now a.kind c.read-banks.ensures c.read.ensures c.read-2.ensures
    (sym c.is_bank_count.ensures ∙ c.if-not-is_bank_count.false) (sym c.fills.ensures ∙ c.if-not-fills.false)
    (sym c.is_ram_size.ensures ∙ c.if-not-is_ram_size.true)

pub returns : goal.returns
returns c =
    let a = c.args in
    c.fit_kind.ensures
    ∙ fit_tested a.s.now a.kind c.read-banks.ensures c.read.ensures c.read-2.ensures
    (sym c.is_bank_count.ensures ∙ c.if-not-is_bank_count.false) (sym c.fills.ensures ∙ c.if-not-fills.false)
    (sym c.is_ram_size.ensures ∙ c.if-not-is_ram_size.false)
