-- `save_file::admit` meets its contract: 13, 14, 18, or none of them.
use Rattle.save_file.proofs.Laws.{admit_unfit, admit_length, admit_battery}
use Rattle.save_file.proofs.admit.Goals as goal

pub returns-then-not-fit : goal.returns-then-not-fit
returns-then-not-fit c =
    let a = c.args in
    admit_unfit a.cart a.area c.fit.ensures c.if-not-fit.true

pub returns-then-not-is_area : goal.returns-then-not-is_area
returns-then-not-is_area c =
    let a = c.args in
    admit_length a.cart a.area c.fit.ensures c.if-not-fit.false c.is_area.ensures
    c.if-not-is_area.true

pub returns-then-cart : goal.returns-then-cart
returns-then-cart c =
    let a = c.args in
    admit_battery a.cart a.area c.fit.ensures c.if-not-fit.false c.is_area.ensures
    c.if-not-is_area.false c.if-cart.true

pub returns : goal.returns
returns c =
    let a = c.args in
    admit_battery a.cart a.area c.fit.ensures c.if-not-fit.false c.is_area.ensures
    c.if-not-is_area.false c.if-cart.false
