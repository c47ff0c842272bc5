-- `bus::advance` meets its contract: what was mounted is tested, and the mapper tests itself.
use mathlib.Core.Path.{sym, ◌∙◌}
use Rattle.bus.proofs.Laws.{board_answer, mapper_answer}
use Rattle.bus.proofs.advance.Goals as goal

pub returns-then-not-fit_board : goal.returns-then-not-fit_board
returns-then-not-fit_board c =
    let a = c.args in
    board_answer a.cart a.n (sym c.fit_board.ensures ∙ c.if-not-fit_board.true)

pub returns : goal.returns
returns c =
    let a = c.args in
    c.advance_mapper.ensures
    ∙ mapper_answer a.cart a.n (sym c.fit_board.ensures ∙ c.if-not-fit_board.false)
