-- `states::clear` meets its contract: the parts as the bytes have them.
use Rattle.states.proofs.Laws.{cleared_in}
use Rattle.states.proofs.clear.Goals as goal

pub returns : goal.returns
returns c =
    let a = c.args in
    cleared_in a.s.now a.kind c.flag_at-battery.ensures c.read-banks.ensures c.read-image.ensures
    c.read-size.ensures c.put_board.ensures
