-- `states::put_board` meets its contract: the fields in their order, on zeroes.
use Rattle.state_fields.specs.Fields.{stored}
use Rattle.state_fields.proofs.Laws.{put_on}
use Rattle.states.proofs.put_board.Goals as goal

pub returns : goal.returns
unfolding stored
returns c =
    put_on 8 24 _
    (put_on 8 16 _
    (put_on 2 8 _
    (put_on 1 1 _ c.write.ensures c.put_flag.ensures)
    c.write-2.ensures)
    c.write-3.ensures)
    c.write-4.ensures
