-- `states::put_registers` meets its contract: the fields in their order.
use Rattle.state_fields.specs.Fields.{stored}
use Rattle.state_fields.proofs.Laws.{put_on}
use Rattle.states.proofs.put_registers.Goals as goal

pub returns : goal.returns
unfolding stored
returns c =
    put_on 1 7 _
    (put_on 1 6 _ (put_on 2 4 _ (put_on 1 3 _ c.put_flag.ensures c.put_flag-2.ensures) c.write.ensures) c.write-2.ensures)
    c.write-3.ensures
