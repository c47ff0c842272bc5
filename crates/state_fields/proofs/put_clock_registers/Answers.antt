-- `state_fields::put_clock_registers` meets its contract: the fields in their order.
use Rattle.state_fields.specs.Fields.{stored}
use Rattle.state_fields.proofs.Laws.{put_on}
use Rattle.state_fields.proofs.put_clock_registers.Goals as goal

pub returns : goal.returns
unfolding stored
returns c =
    put_on 1 _ _
    (put_on 1 _ _
    (put_on 2 _ _
    (put_on 1 _ _ (put_on 1 _ _ c.write.ensures c.write-2.ensures) c.write-3.ensures) c.write-4.ensures)
    c.put_flag.ensures)
    c.put_flag-2.ensures
