-- `state_fields::put_clock` meets its contract: the fields in their order.
use Rattle.state_fields.specs.ClockFields.{clock_registers}
use Rattle.state_fields.specs.Fields.{stored}
use Rattle.state_fields.proofs.Laws.{put_on, store_on}
use Rattle.state_fields.proofs.put_clock.Goals as goal

pub returns : goal.returns
unfolding stored
returns c =
    let k = c.args.k in
    store_on (clock_registers 52 k.frozen)
    (store_on (clock_registers 45 k.running)
    (put_on 1 44 _ (put_on 4 40 _ c.write.ensures c.write-2.ensures) c.put_flag.ensures)
    c.put_clock_registers.ensures)
    c.put_clock_registers-2.ensures
