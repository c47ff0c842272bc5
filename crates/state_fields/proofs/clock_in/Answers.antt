-- `state_fields::clock_in` meets its contract: field by field.
use Rattle.state_fields.proofs.Laws.{clock_of_lem}
use Rattle.state_fields.proofs.clock_in.Goals as goal

pub returns : goal.returns
returns c =
    clock_of_lem c.clock_registers_in-running.ensures c.read.ensures c.read-2.ensures
    c.flag_at.ensures c.clock_registers_in-frozen.ensures
