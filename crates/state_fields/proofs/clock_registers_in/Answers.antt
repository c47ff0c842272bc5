-- `state_fields::clock_registers_in` meets its contract: field by field.
use Rattle.state_fields.proofs.Laws.{registers_of_lem}
use Rattle.state_fields.proofs.clock_registers_in.Goals as goal

pub returns : goal.returns
returns c =
    registers_of_lem c.read.ensures c.read-2.ensures c.read-3.ensures
    c.read-4.ensures c.flag_at.ensures c.flag_at-2.ensures
