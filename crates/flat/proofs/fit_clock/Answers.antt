-- `flat::fit_clock` meets its contract: its registers, running and frozen, and its sub-second.
use Rattle.flat.proofs.Laws.{clock_tested}
use Rattle.flat.proofs.fit_clock.Goals as goal

pub returns : goal.returns
returns c =
    clock_tested c.args.s.now c.read.ensures c.fit_clock_registers-2.ensures c.fit_clock_registers.ensures
    c.both-frozen.ensures c.both.ensures
