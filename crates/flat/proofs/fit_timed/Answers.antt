-- `flat::fit_timed` meets its contract: one without a timer, and the clock.
use Rattle.flat.proofs.Laws.{timed_tested}
use Rattle.flat.proofs.fit_timed.Goals as goal

pub returns : goal.returns
returns c =
    timed_tested c.args.s.now c.untimed_in.ensures c.fit.ensures c.read.ensures c.fit_clock.ensures
    c.both-clock.ensures c.both.ensures
