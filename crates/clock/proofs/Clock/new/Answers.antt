-- `clock::Clock::new` meets its contract: all zero, but the time.
use Rattle.clock.proofs.Clock.new.Goals as goal

pub returns : goal.returns
returns c =
    rw (c.new-running.ensures, c.new-frozen.ensures)
