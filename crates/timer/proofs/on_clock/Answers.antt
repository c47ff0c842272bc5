-- `timer::on_clock` meets its contract: its two tests.
use Rattle.timer.proofs.WindowLaws.{on_tested}
use Rattle.timer.proofs.on_clock.Goals as goal

pub returns : goal.returns
returns c =
    on_tested c.args.m c.both-2.ensures c.both.ensures
