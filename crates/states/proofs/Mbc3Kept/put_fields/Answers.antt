-- `Mbc3::put_fields` meets its contract where there is a timer: its registers, then the clock.
use Rattle.states.proofs.Laws.{timed_stored}
use Rattle.states.proofs.Mbc3Kept.put_fields.Goals as goal

pub returns-then-self : goal.returns-then-self
returns-then-self c =
    timed_stored c.args.self _ c.if-self.true c.put_registers.ensures c.put_clock.ensures
