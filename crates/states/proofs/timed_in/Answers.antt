-- `states::timed_in` meets its contract: the fields, its register and its clock.
use mathlib.Core.Bool.{true}
use Rattle.states.proofs.Laws.{mbc3_to}
use Rattle.states.proofs.timed_in.Goals as goal

pub returns : goal.returns
returns c =
    mbc3_to c.args.s.now true c.mbc3_in.ensures c.read.ensures c.clock_in.ensures
