-- `states::untimed_in` meets its contract: the fields, and a clock that is not looked at.
use mathlib.Core.Bool.{false}
use mathlib.Core.Path.{refl}
use Rattle.states.proofs.Laws.{mbc3_to}
use Rattle.states.proofs.untimed_in.Goals as goal

pub returns : goal.returns
returns c =
    mbc3_to c.args.s.now false c.mbc3_in.ensures refl c.new.ensures
