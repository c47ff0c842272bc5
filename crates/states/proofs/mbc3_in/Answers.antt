-- `states::mbc3_in` meets its contract: field by field.
use mathlib.Core.Path.{refl}
use Rattle.states.proofs.Laws.{mbc3_of_lem}
use Rattle.states.proofs.mbc3_in.Goals as goal

pub returns : goal.returns
returns c =
    mbc3_of_lem c.flag_at.ensures c.read.ensures c.flag_at-2.ensures c.read-2.ensures refl refl
