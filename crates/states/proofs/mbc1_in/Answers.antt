-- `states::mbc1_in` meets its contract: field by field.
use Rattle.states.proofs.Laws.{mbc1_of_lem}
use Rattle.states.proofs.mbc1_in.Goals as goal

pub returns : goal.returns
returns c =
    mbc1_of_lem c.flag_at.ensures c.flag_at-2.ensures c.read.ensures c.read-2.ensures
