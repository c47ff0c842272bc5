-- `states::mbc5_in` meets its contract: field by field.
use Rattle.states.proofs.Laws.{mbc5_of_lem}
use Rattle.states.proofs.mbc5_in.Goals as goal

pub returns : goal.returns
returns c =
    mbc5_of_lem c.flag_at.ensures c.read.ensures c.read-2.ensures
