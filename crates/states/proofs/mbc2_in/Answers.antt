-- `states::mbc2_in` meets its contract: field by field.
use Rattle.states.proofs.Laws.{mbc2_of_lem}
use Rattle.states.proofs.mbc2_in.Goals as goal

pub returns : goal.returns
returns c =
    mbc2_of_lem c.flag_at.ensures c.read.ensures
