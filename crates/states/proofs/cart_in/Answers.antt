-- `states::cart_in` meets its contract: field by field.
use Rattle.states.proofs.Laws.{cart_of_lem}
use Rattle.states.proofs.cart_in.Goals as goal

pub returns : goal.returns
returns c =
    cart_of_lem _ c.read.ensures c.read-2.ensures c.read-3.ensures c.flag_at.ensures
