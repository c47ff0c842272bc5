-- `states::encode` meets its contract: what was mounted, then the mapper.
use Rattle.states.proofs.Laws.{encoded}
use Rattle.states.proofs.encode.Goals as goal

pub returns : goal.returns
returns c =
    let a = c.args.cart in
    encoded a.mapper a.battery a.banks a.length a.size c.kind.ensures c.put_board.ensures
    c.put_fields.ensures
