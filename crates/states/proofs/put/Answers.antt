-- `states::put` meets its contract: what was mounted, then the mapper's fields.
use Rattle.states.proofs.Laws.{put_in}
use Rattle.states.proofs.put.Goals as goal

pub returns : goal.returns
returns g c =
    let a = c.args in
    put_in a.s.now (g.M.Kept.mapper a.m) c.kind.ensures c.clear.ensures c.put_fields.ensures
