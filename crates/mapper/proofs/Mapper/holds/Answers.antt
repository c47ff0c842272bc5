-- `mapper::Mapper::holds` meets its contract: the limits of the kind, and the multicart.
use Rattle.mapper.proofs.Laws.{holds_tested}
use Rattle.mapper.proofs.Mapper.holds.Goals as goal

pub returns : goal.returns
returns c =
    let a = c.args in
    holds_tested a.self a.banks a.size c.kind-kind.ensures
    c.is_beyond.ensures c.multicart_banks.ensures c.both.ensures
