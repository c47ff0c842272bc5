-- `trace::whole_at` meets its contract: the body is cut or it is not.
use Rattle.trace.proofs.Laws.{cut, whole}
use Rattle.trace.proofs.whole_at.Goals as goal

pub returns-then-bytes-at : goal.returns-then-bytes-at
returns-then-bytes-at c =
    let a = c.args in
    cut a.bytes.now a.at a.kind c.body-body.ensures c.if-bytes-at.true

pub returns : goal.returns
returns c =
    whole c.args.bytes.now c.args.at c.args.kind c.requires c.body-body.ensures
    c.if-bytes-at.false c.record_of.ensures
