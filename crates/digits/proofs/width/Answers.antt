-- `digits::width` meets its contract: between two powers of ten.
use Rattle.digits.proofs.Laws.{width_between}
use Rattle.digits.proofs.width.Goals as goal

pub returns : goal.returns
returns c =
    let e = c.ilog10.ensures in
    width_between c.ilog10.result _ c.max.ensures e.power_le e.next_power_gt
