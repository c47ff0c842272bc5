-- `replay_program::on_both` meets its contract.
use mathlib.Core.Path.{sym}
use lib.Seq.{length-take-le}
use borrow.Author.Rules.{rules}
use Rattle.replay_program.proofs.Laws.{on_front}
use Rattle.replay_program.proofs.on_both.Goals as goal

pub slice_bounds-on_area-end-2 : goal.slice_bounds-on_area-end-2
slice_bounds-on_area-end-2 c =
    sym (length-take-le c.lent-n.result c.args.ram.now (search rules))

pub returns : goal.returns
returns c =
    let d = c.on_area.ensures in
    let n = c.lent-n in
    let x = on_front c.args.image.now c.args.trace.now c.args.ram.now n.ensures.value (search rules) d.put d.area_after in
    record { put = x.0; ram_after = x.1; upper_bound = d.upper_bound }
