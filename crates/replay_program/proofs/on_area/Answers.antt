-- `replay_program::on_area` meets its contract.
use native.Mathlib.Omega.{arith}
use borrow.Author.Rules.{rules}
use Rattle.replay_program.proofs.Laws.{on_mounted, on_refused, number_fits}
use Rattle.replay_program.proofs.on_area.Goals as goal

pub put_numbered-requires : goal.put_numbered-requires
put_numbered-requires c =
    omega (arith, number_fits c.number.result c.args.trace.now c.args.room.now (search rules) c.requires)

pub returns-in-Ok : goal.returns-in-Ok
returns-in-Ok c =
    let a = c.args in
    let d = c.run-reached.ensures in
    let m = c.mount.ensures in
    let x = on_mounted a.image.now a.area.now a.trace.now m.value c.in-Ok.is m.ram_after d.ram_after d.put in
    record { put = x.0; area_after = x.1; upper_bound = d.end_in_bounds }

pub returns-in-Err : goal.returns-in-Err
returns-in-Err c =
    let p = c.put_numbered.ensures in
    let m = c.mount.ensures in
    let n = c.number in
    let x = on_refused c.args.image.now c.args.area.now c.args.trace.now m.value c.in-Err.is m.ram_after n.ensures p in
    let l = number_fits n.result c.args.trace.now c.args.room.now (search rules) c.requires in
    record { put = x.0; area_after = x.1; upper_bound = omega (arith, l, p.behind) }
