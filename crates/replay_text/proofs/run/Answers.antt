-- `replay_text::run` meets its contract: at each turn, what is still to be done gives the whole.
use Rattle.std.specs.Prelude.{Ok}
use mathlib.Core.Path.{sym, ap, ◌∙◌}
use Prim.Native.Nat.{zero-le}
use native.Mathlib.Omega.{arith}
use borrow.Author.Rules.{rules}
use Rattle.trace.proofs.Records.{progress, place_refused}
use Rattle.digits.proofs.PutLaws.{put_length}
use Rattle.replay_step.specs.Step.{machine}
use Rattle.lines.proofs.Laws.{put_number_lem}
use Rattle.replay_text.proofs.Going.{going_start, going_found, room_step, room_last, going_end, going_refused}
use Rattle.replay_text.proofs.run.Goals as goal

pub loop-asked-init : goal.loop-asked-init
loop-asked-init c =
    let a = c.args in
    going_start a.rom.now a.trace.now a.room.now (machine a.start a.ram.now) c.requires

pub next_record-requires : goal.next_record-requires
next_record-requires c =
    tt

pub step-reached-requires : goal.step-reached-requires
step-reached-requires c =
    omega (arith, room_step c.loop-asked.invariant)

pub overflow_add-count : goal.overflow_add-count
overflow_add-count c =
    let a = c.args in
    let p = progress a.trace.now c.loop-asked.at (sym c.next_record.ensures
    ∙ c.in-Ok-Some.is ∙ ap Ok c.in-Ok-Some.field-0-is) in
    omega (arith, p.0, p.1, c.loop-asked.invariant.counted, c.well_formed)

pub loop-asked-smaller : goal.loop-asked-smaller
loop-asked-smaller c =
    let a = c.args in
    let p = progress a.trace.now c.loop-asked.at (sym c.next_record.ensures
    ∙ c.in-Ok-Some.is ∙ ap Ok c.in-Ok-Some.field-0-is) in
    omega (arith, p.0, p.1)

pub loop-asked-preserved : goal.loop-asked-preserved
loop-asked-preserved c =
    let d = c.step-reached.ensures in
    going_found c.loop-asked.invariant
    (sym c.next_record.ensures ∙ c.in-Ok-Some.is ∙ ap Ok c.in-Ok-Some.field-0-is)
    d.did d.end_bound (search rules)

pub put_end-requires : goal.put_end-requires
put_end-requires c =
    omega (arith, room_last c.loop-asked.invariant (omega (arith, c.well_formed)) 0 zero-le)

pub shape_of-ram-in-Ok-None : goal.shape_of-ram-in-Ok-None
shape_of-ram-in-Ok-None c =
    c.loop-asked.invariant.area

pub shape_of-room-in-Ok-None : goal.shape_of-room-in-Ok-None
shape_of-room-in-Ok-None c =
    put_length c.put_end.ensures
    ∙ c.loop-asked.invariant.rooms

pub returns-in-Ok-None : goal.returns-in-Ok-None
returns-in-Ok-None c =
    let p = c.put_end.ensures in
    let k = c.loop-asked.invariant in
    let x = going_end k
    (sym c.next_record.ensures
    ∙ c.in-Ok-None.is ∙ ap Ok c.in-Ok-None.field-0-is) p in
    let y = room_last k (omega (arith, c.well_formed)) 0 zero-le in
    record { ram_after = x.0; put = x.1; end_in_bounds = omega (arith, p.behind, y, k.rooms) }

pub place-requires : goal.place-requires
place-requires c =
    tt

pub put_numbered-stopped-requires : goal.put_numbered-stopped-requires
put_numbered-stopped-requires c =
    let a = c.args in
    let e = c.place.ensures in
    let p = place_refused a.trace.now c.loop-asked.at
    (sym c.next_record.ensures ∙ c.in-Err.is) in
    omega (arith, room_last c.loop-asked.invariant (omega (arith, c.well_formed)) c.place.result (omega (arith, e, p.0, p.1)))

pub put_end-requires-in-Err : goal.put_end-requires-in-Err
put_end-requires-in-Err c =
    let a = c.args in
    let p = c.put_numbered-stopped.ensures in
    let e = c.place.ensures in
    let q = place_refused a.trace.now c.loop-asked.at
    (sym c.next_record.ensures
    ∙ c.in-Err.is) in
    let y = room_last c.loop-asked.invariant (omega (arith, c.well_formed)) c.place.result
    (omega (arith, e, q.0, q.1)) in
    omega (arith, p.behind, put_length p, y)

pub shape_of-ram-in-Err : goal.shape_of-ram-in-Err
shape_of-ram-in-Err c =
    c.loop-asked.invariant.area

pub shape_of-room-in-Err : goal.shape_of-room-in-Err
shape_of-room-in-Err c =
    put_length c.put_end-in-Err.ensures
    ∙ put_length c.put_numbered-stopped.ensures
    ∙ c.loop-asked.invariant.rooms

pub returns-in-Err : goal.returns-in-Err
returns-in-Err c =
    let a = c.args in
    let p = c.put_numbered-stopped.ensures in
    let q = c.put_end-in-Err.ensures in
    let n = c.place in
    let e = sym
    c.next_record.ensures
    ∙ c.in-Err.is in
    let k = c.loop-asked.invariant in
    let x = going_refused k e (put_number_lem 84 n.ensures p) q in
    let z = place_refused a.trace.now c.loop-asked.at e in
    let y = room_last k (omega (arith, c.well_formed)) n.result (omega (arith, n.ensures, z.0, z.1)) in
    record { ram_after = x.0; put = x.1; end_in_bounds = omega (arith, p.behind, q.behind, y, k.rooms) }
