-- `save_file::save` meets its contract: what both directions ask first, and then the room.
use lib.ListN.{length}
use mathlib.Core.Path.{◌∙◌}
use Rattle.facts.proofs.Handed.{handed_on}
use Rattle.save_file.proofs.Laws.{save_by, room_by_lem}
use Rattle.save_file.proofs.save.Goals as goal

pub returns : goal.returns
returns c =
    let a = c.args in
    let e = c.save_admitted.ensures.value
    ∙ save_by a.cart a.ram.now (length a.room.now) a.wall c.admit.ensures c.in_ok-admit.was in
    record {
      value = e;
      room_after = c.save_admitted.ensures.room_after ∙ room_by_lem a.cart a.ram.now a.room.now a.wall e;
    }

pub returns-in_err-admit : goal.returns-in_err-admit
returns-in_err-admit c =
    let a = c.args in
    let e = save_by a.cart a.ram.now (length a.room.now) a.wall c.admit.ensures
    c.in_err-admit.was in
    record {
      value = handed_on _ c.from_residual.ensures ∙ e;
      room_after = room_by_lem a.cart a.ram.now a.room.now a.wall e;
    }
