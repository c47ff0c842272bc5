-- The text that is written out is inside the room.
use Rattle.std.proofs.Common.{sym}
use Rattle.std.proofs.lemmas.List.{length-take-le}
use Rattle.replay_program.proofs.Laws.{text_inside, inside}
use Rattle.replay_files.proofs.run.Goals as goal

pub slice_bounds-text-end : goal.slice_bounds-text-end
slice_bounds-text-end g c = inside c.write-n.ensures.value c.write-n.ensures.room_after (text_inside _ _ _)

pub slice_bounds-write_all-end : goal.slice_bounds-write_all-end
slice_bounds-write_all-end g c =
    sym (length-take-le _ _ (inside c.write-n.ensures.value c.write-n.ensures.room_after (text_inside _ _ _)))
