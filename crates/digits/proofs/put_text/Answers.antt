-- `digits::put_text` meets its contract: what is copied over a part of the room.
use Rattle.std.proofs.Common.{refl}
use Rattle.digits.proofs.PutLaws.{copied}
use Rattle.digits.proofs.put_text.Goals as goal

pub returns : goal.returns
returns c =
    record {
      is = copied _ _ _ c.requires c.copy_from_slice.ensures.after;
      behind = refl;
    }
