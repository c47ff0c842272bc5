-- `image::byte_at` meets its contract: past the end stands 0.
use Rattle.std.proofs.Common.{sym}
use lib.ListN.{get_or-eq_default}
use Rattle.image.proofs.byte_at.Goals as goal

pub returns-else-at-image : goal.returns-else-at-image
returns-else-at-image c =
    sym (get_or-eq_default c.args.image.now 0 c.if-at-image.false)
