-- `mount::started` meets its contract: the facts and the start.
use mathlib.Core.Path.{sym}
use Rattle.mount.specs.Mount.{cart_of}
use Rattle.mount.proofs.started.Goals as goal

pub returns : goal.returns
unfolding cart_of
returns c =
    rw (sym c.start.ensures)
