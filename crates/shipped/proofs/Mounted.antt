-- What an `imf_mount` that was made leaves, by its contract.
use mathlib.Core.Path.{◌≡◌, sym, ◌∙◌}
use Prim.Native.Nat.{◌<◌, ◌^◌}
use Rattle.player.proofs.imf_mount.Reads as imf-mount
use Rattle.shipped.specs.Made.{Call}
use Rattle.shipped.specs.Mounted.{kept_mounted, kept_by, MountsBy}
use Rattle.shipped.proofs.PartLaws.{kept_same}
use Rattle.shipped.proofs.Shipped.{mount_ships}

-- where it answered 0, at a wall time of 64 bits, is the game that it was lent,
pub mount_made : (c : Call imf-mount.Learnt) → c.answer ≡ 0 → c.passed.1.1.1.0 < 2 ^ 64 → MountsBy c
mount_made c e h = mount_ships _ _ _ _ h (sym c.known.0 ∙ e)

pub mount_leaves : (c : Call imf-mount.Learnt)
    → kept_by c ≡ kept_mounted c.passed.0.now c.passed.1.0.now c.passed.1.1.0.now c.passed.1.1.1.0
mount_leaves c = kept_same c.known.1.0 c.known.1.1
