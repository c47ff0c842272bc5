-- `image::logo_at` meets its contract: the bytes before i agree.
use Rattle.std.proofs.Common.{◌≡◌, ◌+◌, drop}
use Rattle.image.specs.Image.{logo, stands_at, logo_at}
use Rattle.image.proofs.logo_at.Given as goal

abbrev pub invariant-loop-i : goal.invariant-loop-i
invariant-loop-i l = logo_at l.image l.at ≡ stands_at (drop l.i logo) l.image (l.at + l.i)
