-- Modulo banking is within: the one law behind every mapped place.
use Prim.Native.Nat.{ℕ, ◌*◌, ◌<◌}
use native.Mathlib.Nat.{mod-lt, mul-le-mul_right}
use native.Mathlib.Omega.{arith}
use Rattle.facts.specs.Banking.{place_of}

pub place_lt : (size bank : ℕ) {count off : ℕ} → 0 < count → off < size → place_of size count bank off < count * size
unfolding place_of
place_lt size bank {count} {off} pos small = omega (arith, mul-le-mul_right size (mod-lt bank pos))
