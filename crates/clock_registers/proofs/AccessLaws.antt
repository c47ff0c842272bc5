-- Register 4 packed and taken apart.
use mathlib.Core.Bool.{Bool}
use mathlib.Core.Path.{◌≡◌, ap, ◌∙◌}
use Prim.Native.Nat.{ℕ, ◌+◌, ◌*◌, ◌/◌, ◌%◌, ◌<◌}
use native.Mathlib.Omega.{arith}
use lib.Bits.{bit_and, bit_or, and_mask, and_high, or_shifted}
use mir.Val.{bool_byte}
use Rattle.facts.specs.Choice.{bit}
use Rattle.facts.proofs.ChoiceLaws.{bit_lt}
use Rattle.facts.proofs.BitLaws.{flag_byte, join_below}

pub flags_packed : (a b : Bool) (d : ℕ)
    → bit_or (bool_byte a * 128 % 256) (bit_or (bool_byte b * 64 % 256) (bit_and (d / 256) 1))
    ≡ bit a * 128 + (bit b * 64 + d / 256 % 2)
flags_packed a b d =
    let e : bit_and (d / 256) 1 ≡ d / 256 % 2 = and_mask (d / 256) 1 in
    let low : bit_or (bit b * 64 % 256) (d / 256 % 2) ≡ bit b * 64 + d / 256 % 2 =
    join_below 1 6 8 (bit_lt b) (omega arith) (omega arith) in
    rw (flag_byte a, flag_byte b, e, low) (join_below 1 7 8 (bit_lt a) (omega (arith, bit_lt b)) (omega arith))

-- the low eight bits of the day, from a byte
pub day_low : (d b : ℕ) → b < 256 → bit_or (bit_and d 256) b ≡ d / 256 % 2 * 256 + b
day_low d b l = ap (λ (x : ℕ). bit_or x b) (and_high d 1 8) ∙ or_shifted (d / 256 % 2) 8 b l

-- bit 8 of the day, from bit 0 of a byte
pub day_high : (d b : ℕ) → bit_or (bit_and b 1 * 256 % 65536) (bit_and d 255) ≡ b % 2 * 256 + d % 256
day_high d b = rw (and_mask b 1, and_mask d 8) (join_below 1 8 16 (omega arith) (omega arith) (omega arith))
