-- `image::padded_len` meets its contract: a multiple of 0x4000, and 0x8000 where that is less.
use Rattle.std.proofs.Common.{arith}
use Rattle.image.specs.Image.{padded_length}
use Rattle.image.proofs.padded_len.Goals as goal

pub returns-then-n-le32768 : goal.returns-then-n-le32768
unfolding padded_length
returns-then-n-le32768 c =
    omega arith

pub returns : goal.returns
unfolding padded_length
returns c =
    omega arith
