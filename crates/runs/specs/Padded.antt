-- The padded image as a list. Header 1: "zeros follow it until its length is a multiple of 0x4000 and at least 0x8000".
use Rattle.std.specs.Prelude.{List, ◌++◌, ℕ, ◌-◌, length, replicate}
use Rattle.image.specs.Image.{padded_length}

unfoldable pub padded : List ℕ → List ℕ
padded s = s ++ replicate (padded_length (length s) - length s) 0
