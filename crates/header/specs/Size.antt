-- The ROM size and its mending, and the RAM sizes (Header 7, Header 8).
use Rattle.std.specs.Prelude.{Bool, List, [], ◌∷◌, ◌≡◌, ℕ, ◌*◌, ◌/◌, ◌%◌, ◌^◌, ◌≤◌, eqb, ltb, leb, get_or}
use Rattle.std.specs.Int.Count.{ones, count_trailing_zeros}
use Rattle.facts.specs.Choice.{both, either}

-- Header 7: "ROM code n stands for 0x8000 * 2^n bytes"
abbrev pub rom_size : ℕ → ℕ
rom_size n = 0x8000 * 2 ^ n

-- Header 7: "the quotient has a single bit set, with at most seven zeros below it"
unfoldable pub mends : ℕ → Bool
mends q = both (eqb (ones q) 1) (leb (count_trailing_zeros 32 q) 7)

-- which says: a power of two at most 128
pub record Power (q : ℕ) : Type 0 where
  pub log : ℕ
  pub small : log ≤ 7
  pub is : q ≡ 2 ^ log

-- Header 7: "fits where it is the padded length, or can be mended to it: it is smaller and divides the padded length", and the
-- quotient mends
unfoldable pub rom_fits : ℕ → ℕ → Bool
rom_fits len n =
    either (eqb (rom_size n) len)
    (both (ltb (rom_size n) len) (both (eqb (len % rom_size n) 0) (mends (len / rom_size n))))

-- Header 8: "RAM codes 0 to 5 stand for 0, 0x800, 0x2000, 0x8000, 0x20000 and 0x10000 bytes, in this order"
abbrev pub ram_sizes : List ℕ
ram_sizes = 0 ∷ 0x800 ∷ 0x2000 ∷ 0x8000 ∷ 0x20000 ∷ 0x10000 ∷ []

abbrev pub ram_size_of : ℕ → ℕ
ram_size_of n = get_or ram_sizes n 0
