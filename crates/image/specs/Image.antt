-- The image read as padded, and what stands at its header's places (Header 1 to 4, Header 9, Header 10, Header 13).
use Rattle.std.specs.Prelude.{◌≡◌, ℕ, zero, suc, ◌+◌, ◌-◌, ◌*◌, ◌/◌, ◌%◌, ◌≤◌, max, Bool, true, List, [], ◌∷◌, length, take, drop, ◌==◌, nat_lt, slice_index}
use Rattle.facts.specs.Choice.{pick, both}

-- Header 1: "zeros follow it until its length is a multiple of 0x4000 and at least 0x8000, none where it is that already. So a
-- byte past its end is 0"
abbrev pub byte_at : List ℕ → ℕ → ℕ
byte_at s i = slice_index s i

unfoldable pub padded_length : ℕ → ℕ
padded_length n = max 0x8000 ((n + 0x3FFF) / 0x4000 * 0x4000)

-- Header 3: "The logo is these 48 bytes, at 0x104 to 0x133"
unfoldable pub logo : List ℕ
logo =
    0xce ∷ 0xed ∷ 0x66 ∷ 0x66 ∷ 0xcc ∷ 0x0d ∷ 0x00 ∷ 0x0b ∷ 0x03 ∷ 0x73 ∷ 0x00 ∷ 0x83 ∷ 0x00 ∷ 0x0c ∷ 0x00 ∷ 0x0d
    ∷ 0x00 ∷ 0x08 ∷ 0x11 ∷ 0x1f ∷ 0x88 ∷ 0x89 ∷ 0x00 ∷ 0x0e ∷ 0xdc ∷ 0xcc ∷ 0x6e ∷ 0xe6 ∷ 0xdd ∷ 0xdd ∷ 0xd9 ∷ 0x99
    ∷ 0xbb ∷ 0xbb ∷ 0x67 ∷ 0x63 ∷ 0x6e ∷ 0x0e ∷ 0xec ∷ 0xcc ∷ 0xdd ∷ 0xdc ∷ 0x99 ∷ 0x9f ∷ 0xbb ∷ 0xb9 ∷ 0x33 ∷ 0x3e
    ∷ []

-- the bytes of l stand from place a on
unfoldable pub stands_at : List ℕ → List ℕ → ℕ → Bool
stands_at [] s a = true
stands_at (x ∷ l) s a = both (byte_at s a == x) (stands_at l s (suc a))

unfoldable pub logo_at : List ℕ → ℕ → Bool
logo_at s a = stands_at logo s a

-- Header 10: "its image, padded, has 0x100000 bytes, and each of the four quarters of 0x40000 has the logo at its place 0x104"
unfoldable pub is_multicart : List ℕ → Bool
is_multicart s =
    both (padded_length (length s) == 0x100000)
    (both (both (logo_at s 0x104) (logo_at s 0x40104)) (both (logo_at s 0x80104) (logo_at s 0xC0104)))

-- the sum of n bytes from place a on
unfoldable pub sum_from : List ℕ → ℕ → ℕ → ℕ
sum_from s a zero = 0
sum_from s a (suc n) = sum_from s a n + byte_at s (a + n)

-- Header 9: "begins at 0, and for each byte b from 0x134 to 0x14C becomes itself less b less 1, modulo 256": 0 less the 25 bytes and 25
unfoldable pub checksum_of : List ℕ → ℕ
checksum_of s = (256 - (sum_from s 0x134 25 + 25) % 256) % 256

-- what stands before the first zero
unfoldable pub up_to_zero : List ℕ → List ℕ
up_to_zero [] = []
up_to_zero (x ∷ l) = pick (x == 0) [] (x ∷ up_to_zero l)

-- Header 4: "begins at 0x134 and has at most 15 bytes .. It ends before the first zero, or with the image if that comes first"
unfoldable pub title_of : List ℕ → List ℕ
title_of s = up_to_zero (take 15 (drop 0x134 s))

-- where the title begins in an image of n bytes; of one that ends before 0x134 the empty part is taken at its begin
abbrev pub title_start : ℕ → ℕ
title_start n = pick (nat_lt n 0x134) 0 0x134

-- where byte k of a slice lies that begins at p, a block of memory and an offset in it: k further on in the same block
abbrev pub place_in : ℕ × ℕ → ℕ → ℕ × ℕ
place_in p k = (p.0, k + p.1)

-- Header 13: "bit 7 of the byte at 0x143 is set"
unfoldable pub is_colour : List ℕ → Bool
is_colour s = byte_at s 0x143 / 128 % 2 == 1

-- e is where the title's part of the image ends
pub record TitleEnd (s : List ℕ) (e : ℕ) : Type 0 where
  pub low : 308 ≤ e
  pub high : e ≤ length s
  pub part : take (e - 308) (drop 308 s) ≡ title_of s
