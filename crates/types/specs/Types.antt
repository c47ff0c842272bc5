-- The types (Header 6), and what each kind can hold (Header 11).
use Rattle.std.specs.Prelude.{Bool, true, false, not, List, [], ◌∷◌, ℕ, eqb, ltb, Some, None, Option}
use Rattle.facts.specs.Choice.{pick, either}
use Rattle.types.specs.declared.Kind.{Kind}
use Rattle.types.specs.declared.Kind.TheVariants.{NoMapper, Mbc1, Mbc2, Mbc3, Mbc5, Mmm01, Mbc6, Mbc7}
use Rattle.types.specs.declared.TypeRow.{TypeRow}

abbrev pub row : ℕ → Kind → Bool → Bool → TypeRow
row b k ram battery = (b, k, ram, battery)

-- what stands past the table's end
abbrev pub no_row : TypeRow
no_row = row 0 NoMapper false false

-- Header 6: "There are 24 types: the byte, its kind, whether it has RAM, whether it has a battery"
unfoldable pub types : List TypeRow
types =
    row 0x00 NoMapper false false
    ∷ row 0x01 Mbc1 false false
    ∷ row 0x02 Mbc1 true false
    ∷ row 0x03 Mbc1 true true
    ∷ row 0x05 Mbc2 false false
    ∷ row 0x06 Mbc2 true true
    ∷ row 0x08 NoMapper true false
    ∷ row 0x09 NoMapper true true
    ∷ row 0x0B Mmm01 false false
    ∷ row 0x0C Mmm01 true false
    ∷ row 0x0D Mmm01 true true
    ∷ row 0x0F (Mbc3 true) false true
    ∷ row 0x10 (Mbc3 true) true true
    ∷ row 0x11 (Mbc3 false) false false
    ∷ row 0x12 (Mbc3 false) true false
    ∷ row 0x13 (Mbc3 false) true true
    ∷ row 0x19 (Mbc5 false) false false
    ∷ row 0x1A (Mbc5 false) true false
    ∷ row 0x1B (Mbc5 false) true true
    ∷ row 0x1C (Mbc5 true) false false
    ∷ row 0x1D (Mbc5 true) true false
    ∷ row 0x1E (Mbc5 true) true true
    ∷ row 0x20 Mbc6 true true
    ∷ row 0x22 Mbc7 true true
    ∷ []

-- the first row of a list with the byte b
unfoldable pub find_row : List TypeRow → ℕ → Option TypeRow
find_row [] b = None
find_row (r ∷ rs) b = pick (eqb r.0 b) (Some r) (find_row rs b)

unfoldable pub type_of : ℕ → Option TypeRow
unfolding find_row types
type_of b = find_row types b

-- else Numbers 10: "the type is MMM01, MBC6 or MBC7"
abbrev pub supported_of : Kind → Bool
supported_of NoMapper = true
supported_of Mbc1 = true
supported_of Mbc2 = true
supported_of (Mbc3 t) = true
supported_of (Mbc5 r) = true
supported_of Mmm01 = false
supported_of Mbc6 = false
supported_of Mbc7 = false

-- Header 11: "Without a mapper there are exactly 2 banks and at most 0x2000 bytes of RAM. MBC1 has at most 128 banks, MBC2 16,
-- MBC3 256, MBC5 512. All else is number 11"
abbrev pub beyond_of : Kind → ℕ → ℕ → Bool
beyond_of NoMapper banks size = either (not (eqb banks 2)) (ltb 0x2000 size)
beyond_of Mbc1 banks size = ltb 128 banks
beyond_of Mbc2 banks size = ltb 16 banks
beyond_of (Mbc3 t) banks size = ltb 256 banks
beyond_of (Mbc5 r) banks size = ltb 512 banks
beyond_of Mmm01 banks size = false
beyond_of Mbc6 banks size = false
beyond_of Mbc7 banks size = false
