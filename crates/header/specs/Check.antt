-- The verdict: the first of the numbers 1 to 11 that holds, or what the header says (Order 3, Numbers 1 to 11).
use Rattle.std.specs.Prelude.{Bool, true, false, not, List, [], ◌∷◌, ℕ, ◌/◌, eqb, ltb, length, drop, Ok, Err, Some, None, Result, Option}
use Rattle.facts.specs.Choice.{both}
use Rattle.facts.specs.Refusals.{No, no, first_no}
use Rattle.utf8.specs.Utf8.{is_utf8}
use Rattle.image.specs.Image.{byte_at, padded_length, logo_at, is_multicart, checksum_of, title_of, is_colour}
use Rattle.types.specs.Types.{no_row, type_of, supported_of, beyond_of}
use Rattle.header.specs.Size.{rom_fits, ram_size_of}
use Rattle.types.specs.declared.Kind.{Kind}
use Rattle.types.specs.declared.Kind.TheVariants.{NoMapper, Mbc1, Mbc2, Mbc3, Mbc5, Mmm01, Mbc6, Mbc7}
use Rattle.types.specs.declared.TypeRow.{TypeRow}
use Rattle.header.specs.declared.HeaderRefusal.{HeaderRefusal}
use Rattle.header.specs.declared.HeaderRefusal.TheVariants.{
  TooLong,
  BadLogo,
  BadTitle,
  BadType,
  BadRomCode,
  BadRomSize,
  BadRamCode,
  NeedlessRam,
  BadChecksum,
  Unsupported,
  Beyond,
}
use Rattle.header.specs.declared.Facts.{Facts}

abbrev pub number_of : HeaderRefusal → ℕ
number_of TooLong = 1
number_of BadLogo = 2
number_of BadTitle = 3
number_of BadType = 4
number_of BadRomCode = 5
number_of BadRomSize = 6
number_of BadRamCode = 7
number_of NeedlessRam = 8
number_of BadChecksum = 9
number_of Unsupported = 10
number_of Beyond = 11

abbrev pub is_known : Option TypeRow → Bool
is_known (Some r) = true
is_known None = false

abbrev pub row_of : Option TypeRow → TypeRow
row_of (Some r) = r
row_of None = no_row

-- Header 10, of an MBC1 alone
abbrev pub multicart_of : List ℕ → Kind → Bool
multicart_of s NoMapper = false
multicart_of s Mbc1 = is_multicart s
multicart_of s Mbc2 = false
multicart_of s (Mbc3 t) = false
multicart_of s (Mbc5 r) = false
multicart_of s Mmm01 = false
multicart_of s Mbc6 = false
multicart_of s Mbc7 = false

abbrev pub rom_length : List ℕ → ℕ
rom_length s = padded_length (length s)

-- Header 14: "as many banks as 0x4000 goes into its padded length, and the RAM of its RAM code"
abbrev pub banks_of : List ℕ → ℕ
banks_of s = rom_length s / 0x4000

abbrev pub size_of : List ℕ → ℕ
size_of s = ram_size_of (byte_at s 0x149)

-- Header 2: "the type at 0x147"
abbrev pub found_of : List ℕ → Option TypeRow
found_of s = type_of (byte_at s 0x147)

-- Order 3: "A header is tested for 1 to 11, in the order of the numbers", of an image whose type byte has the row r;
-- Header 2: "the ROM code at 0x148, the RAM code at 0x149, the checksum at 0x14D"
unfoldable pub noes : List ℕ → TypeRow → List (No HeaderRefusal)
noes s r =
    no (ltb 8388608 (length s)) TooLong
    ∷ no (not (logo_at s 0x104)) BadLogo
    ∷ no (not (is_utf8 (title_of s))) BadTitle
    -- Numbers 4: "the type byte at 0x147 is not one of the 24 known"
    ∷ no (not (is_known (found_of s))) BadType
    ∷ no (ltb 8 (byte_at s 0x148)) BadRomCode
    ∷ no (not (rom_fits (rom_length s) (byte_at s 0x148))) BadRomSize
    ∷ no (ltb 5 (byte_at s 0x149)) BadRamCode
    ∷ no (both (not r.2) (ltb 0 (size_of s))) NeedlessRam
    ∷ no (not (eqb (checksum_of s) (byte_at s 0x14D))) BadChecksum
    ∷ no (not (supported_of r.1)) Unsupported
    ∷ no (beyond_of r.1 (banks_of s) (size_of s)) Beyond
    ∷ []

-- what an accepted header says
unfoldable pub facts_of : List ℕ → TypeRow → Facts
facts_of s r =
    record {
      kind = r.1;
      multicart = multicart_of s r.1;
      ram = r.2;
      battery = r.3;
      banks = banks_of s;
      size = size_of s;
      colour = is_colour s;
      title = length (title_of s);
    }

-- the verdict
unfoldable pub check_of : List ℕ → Result Facts HeaderRefusal
check_of s = let r = row_of (found_of s) in first_no Err (noes s r) (Ok (facts_of s r))

-- the verdict from test 5 and from test 9 on
unfoldable pub sizes_of : List ℕ → TypeRow → Result Facts HeaderRefusal
sizes_of s r = first_no Err (drop 4 (noes s r)) (Ok (facts_of s r))

unfoldable pub mapper_of : List ℕ → TypeRow → Result Facts HeaderRefusal
mapper_of s r = first_no Err (drop 8 (noes s r)) (Ok (facts_of s r))
