-- Which states are fit (Fit 1 to 9).
use Rattle.std.specs.Prelude.{Bool, true, List, [], ◌∷◌, ◌≡◌, ℕ, ◌*◌, ◌^◌, ◌<◌, eqb}
use Rattle.facts.specs.Choice.{both}
use Rattle.facts.specs.Listed.{one_of}
use Rattle.image.specs.Image.{padded_length}
use Rattle.header.specs.Size.{ram_sizes}
use Rattle.mapper.specs.Mappers as mapper
use Rattle.mapper.specs.declared.Mapper.{Mapper}
use Rattle.mapper.specs.declared.Mapper.TheVariants.{NoMapper, Mbc1, Mbc2, Mbc3, Mbc5}
use Rattle.cartridge.specs.declared.Cartridge.{Cartridge}

-- Fit 2: "a power of two, from 2 up to the mapper's limit", of which 512 is the greatest
abbrev pub bank_counts : List ℕ
bank_counts = 2 ∷ 4 ∷ 8 ∷ 16 ∷ 32 ∷ 64 ∷ 128 ∷ 256 ∷ 512 ∷ []

-- what was mounted, Fit 2: "a power of two, from 2 up to the mapper's limit"; Fit 3: "padded by Header 1, is that many banks of
-- 0x4000"; Fit 4: "The RAM size is one of the six of Header 8, and without a mapper at most 0x2000"
unfoldable pub fit_board : Cartridge → Bool
fit_board c =
    both (both (one_of c.banks bank_counts) (eqb (padded_length c.length) (c.banks * 0x4000)))
    (both (one_of c.size ram_sizes) (mapper.holds c.mapper c.banks c.size))

-- and the mapper's registers, Fit 5 to 9
unfoldable pub fit_cart : Cartridge → Bool
fit_cart c = both (fit_board c) (mapper.fit_registers c.mapper)

-- the length of the RAM area that is lent, Header 12
abbrev pub area_of : Cartridge → ℕ
area_of c = mapper.area_of c.mapper c.size

-- the one width that the fitness test does not ask, since every such time is fit; Clock 1: "a time in seconds, of 64 bits"
abbrev pub InTime : Mapper → Type 0
InTime (NoMapper m) = Unit {0}
InTime (Mbc1 m) = Unit {0}
InTime (Mbc2 m) = Unit {0}
InTime (Mbc3 m) = m.timer ≡ true → m.clock.time < 2 ^ 64
InTime (Mbc5 m) = Unit {0}
