-- Header 11: "Without a mapper there are exactly 2 banks and at most 0x2000 bytes of RAM. MBC1 has at most 128 banks, MBC2 16, MBC3 256,
-- MBC5 512."
use Rattle.std.specs.Prelude.{◌≡◌, ℕ, ◌≤◌}
use Rattle.types.specs.declared.Kind.{Kind}
use Rattle.types.specs.declared.Kind.TheVariants.{NoMapper, Mbc1, Mbc2, Mbc3, Mbc5, Mmm01, Mbc6, Mbc7}

abbrev pub Within : Kind → ℕ → ℕ → Type 0
Within NoMapper banks size = (banks ≡ 2) × (size ≤ 0x2000)
Within Mbc1 banks size = banks ≤ 128
Within Mbc2 banks size = banks ≤ 16
Within (Mbc3 timer) banks size = banks ≤ 256
Within (Mbc5 rumble) banks size = banks ≤ 512
Within Mmm01 banks size = ⊥
Within Mbc6 banks size = ⊥
Within Mbc7 banks size = ⊥
