-- Every way stays within the area.
use mathlib.Core.Path.{◌≡◌, refl}
use Prim.Native.Nat.{ℕ}
use Rattle.facts.proofs.ChoiceLaws.{pick_has}
use Rattle.banking.proofs.Laws.{ram_inside}
use Rattle.mbc1.proofs.Laws as mbc1
use Rattle.mbc3.proofs.FitLaws as mbc3
use Rattle.mbc5.proofs.Laws as mbc5
use Rattle.mapper.specs.Mappers.{area_of}
use Rattle.mapper.specs.declared.Mapper.{Mapper}
use Rattle.mapper.specs.declared.Mapper.TheVariants.{NoMapper, Mbc1, Mbc2, Mbc3, Mbc5}
use Rattle.window.specs.Window.{way_of, Within}
use Rattle.window.specs.declared.Way.{Way}

pub way_within : (m : Mapper) (size addr : ℕ) → Within (way_of m size addr) size (area_of m size)
way_within (NoMapper m) size addr = ram_inside size 0 addr
way_within (Mbc1 m) size addr = mbc1.ram_at_inside m size addr
way_within (Mbc2 m) size addr = refl
way_within (Mbc3 m) size addr =
    pick_has (λ (w : Way). Within w size size) m.memory (mbc3.ram_at_inside m size addr) tt
way_within (Mbc5 m) size addr = mbc5.ram_at_inside m size addr

-- the same of an area that is known to have the length
pub lent_within : (m : Mapper) (size addr : ℕ) {n : ℕ} {w : Way} → w ≡ way_of m size addr → n ≡ area_of m size → Within w size n
lent_within m size addr p q = rw (p, q) (way_within m size addr)
