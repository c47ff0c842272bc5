-- A cartridge without what its mapper does not use. Fit 1: "Fields that the kind of a cartridge does not use (Player 1) are not looked
-- at. So it is, without a timer, with the clock and which of its registers is selected"
use Rattle.std.specs.Prelude.{true, ◌⊎◌, ◌≡◌}
use Rattle.facts.specs.Choice.{pick}
use Rattle.clock.specs.Access.{start_at}
use Rattle.mbc3.specs.Registers as mbc3
use Rattle.mbc3.specs.declared.Mbc3 as mbc3-state
use Rattle.mapper.specs.declared.Mapper.{Mapper}
use Rattle.mapper.specs.declared.Mapper.TheVariants.{NoMapper, Mbc1, Mbc2, Mbc3, Mbc5}
use Rattle.cartridge.specs.With.{with_mapper}
use Rattle.cartridge.specs.declared.Cartridge.{Cartridge}

-- with no timer a clock and a selection at zero
abbrev pub plain_mbc3 : mbc3-state.Mbc3 → mbc3-state.Mbc3
plain_mbc3 m =
    pick m.timer m (mbc3.mbc3 m.timer m.enabled m.bank m.memory m.ram 0 (start_at 0))

abbrev pub plain_mapper : Mapper → Mapper
plain_mapper (NoMapper m) = NoMapper m
plain_mapper (Mbc1 m) = Mbc1 m
plain_mapper (Mbc2 m) = Mbc2 m
plain_mapper (Mbc3 m) = Mbc3 (plain_mbc3 m)
plain_mapper (Mbc5 m) = Mbc5 m

unfoldable pub plain : Cartridge → Cartridge
plain c = with_mapper c (plain_mapper c.mapper)

-- a mapper with nothing but what it uses
abbrev pub Used : Mapper → Type 0
Used (NoMapper m) = Unit {0}
Used (Mbc1 m) = Unit {0}
Used (Mbc2 m) = Unit {0}
Used (Mbc3 m) = (m.timer ≡ true) ⊎ ((m.register ≡ 0) × (m.clock ≡ start_at 0))
Used (Mbc5 m) = Unit {0}
