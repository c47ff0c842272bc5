-- What saving and loading both ask first (Order 6, Order 7).
use Rattle.std.specs.Prelude.{not, List, [], ◌∷◌, ℕ, eqb, Ok, Err, Result}
use Rattle.facts.specs.Refusals.{No, no, first_no}
use Rattle.clock_block.specs.Waking as block
use Rattle.cartridge.specs.Fit.{fit_cart, area_of}
use Rattle.cartridge.specs.declared.Cartridge.{Cartridge}
use Rattle.save_file.specs.declared.SaveRefusal.{SaveRefusal}
use Rattle.save_file.specs.declared.SaveRefusal.TheVariants.{
  Unfit,
  WrongLength,
  NoBattery,
  ShortSave,
  Block,
  ShortRoom,
}

abbrev pub number_of : SaveRefusal → ℕ
number_of Unfit = 13
number_of WrongLength = 14
number_of NoBattery = 18
number_of ShortSave = 19
number_of (Block w) = block.number_of w
number_of ShortRoom = 21

-- Order 6 and Order 7: "13, 14 of the RAM area, 18", of a cartridge and the length of the lent RAM area; Numbers 18: "the type
-- has no battery"
unfoldable pub admit_noes : Cartridge → ℕ → List (No SaveRefusal)
admit_noes c area =
    no (not (fit_cart c)) Unfit ∷ no (not (eqb area (area_of c))) WrongLength ∷ no (not c.battery) NoBattery ∷ []

unfoldable pub admit_of : Cartridge → ℕ → Result (Unit {0}) SaveRefusal
admit_of c area = first_no Err (admit_noes c area) (Ok tt)
