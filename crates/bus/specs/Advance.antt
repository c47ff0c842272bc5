-- Clocks that pass (Clock 5, Order 5).
use Rattle.std.specs.Prelude.{not, List, [], ◌∷◌, ℕ, Ok, Err, Result}
use Rattle.facts.specs.Refusals.{No, no, first_no}
use Rattle.clock.specs.declared.AdvanceRefusal.{AdvanceRefusal}
use Rattle.clock.specs.declared.AdvanceRefusal.TheVariants.{Unfit, Late}
use Rattle.mapper.specs.Mappers as mapper
use Rattle.mapper.specs.declared.Mapper.{Mapper}
use Rattle.cartridge.specs.Fit.{fit_cart}
use Rattle.cartridge.specs.declared.Cartridge.{Cartridge}
use Rattle.cartridge.specs.With.{with_mapper}

-- Order 5: "An advance asks 13, then 17"
abbrev pub advance_noes : Cartridge → ℕ → List (No AdvanceRefusal)
advance_noes c n = no (not (fit_cart c)) Unfit ∷ no (mapper.late c.mapper n) Late ∷ []

-- Clock 5: "Where it is accepted and there is a timer, the clock moves so and all else stays; without a timer it is taken and
-- changes nothing"
unfoldable pub advance_of : Cartridge → ℕ → Result Cartridge AdvanceRefusal
advance_of c n = first_no Err (advance_noes c n) (Ok (with_mapper c (mapper.clocks_on c.mapper n)))

-- the mapper's answer, as the cartridge's
abbrev pub from_mapper : Cartridge → Result Mapper AdvanceRefusal → Result Cartridge AdvanceRefusal
from_mapper c (Ok m) = Ok (with_mapper c m)
from_mapper c (Err w) = Err w
