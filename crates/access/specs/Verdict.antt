-- Which accesses are refused, and the window of the others (Order 4, Numbers 13 to 16).
use Rattle.std.specs.Prelude.{Bool, not, List, [], ◌∷◌, ℕ, leb, Ok, Err, Result}
use Rattle.facts.specs.Choice.{pick, both, either}
use Rattle.facts.specs.Refusals.{No, no, first_no}
use Rattle.cartridge.specs.Fit.{fit_cart}
use Rattle.cartridge.specs.declared.Cartridge.{Cartridge}
use Rattle.access.specs.declared.BusRefusal.{BusRefusal}
use Rattle.access.specs.declared.BusRefusal.TheVariants.{Unfit, WrongLength, BadAddress, BadSelection}
use Rattle.access.specs.declared.Target.{Target}
use Rattle.access.specs.declared.Target.TheVariants.{Rom, Ram}

abbrev pub number_of : BusRefusal → ℕ
number_of Unfit = 13
number_of WrongLength = 14
number_of BadAddress = 15
number_of BadSelection = 16

-- Bus 1: "0x0000 to 0x3FFF, the low one, and 0x4000 to 0x7FFF, the high one, show ROM; 0xA000 to 0xBFFF is the RAM window"; else Numbers 15
abbrev pub in_rom : ℕ → Bool
in_rom addr = leb addr 0x7FFF

abbrev pub in_ram : ℕ → Bool
in_ram addr = both (leb 0xA000 addr) (leb addr 0xBFFF)

-- Order 4: "A read asks 13, 14, 15, a write 13, 14, 15, 16", by whether the state is fit, whether what is lent has the mounted
-- lengths, an address, and whether the access selects what there is not
abbrev pub noes_by : Bool → Bool → ℕ → Bool → List (No BusRefusal)
noes_by fit lent addr bad =
    no (not fit) Unfit
    ∷ no (not lent) WrongLength
    ∷ no (not (either (in_rom addr) (in_ram addr))) BadAddress
    ∷ no bad BadSelection
    ∷ []

-- the window that an accepted access is to
abbrev pub verdict_by : ℕ → List (No BusRefusal) → Result Target BusRefusal
verdict_by addr tests = first_no Err tests (pick (in_rom addr) (Ok Rom) (Ok Ram))

-- the same of a cartridge
unfoldable pub noes : Cartridge → Bool → ℕ → Bool → List (No BusRefusal)
noes c lent addr bad = noes_by (fit_cart c) lent addr bad

unfoldable pub verdict_of : Cartridge → Bool → ℕ → Bool → Result Target BusRefusal
verdict_of c lent addr bad = verdict_by addr (noes c lent addr bad)
