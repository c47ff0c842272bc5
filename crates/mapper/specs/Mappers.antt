-- What each mapper asks and does, by its kind.
use Rattle.std.specs.Prelude.{Bool, true, false, not, [], ◌∷◌, ℕ, ◌+◌, eqb, ltb, Ok, Err, Result}
use Rattle.facts.specs.Choice.{pick, both, either}
use Rattle.facts.specs.Refusals.{no, first_no}
use Rattle.clock.specs.declared.AdvanceRefusal.TheVariants.{Unfit, Late}
use Rattle.clock.specs.declared.AdvanceRefusal.{AdvanceRefusal}
use Rattle.no_mapper.specs.Registers as none
use Rattle.mbc1.specs.Registers as mbc1
use Rattle.mbc2.specs.Registers as mbc2
use Rattle.mbc3.specs.Registers as mbc3
use Rattle.mbc3.specs.declared.Mbc3 as declared
use Rattle.timer.specs.Advance as timer
use Rattle.mbc5.specs.Registers as mbc5
use Rattle.types.specs.Types.{beyond_of}
use Rattle.types.specs.declared.Kind.{Kind}
use Rattle.types.specs.declared.Kind.TheVariants as kind
use Rattle.mapper.specs.declared.Mapper.{Mapper}
use Rattle.mapper.specs.declared.Mapper.TheVariants.{NoMapper, Mbc1, Mbc2, Mbc3, Mbc5}

-- the kind whose limits hold; an MBC5's are the same with rumble
abbrev pub kind_of : Mapper → Kind
kind_of (NoMapper m) = kind.NoMapper
kind_of (Mbc1 m) = kind.Mbc1
kind_of (Mbc2 m) = kind.Mbc2
kind_of (Mbc3 m) = kind.Mbc3 m.timer
kind_of (Mbc5 m) = kind.Mbc5 false

-- Fit 2: "A multicart has exactly 64"
abbrev pub multicart_banks : Mapper → ℕ → Bool
multicart_banks (NoMapper m) banks = true
multicart_banks (Mbc1 m) banks = either (not m.multicart) (eqb banks 64)
multicart_banks (Mbc2 m) banks = true
multicart_banks (Mbc3 m) banks = true
multicart_banks (Mbc5 m) banks = true

-- Fit 2: "exactly 2 without a mapper, 128 for MBC1, 16 for MBC2, 256 for MBC3, 512 for MBC5"; Fit 4: "without a mapper at most 0x2000"
unfoldable pub holds : Mapper → ℕ → ℕ → Bool
holds m banks size = both (not (beyond_of (kind_of m) banks size)) (multicart_banks m banks)

abbrev pub fit_registers : Mapper → Bool
fit_registers (NoMapper m) = none.fit_registers m
fit_registers (Mbc1 m) = mbc1.fit_registers m
fit_registers (Mbc2 m) = mbc2.fit_registers m
fit_registers (Mbc3 m) = mbc3.fit_registers m
fit_registers (Mbc5 m) = mbc5.fit_registers m

-- Header 12: "as long as the header's RAM; for MBC2 there are 512 bytes more"
abbrev pub area_of : Mapper → ℕ → ℕ
area_of (NoMapper m) size = size
area_of (Mbc1 m) size = size
area_of (Mbc2 m) size = size + 512
area_of (Mbc3 m) size = size
area_of (Mbc5 m) size = size

-- the banks of the low window and of the high one, not yet as Bus 4: "taken modulo the bank count"
abbrev pub bank0 : Mapper → ℕ
bank0 (NoMapper m) = none.bank0 m
bank0 (Mbc1 m) = mbc1.bank0 m
bank0 (Mbc2 m) = mbc2.bank0 m
bank0 (Mbc3 m) = mbc3.bank0 m
bank0 (Mbc5 m) = mbc5.bank0 m

abbrev pub bank_x : Mapper → ℕ
bank_x (NoMapper m) = none.bank_x m
bank_x (Mbc1 m) = mbc1.bank_x m
bank_x (Mbc2 m) = mbc2.bank_x m
bank_x (Mbc3 m) = mbc3.bank_x m
bank_x (Mbc5 m) = mbc5.bank_x m

unfoldable pub bank_at : Mapper → ℕ → ℕ
bank_at m addr = pick (ltb addr 0x4000) (bank0 m) (bank_x m)

-- Bus 7: "A write below 0x8000 goes to the mapper's registers, and the address range decides to which"
abbrev pub written : Mapper → ℕ → ℕ → Mapper
written (NoMapper m) addr byte = NoMapper (none.written m addr byte)
written (Mbc1 m) addr byte = Mbc1 (mbc1.written m addr byte)
written (Mbc2 m) addr byte = Mbc2 (mbc2.written m addr byte)
written (Mbc3 m) addr byte = Mbc3 (mbc3.written m addr byte)
written (Mbc5 m) addr byte = Mbc5 (mbc5.written m addr byte)

-- Numbers 16: "asks an MBC3 to select 4 to 7 or 0xD to 0xF (the low four bits)"
abbrev pub bad_selection : Mapper → ℕ → ℕ → Bool
bad_selection (NoMapper m) addr byte = false
bad_selection (Mbc1 m) addr byte = false
bad_selection (Mbc2 m) addr byte = false
bad_selection (Mbc3 m) addr byte = mbc3.bad_selection addr byte
bad_selection (Mbc5 m) addr byte = false

-- Numbers 17: "the clock's time would pass 2^64 - 1 seconds"; Clock 5: "without a timer it is taken and changes nothing"
abbrev pub late : Mapper → ℕ → Bool
late (NoMapper m) n = false
late (Mbc1 m) n = false
late (Mbc2 m) n = false
late (Mbc3 m) n = timer.late_of m n
late (Mbc5 m) n = false

abbrev pub clocks_on : Mapper → ℕ → Mapper
clocks_on (NoMapper m) n = NoMapper m
clocks_on (Mbc1 m) n = Mbc1 m
clocks_on (Mbc2 m) n = Mbc2 m
clocks_on (Mbc3 m) n = Mbc3 (timer.clocks_on m n)
clocks_on (Mbc5 m) n = Mbc5 m

-- Order 5: "An advance asks 13, then 17"
unfoldable pub advance_of : Mapper → ℕ → Result Mapper AdvanceRefusal
advance_of m n = first_no Err (no (not (fit_registers m)) Unfit ∷ no (late m n) Late ∷ []) (Ok (clocks_on m n))

-- the timer's answer, as the mapper's
abbrev pub from_timer : Result declared.Mbc3 AdvanceRefusal → Result Mapper AdvanceRefusal
from_timer (Ok m) = Ok (Mbc3 m)
from_timer (Err w) = Err w
