-- The cartridge that 64 bytes stand for: each field read where Layout has it.
use Rattle.std.specs.Prelude.{Bool, true, false, List, [], ◌∷◌, ℕ, ltb, get_or, replicate, Some, None, Option}
use Rattle.facts.specs.Choice.{pick, both}
use Rattle.bytes_le.specs.Little.{field_at}
use Rattle.state_fields.specs.Fields.{stored, flag_at, are_flags}
use Rattle.state_fields.specs.ClockFields.{clock_flags, clock_in}
use Rattle.clock.specs.Access.{start_at}
use Rattle.clock.specs.declared.Clock.{Clock}
use Rattle.no_mapper.specs.Registers as none
use Rattle.mbc1.specs.Registers as mbc1
use Rattle.mbc1.specs.declared.Mbc1 as mbc1-state
use Rattle.mbc2.specs.Registers as mbc2
use Rattle.mbc2.specs.declared.Mbc2 as mbc2-state
use Rattle.mbc3.specs.Registers as mbc3
use Rattle.mbc3.specs.declared.Mbc3 as mbc3-state
use Rattle.mbc5.specs.Registers as mbc5
use Rattle.mbc5.specs.declared.Mbc5 as mbc5-state
use Rattle.mapper.specs.declared.Mapper.{Mapper}
use Rattle.mapper.specs.declared.Mapper.TheVariants.{NoMapper, Mbc1, Mbc2, Mbc3, Mbc5}
use Rattle.cartridge.specs.declared.Cartridge.{Cartridge}
use Rattle.states.specs.Layout.{board_of, cart_from}

-- Player 3: "a flag that the kind uses": where they stand, in the order of the kinds
abbrev pub flag_lists : List (List ℕ)
flag_lists =
    (1 ∷ [])
    ∷ (1 ∷ 2 ∷ 3 ∷ [])
    ∷ (1 ∷ 2 ∷ 3 ∷ [])
    ∷ (1 ∷ 2 ∷ [])
    ∷ (1 ∷ 2 ∷ 3 ∷ [])
    ∷ (1 ∷ 2 ∷ 3 ∷ clock_flags)
    ∷ (1 ∷ 2 ∷ [])
    ∷ []

unfoldable pub flags_of : ℕ → List ℕ
flags_of kind = get_or flag_lists kind []

abbrev pub mbc1_in : List ℕ → Bool → mbc1-state.Mbc1
mbc1_in s multicart = mbc1.mbc1 multicart (flag_at s 2) (flag_at s 3) (field_at 1 s 4) (field_at 1 s 6)

abbrev pub mbc2_in : List ℕ → mbc2-state.Mbc2
mbc2_in s = mbc2.mbc2 (flag_at s 2) (field_at 1 s 4)

abbrev pub mbc3_in : List ℕ → Bool → ℕ → Clock → mbc3-state.Mbc3
mbc3_in s timer register clock =
    mbc3.mbc3 timer (flag_at s 2) (field_at 1 s 4) (flag_at s 3) (field_at 1 s 6) register clock

-- Fit 1: "So it is, without a timer, with the clock and which of its registers is selected": they are not looked at
abbrev pub untimed_in : List ℕ → mbc3-state.Mbc3
untimed_in s = mbc3_in s false 0 (start_at 0)

abbrev pub timed_in : List ℕ → mbc3-state.Mbc3
timed_in s = mbc3_in s true (field_at 1 s 7) (clock_in s)

abbrev pub mbc5_in : List ℕ → mbc5-state.Mbc5
mbc5_in s = mbc5.mbc5 (flag_at s 2) (field_at 2 s 4) (field_at 1 s 6)

abbrev pub cart_in : List ℕ → Mapper → Cartridge
cart_in s m = cart_from m (flag_at s 1) (field_at 2 s 8) (field_at 8 s 16) (field_at 8 s 24)

-- what was mounted, as bytes of a kind with nothing else
abbrev pub cleared : List ℕ → ℕ → List ℕ
cleared s kind = stored (board_of kind (flag_at s 1) (field_at 2 s 8) (field_at 8 s 16) (field_at 8 s 24)) (replicate 64 0)

-- in the order of the kinds
abbrev pub mappers_in : List ℕ → List Mapper
mappers_in s =
    NoMapper none.start
    ∷ Mbc1 (mbc1_in s false)
    ∷ Mbc1 (mbc1_in s true)
    ∷ Mbc2 (mbc2_in s)
    ∷ Mbc3 (untimed_in s)
    ∷ Mbc3 (timed_in s)
    ∷ Mbc5 (mbc5_in s)
    ∷ []

-- the mapper of a kind; of an unknown one, none
unfoldable pub mapper_at : List ℕ → ℕ → Mapper
mapper_at s kind = get_or (mappers_in s) kind (NoMapper none.start)

abbrev pub cart_at : List ℕ → ℕ → Cartridge
cart_at s kind = cart_in s (mapper_at s kind)

-- what is not, by Player 3: "the kind is above 6, or a flag that the kind uses is neither 0 nor 1"
abbrev pub is_state : List ℕ → ℕ → Bool
is_state s kind = both (are_flags s (flags_of kind)) (ltb kind 7)

unfoldable pub decode_of : List ℕ → Option Cartridge
decode_of s = pick (is_state s (field_at 1 s 0)) (Some (cart_at s (field_at 1 s 0))) None
