-- The bus does not see what `plain` takes away: a mapper and its plain one show the same, ask the same and, whatever is written and
-- however many clocks pass, stay the same but for it.
use mathlib.Core.Bool.{Bool, true, false}
use mathlib.Core.List.{List}
use mathlib.Core.Path.{◌≡◌, refl}
use Prim.Native.Nat.{ℕ, ◌-◌, ◌%◌}
use lib.Dec.{ltb, eqb}
use Rattle.facts.specs.Choice.{pick}
use Rattle.banking.specs.Banks.{or_one}
use Rattle.mbc3.specs.Registers as mbc3
use Rattle.mbc3.specs.declared.Mbc3 as mbc3-state
use Rattle.timer.specs.Advance as timer
use Rattle.timer.specs.ClockWindow as clock
use Rattle.mapper.specs.Mappers.{bank_at, written, bad_selection, late, clocks_on}
use Rattle.mapper.specs.declared.Mapper.{Mapper}
use Rattle.mapper.specs.declared.Mapper.TheVariants.{NoMapper, Mbc1, Mbc2, Mbc3, Mbc5}
use Rattle.window.specs.Window.{read_by, area_by, mapper_by, read_of, area_after, mapper_after}
use Rattle.window.specs.declared.Way.{Way}
use Rattle.states.specs.Plain.{plain_mbc3, plain_mapper}
use Rattle.states.proofs.PlainLaws.{by_timer}

-- an MBC3 without a timer, and the plain one
abbrev untimed : mbc3-state.Mbc3 → mbc3-state.Mbc3
untimed m = mbc3.mbc3 false m.enabled m.bank m.memory m.ram m.register m.clock

-- two that come to the same
abbrev Same : mbc3-state.Mbc3 → mbc3-state.Mbc3 → Type 0
Same x y = Mbc3 (plain_mbc3 x) ≡ Mbc3 (plain_mbc3 y)

-- what holds of both ways of two choices by one test holds of the choices
pick_two : {A : Type 0} (P : A → A → Type 0) (t : Bool) {a b x y : A} → P a x → P b y → P (pick t a b) (pick t x y)
pick_two P true p q = p
pick_two P false p q = q

-- ---- what it shows

-- the ROM banks,
pub bank_plain : (m : Mapper) (addr : ℕ) → bank_at (plain_mapper m) addr ≡ bank_at m addr
unfolding bank_at
bank_plain (NoMapper m) addr = refl
bank_plain (Mbc1 m) addr = refl
bank_plain (Mbc2 m) addr = refl
bank_plain (Mbc3 m) addr = by_timer (λ (x : mbc3-state.Mbc3). bank_at (Mbc3 (plain_mbc3 x)) addr ≡ bank_at (Mbc3 x) addr) m refl refl
bank_plain (Mbc5 m) addr = refl

-- the byte in the window,
pub read_plain : (m : Mapper) (size : ℕ) (ram : List ℕ) (addr : ℕ) → read_of (plain_mapper m) size ram addr ≡ read_of m size ram addr
unfolding read_of mbc3.ram_at clock.window_read
read_plain (NoMapper m) size ram addr = refl
read_plain (Mbc1 m) size ram addr = refl
read_plain (Mbc2 m) size ram addr = refl
read_plain (Mbc3 m) size ram addr =
    by_timer (λ (x : mbc3-state.Mbc3). read_of (Mbc3 (plain_mbc3 x)) size ram addr ≡ read_of (Mbc3 x) size ram addr) m refl
    (pick_two (λ (v w : Way). read_by v size ram addr ≡ read_by w size ram addr) m.memory refl refl)
read_plain (Mbc5 m) size ram addr = refl

-- and the area after a write to it.
pub area_plain : (m : Mapper) (size : ℕ) (ram : List ℕ) (addr byte : ℕ)
    → area_after (plain_mapper m) size ram addr byte ≡ area_after m size ram addr byte
unfolding area_after mbc3.ram_at
area_plain (NoMapper m) size ram addr byte = refl
area_plain (Mbc1 m) size ram addr byte = refl
area_plain (Mbc2 m) size ram addr byte = refl
area_plain (Mbc3 m) size ram addr byte =
    by_timer (λ (x : mbc3-state.Mbc3). area_after (Mbc3 (plain_mbc3 x)) size ram addr byte ≡ area_after (Mbc3 x) size ram addr byte) m
    refl
    (pick_two (λ (v w : Way). area_by v size ram addr byte ≡ area_by w size ram addr byte) m.memory refl refl)
area_plain (Mbc5 m) size ram addr byte = refl

-- ---- what it asks

-- the selections that are refused,
pub selection_plain : (m : Mapper) (addr byte : ℕ) → bad_selection (plain_mapper m) addr byte ≡ bad_selection m addr byte
selection_plain (NoMapper m) addr byte = refl
selection_plain (Mbc1 m) addr byte = refl
selection_plain (Mbc2 m) addr byte = refl
selection_plain (Mbc3 m) addr byte = refl
selection_plain (Mbc5 m) addr byte = refl

-- and the advances that are too late.
pub late_plain : (m : Mapper) (n : ℕ) → late (plain_mapper m) n ≡ late m n
late_plain (NoMapper m) n = refl
late_plain (Mbc1 m) n = refl
late_plain (Mbc2 m) n = refl
late_plain (Mbc3 m) n = by_timer (λ (x : mbc3-state.Mbc3). late (Mbc3 (plain_mbc3 x)) n ≡ late (Mbc3 x) n) m refl refl
late_plain (Mbc5 m) n = refl

-- ---- what becomes of it

-- a write to an MBC3's registers, by the tests of address and byte
abbrev by_tests_lem : mbc3-state.Mbc3 → ℕ → Bool → Bool → Bool → Bool → Bool → Bool → mbc3-state.Mbc3
by_tests_lem m byte enable bank select ram timed latch =
    pick enable (mbc3.mbc3 m.timer (eqb (byte % 16) 0xA) m.bank m.memory m.ram m.register m.clock)
    (pick bank (mbc3.mbc3 m.timer m.enabled (or_one byte) m.memory m.ram m.register m.clock)
    (pick select
    (pick ram (mbc3.mbc3 m.timer m.enabled m.bank true (byte % 16) m.register m.clock)
    (pick timed (mbc3.mbc3 m.timer m.enabled m.bank false m.ram (byte % 16 - 8) m.clock) m))
    (pick latch (mbc3.latched m byte) m)))

written_untimed : (m : mbc3-state.Mbc3) (byte : ℕ) (enable bank select ram timed latch : Bool)
    → Same (by_tests_lem (plain_mbc3 (untimed m)) byte enable bank select ram timed latch)
    (by_tests_lem (untimed m) byte enable bank select ram timed latch)
unfolding mbc3.latched
written_untimed m byte true bank select ram timed latch = refl
written_untimed m byte false true select ram timed latch = refl
written_untimed m byte false false true true timed latch = refl
written_untimed m byte false false true false true latch = refl
written_untimed m byte false false true false false latch = refl
written_untimed m byte false false false ram timed true = refl
written_untimed m byte false false false ram timed false = refl

-- after a write to its registers,
pub written_plain : (m : Mapper) (addr byte : ℕ)
    → plain_mapper (written (plain_mapper m) addr byte) ≡ plain_mapper (written m addr byte)
unfolding mbc3.written mbc3.selected mbc3.latched
written_plain (NoMapper m) addr byte = refl
written_plain (Mbc1 m) addr byte = refl
written_plain (Mbc2 m) addr byte = refl
written_plain (Mbc3 m) addr byte =
    by_timer (λ (x : mbc3-state.Mbc3). Same (mbc3.written (plain_mbc3 x) addr byte) (mbc3.written x addr byte)) m refl
    (written_untimed m byte (ltb addr 0x2000) (ltb addr 0x4000) (ltb addr 0x6000) (mbc3.for_ram byte) (mbc3.for_clock byte) (ltb addr 0x8000))
written_plain (Mbc5 m) addr byte = refl

-- after a write to the window,
pub after_plain : (m : Mapper) (size addr byte : ℕ)
    → plain_mapper (mapper_after (plain_mapper m) size addr byte) ≡ plain_mapper (mapper_after m size addr byte)
unfolding mapper_after mbc3.ram_at clock.window_written
after_plain (NoMapper m) size addr byte = refl
after_plain (Mbc1 m) size addr byte = refl
after_plain (Mbc2 m) size addr byte = refl
after_plain (Mbc3 m) size addr byte =
    by_timer
    (λ (x : mbc3-state.Mbc3). plain_mapper (mapper_after (Mbc3 (plain_mbc3 x)) size addr byte)
    ≡ plain_mapper (mapper_after (Mbc3 x) size addr byte))
    m
    refl
    (pick_two
    (λ (v w : Way). plain_mapper (mapper_by v (Mbc3 (plain_mbc3 (untimed m))) byte) ≡ plain_mapper (mapper_by w (Mbc3 (untimed m)) byte))
    m.memory
    refl
    refl)
after_plain (Mbc5 m) size addr byte = refl

-- and after clocks.
pub clocks_plain : (m : Mapper) (n : ℕ) → plain_mapper (clocks_on (plain_mapper m) n) ≡ plain_mapper (clocks_on m n)
unfolding timer.clocks_on
clocks_plain (NoMapper m) n = refl
clocks_plain (Mbc1 m) n = refl
clocks_plain (Mbc2 m) n = refl
clocks_plain (Mbc3 m) n =
    by_timer (λ (x : mbc3-state.Mbc3). Same (timer.clocks_on (plain_mbc3 x) n) (timer.clocks_on x n)) m refl refl
clocks_plain (Mbc5 m) n = refl
