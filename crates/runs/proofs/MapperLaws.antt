-- Writes, clocks and the start leave a mapper fit and within its limits; the clock that is in it.
use Rattle.std.specs.Prelude.{Some, None}
use mathlib.Core.Bool.{Bool, true, false, not}
use mathlib.Core.Path.{◌≡◌, refl, sym, ap, ◌∙◌}
use Prim.Native.Nat.{ℕ, ◌<◌}
use native.Mathlib.Omega.{arith}
use lib.Dec.{eqb, ltb, leb}
use borrow.Author.Tests.{eq-eqb}
use Rattle.facts.specs.Choice.{pick, both, either}
use Rattle.facts.proofs.ChoiceLaws.{false≢true, pick_has, both_true, both_right}
use Rattle.types.specs.Types.{supported_of, beyond_of}
use Rattle.types.specs.declared.Kind.{Kind}
use Rattle.types.specs.declared.Kind.TheVariants as kind
use Rattle.mbc1.specs.Registers as mbc1
use Rattle.mbc1.specs.declared.Mbc1 as declared
use Rattle.mbc1.proofs.Laws as mbc1-laws
use Rattle.mbc2.proofs.Laws as mbc2-laws
use Rattle.mbc3.specs.Registers as mbc3
use Rattle.mbc3.proofs.FitLaws as mbc3-laws
use Rattle.timer.specs.Advance as timer-specs
use Rattle.timer.proofs.FitLaws as timer-laws
use Rattle.mbc5.proofs.Laws as mbc5-laws
use Rattle.banking.specs.Banks.{from_one}
use Rattle.clock.specs.Fit.{fit_clock}
use Rattle.clock.specs.Ticking as ticking
use Rattle.clock.specs.declared.Clock.{Clock}
use Rattle.mapper.specs.Mappers.{holds, fit_registers, area_of, written, late, clocks_on}
use Rattle.mapper.specs.declared.Mapper.{Mapper}
use Rattle.mapper.specs.declared.Mapper.TheVariants.{NoMapper, Mbc1, Mbc2, Mbc3, Mbc5}
use Rattle.window.specs.Window.{mapper_by, mapper_after}
use Rattle.window.specs.declared.Way.{Way}
use Rattle.battery.specs.Battery.{clock_in, has_clock, with_clock}
use Rattle.mount.specs.Mount.{start_of}

-- ---- fit registers

pub written_fit : (m : Mapper) (addr byte : ℕ) → byte < 256 → fit_registers m ≡ true → fit_registers (written m addr byte) ≡ true
written_fit (NoMapper m) addr byte l e = e
written_fit (Mbc1 m) addr byte l e = mbc1-laws.write_fit m addr byte e
written_fit (Mbc2 m) addr byte l e = mbc2-laws.write_fit m addr byte e
written_fit (Mbc3 m) addr byte l e = mbc3-laws.write_fit m addr byte l e
written_fit (Mbc5 m) addr byte l e = mbc5-laws.write_fit m addr byte l e

pub window_fit : (m : Mapper) (size addr byte : ℕ) → byte < 256 → fit_registers m ≡ true
    → fit_registers (mapper_after m size addr byte) ≡ true
unfolding mapper_after
window_fit (NoMapper m) size addr byte l e = e
window_fit (Mbc1 m) size addr byte l e = e
window_fit (Mbc2 m) size addr byte l e = e
window_fit (Mbc3 m) size addr byte l e =
    pick_has (λ (w : Way). fit_registers (mapper_by w (Mbc3 m) byte) ≡ true) m.memory e (timer-laws.clock_write_fit m byte l e)
window_fit (Mbc5 m) size addr byte l e = e

pub clocks_fit : (m : Mapper) (n : ℕ) → fit_registers m ≡ true → fit_registers (clocks_on m n) ≡ true
clocks_fit (NoMapper m) n e = e
clocks_fit (Mbc1 m) n e = e
clocks_fit (Mbc2 m) n e = e
clocks_fit (Mbc3 m) n e = timer-laws.clocks_fit m n e
clocks_fit (Mbc5 m) n e = e

pub with_clock_fit : (m : Mapper) (c : Clock) → fit_clock c ≡ true → fit_registers m ≡ true → fit_registers (with_clock m c) ≡ true
with_clock_fit (NoMapper m) c f e = e
with_clock_fit (Mbc1 m) c f e = e
with_clock_fit (Mbc2 m) c f e = e
with_clock_fit (Mbc3 m) c f e = mbc3-laws.clock_fit m c e (λ _. f)
with_clock_fit (Mbc5 m) c f e = e

-- ---- the limits and the area

multicart_stays : (m : declared.Mbc1) (addr byte : ℕ) → (mbc1.written m addr byte).multicart ≡ m.multicart
unfolding mbc1.written
multicart_stays m addr byte =
    let P : declared.Mbc1 → Type 0 = λ x. x.multicart ≡ m.multicart in
    pick_has P (ltb addr 0x2000) refl
    (pick_has P (ltb addr 0x4000) refl (pick_has P (ltb addr 0x6000) refl (pick_has P (ltb addr 0x8000) refl refl)))

-- what a mapper's registers do not touch: its limits, and the area's length
pub record Same (m n : Mapper) : Type 0 where
  pub limits : (banks size : ℕ) → holds n banks size ≡ holds m banks size
  pub area : (size : ℕ) → area_of n size ≡ area_of m size

same : {m : Mapper} → Same m m
same = record { limits = λ banks size. refl; area = λ size. refl }

pub written_same : (m : Mapper) (addr byte : ℕ) → Same m (written m addr byte)
unfolding holds
written_same (NoMapper m) addr byte = same
written_same (Mbc1 m) addr byte =
    record {
      limits = λ banks size. ap (λ (t : Bool). both (not (ltb 128 banks)) (either (not t) (eqb banks 64))) (multicart_stays m addr byte);
      area = λ size. refl;
    }
written_same (Mbc2 m) addr byte = record { limits = λ banks size. refl; area = λ size. refl }
written_same (Mbc3 m) addr byte = record { limits = λ banks size. refl; area = λ size. refl }
written_same (Mbc5 m) addr byte = record { limits = λ banks size. refl; area = λ size. refl }

pub window_same : (m : Mapper) (size addr byte : ℕ) → Same m (mapper_after m size addr byte)
unfolding mapper_after holds
window_same (NoMapper m) size addr byte = same
window_same (Mbc1 m) size addr byte = same
window_same (Mbc2 m) size addr byte = same
window_same (Mbc3 m) size addr byte =
    pick_has (λ (w : Way). Same (Mbc3 m) (mapper_by w (Mbc3 m) byte)) m.memory same
    (record { limits = λ banks size'. refl; area = λ size'. refl })
window_same (Mbc5 m) size addr byte = same

pub clocks_same : (m : Mapper) (n : ℕ) → Same m (clocks_on m n)
unfolding holds
clocks_same (NoMapper m) n = same
clocks_same (Mbc1 m) n = same
clocks_same (Mbc2 m) n = same
clocks_same (Mbc3 m) n = record { limits = λ banks size. refl; area = λ size. refl }
clocks_same (Mbc5 m) n = same

pub with_clock_same : (m : Mapper) (c : Clock) → Same m (with_clock m c)
unfolding holds
with_clock_same (NoMapper m) c = same
with_clock_same (Mbc1 m) c = same
with_clock_same (Mbc2 m) c = same
with_clock_same (Mbc3 m) c = record { limits = λ banks size. refl; area = λ size. refl }
with_clock_same (Mbc5 m) c = same

-- ---- the start

pub start_fit : (k : Kind) (multicart : Bool) (wall : ℕ) → fit_registers (start_of k multicart wall) ≡ true
start_fit kind.NoMapper multicart wall = refl
start_fit kind.Mbc1 multicart wall = mbc1-laws.start_fit multicart
start_fit kind.Mbc2 multicart wall = mbc2-laws.start_fit
start_fit (kind.Mbc3 timer) multicart wall = mbc3-laws.start_fit timer wall
start_fit (kind.Mbc5 rumble) multicart wall = mbc5-laws.start_fit
start_fit kind.Mmm01 multicart wall = refl
start_fit kind.Mbc6 multicart wall = refl
start_fit kind.Mbc7 multicart wall = refl

-- within the kind's limits, and a multicart of 64 banks
pub start_holds : (k : Kind) (multicart : Bool) (wall banks size : ℕ) → supported_of k ≡ true → beyond_of k banks size ≡ false
    → (multicart ≡ true → banks ≡ 64) → holds (start_of k multicart wall) banks size ≡ true
unfolding holds
start_holds kind.NoMapper multicart wall banks size s b m = both_true (ap not b) refl
start_holds kind.Mbc1 true wall banks size s b m = both_true (ap not b) (eq-eqb banks 64 (m refl))
start_holds kind.Mbc1 false wall banks size s b m = both_true (ap not b) refl
start_holds kind.Mbc2 multicart wall banks size s b m = both_true (ap not b) refl
start_holds (kind.Mbc3 timer) multicart wall banks size s b m = both_true (ap not b) refl
start_holds (kind.Mbc5 rumble) multicart wall banks size s b m = both_true (ap not b) refl
start_holds kind.Mmm01 multicart wall banks size s b m = false≢true s
start_holds kind.Mbc6 multicart wall banks size s b m = false≢true s
start_holds kind.Mbc7 multicart wall banks size s b m = false≢true s

-- ---- the clock in a mapper

pub clock_fits : (m : Mapper) (k : Clock) → clock_in m ≡ Some k → fit_registers m ≡ true → fit_clock k ≡ true
unfolding mbc3.fit_registers
clock_fits (NoMapper m) k e f = let z : ◌≡◌ {A = ℕ} 0 1 = cc in absurd (omega arith)
clock_fits (Mbc1 m) k e f = let z : ◌≡◌ {A = ℕ} 0 1 = cc in absurd (omega arith)
clock_fits (Mbc2 m) k e f = let z : ◌≡◌ {A = ℕ} 0 1 = cc in absurd (omega arith)
clock_fits (Mbc3 m) k e f = go m.timer e (both_right (both (from_one 255 m.bank) (leb m.ram 3)) _ f)
  where
    go : (t : Bool) → pick t (Some m.clock) None ≡ Some k
        → either (not t) (both (leb m.register 4) (fit_clock m.clock)) ≡ true → fit_clock k ≡ true
    go true p q = let same : m.clock ≡ k = cc in ap fit_clock (sym same) ∙ both_right (leb m.register 4) (fit_clock m.clock) q
    go false p q = let z : ◌≡◌ {A = ℕ} 0 1 = cc in absurd (omega arith)
clock_fits (Mbc5 m) k e f = let z : ◌≡◌ {A = ℕ} 0 1 = cc in absurd (omega arith)

pub clock_with_lem : (m : Mapper) (w : Clock) → has_clock (clock_in m) ≡ true → clock_in (with_clock m w) ≡ Some w
clock_with_lem (NoMapper m) w e = false≢true e
clock_with_lem (Mbc1 m) w e = false≢true e
clock_with_lem (Mbc2 m) w e = false≢true e
clock_with_lem (Mbc3 m) w e = go m.timer e
  where
    go : (t : Bool) → has_clock (pick t (Some m.clock) None) ≡ true
        → pick t (Some w) None ≡ Some w
    go true p = refl
    go false p = false≢true p
clock_with_lem (Mbc5 m) w e = false≢true e

-- an advance of a mapper with a clock is the clock's
pub clock_moves : (m : Mapper) (k : Clock) (n : ℕ) → clock_in m ≡ Some k
    → (late m n ≡ ticking.late k n) × (clocks_on m n ≡ with_clock m (ticking.ticks n k))
unfolding timer-specs.clocks_on
clock_moves (NoMapper m) k n e = let z : ◌≡◌ {A = ℕ} 0 1 = cc in absurd (omega arith)
clock_moves (Mbc1 m) k n e = let z : ◌≡◌ {A = ℕ} 0 1 = cc in absurd (omega arith)
clock_moves (Mbc2 m) k n e = let z : ◌≡◌ {A = ℕ} 0 1 = cc in absurd (omega arith)
clock_moves (Mbc3 m) k n e = go m.timer e
  where
    go : (t : Bool) → pick t (Some m.clock) None ≡ Some k
        → (both t (ticking.late m.clock n) ≡ ticking.late k n)
        × (Mbc3 (pick t (mbc3.with_clock m (ticking.ticks n m.clock)) m) ≡ Mbc3 (mbc3.with_clock m (ticking.ticks n k)))
    go true p =
        let same : m.clock ≡ k = cc in (
          ap (λ (x : Clock). ticking.late x n) same,
          ap (λ (x : Clock). Mbc3 (mbc3.with_clock m (ticking.ticks n x))) same,
        )
    go false p = let z : ◌≡◌ {A = ℕ} 0 1 = cc in absurd (omega arith)
clock_moves (Mbc5 m) k n e = let z : ◌≡◌ {A = ℕ} 0 1 = cc in absurd (omega arith)

-- and without one it stands
pub no_clock_stands : (m : Mapper) (n : ℕ) → clock_in m ≡ None → (late m n ≡ false) × (clocks_on m n ≡ m)
unfolding timer-specs.clocks_on
no_clock_stands (NoMapper m) n e = (refl, refl)
no_clock_stands (Mbc1 m) n e = (refl, refl)
no_clock_stands (Mbc2 m) n e = (refl, refl)
no_clock_stands (Mbc3 m) n e = go m.timer e
  where
    go : (t : Bool) → pick t (Some m.clock) None ≡ None
        → (both t (ticking.late m.clock n) ≡ false)
        × (Mbc3 (pick t (mbc3.with_clock m (ticking.ticks n m.clock)) m) ≡ Mbc3 m)
    go true p = let z : ◌≡◌ {A = ℕ} 0 1 = cc in absurd (omega arith)
    go false p = (refl, refl)
no_clock_stands (Mbc5 m) n e = (refl, refl)

-- a clock put in twice is the second
pub with_clock_twice : (m : Mapper) (j k : Clock) → with_clock (with_clock m j) k ≡ with_clock m k
with_clock_twice (NoMapper m) j k = refl
with_clock_twice (Mbc1 m) j k = refl
with_clock_twice (Mbc2 m) j k = refl
with_clock_twice (Mbc3 m) j k = refl
with_clock_twice (Mbc5 m) j k = refl
