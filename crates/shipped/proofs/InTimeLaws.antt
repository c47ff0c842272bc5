-- No call takes a clock's time past 64 bits: writes leave it, an advance and a load are refused before.
use Rattle.std.specs.Prelude.{Option}
use mathlib.Core.Bool.{Bool, true, false}
use mathlib.Core.Path.{◌≡◌, refl}
use Prim.Native.Nat.{ℕ, ◌<◌, ◌^◌}
use native.Mathlib.Omega.{arith}
use lib.Dec.{ltb}
use borrow.Author.Tests.{ltb-false}
use Rattle.facts.specs.Choice.{pick, both}
use Rattle.facts.proofs.ChoiceLaws.{pick_has}
use Rattle.clock.specs.Access.{latched_of, written_of}
use Rattle.clock.specs.Ticking as clock
use Rattle.clock.specs.Ticking.{ticks}
use Rattle.clock.specs.declared.Clock.{Clock}
use Rattle.clock_block.specs.Waking.{woken_of}
use Rattle.clock_block.specs.Waking as block
use Rattle.clock_block.specs.declared.Block.{Block}
use Rattle.types.specs.declared.Kind.{Kind}
use Rattle.types.specs.declared.Kind.TheVariants as kind
use Rattle.mbc3.specs.Registers as mbc3
use Rattle.mbc3.specs.declared.Mbc3 as declared
use Rattle.timer.specs.Advance as timer
use Rattle.timer.specs.ClockWindow.{on_clock, clock_or, window_written}
use Rattle.mapper.specs.Mappers as mapper
use Rattle.mapper.specs.declared.Mapper.{Mapper}
use Rattle.mapper.specs.declared.Mapper.TheVariants.{NoMapper, Mbc1, Mbc2, Mbc3, Mbc5}
use Rattle.battery.specs.Battery.{with_clock}
use Rattle.window.specs.Window as window
use Rattle.window.specs.declared.Way.TheVariants.{Bytes, Timer}
use Rattle.cartridge.specs.Fit.{InTime}
use Rattle.mount.specs.Mount as mount
use Rattle.states.specs.Plain.{plain_mapper}

-- of an MBC3: where there is a timer, its time has 64 bits
abbrev Timed : declared.Mbc3 → Type 0
Timed m = m.timer ≡ true → m.clock.time < 2 ^ 64

pub start_in_time : (k : Kind) (multicart : Bool) (wall : ℕ) → wall < 2 ^ 64 → InTime (mount.start_of k multicart wall)
start_in_time kind.NoMapper multicart wall h = tt
start_in_time kind.Mbc1 multicart wall h = tt
start_in_time kind.Mbc2 multicart wall h = tt
start_in_time (kind.Mbc3 timer) multicart wall h = λ e. h
start_in_time (kind.Mbc5 rumble) multicart wall h = tt
start_in_time kind.Mmm01 multicart wall h = tt
start_in_time kind.Mbc6 multicart wall h = tt
start_in_time kind.Mbc7 multicart wall h = tt

pub plain_in_time : (m : Mapper) → InTime m → InTime (plain_mapper m)
plain_in_time (NoMapper m) h = h
plain_in_time (Mbc1 m) h = h
plain_in_time (Mbc2 m) h = h
plain_in_time (Mbc3 m) h = pick_has Timed m.timer h (λ e. omega arith)
plain_in_time (Mbc5 m) h = h

pub written_in_time : (m : Mapper) (addr byte : ℕ) → InTime m → InTime (mapper.written m addr byte)
unfolding mbc3.written mbc3.selected mbc3.latched latched_of
written_in_time (NoMapper m) addr byte h = h
written_in_time (Mbc1 m) addr byte h = h
written_in_time (Mbc2 m) addr byte h = h
written_in_time (Mbc3 m) addr byte h =
    pick_has Timed (ltb addr 0x2000) h
    (pick_has Timed (ltb addr 0x4000) h
    (pick_has Timed (ltb addr 0x6000) (pick_has Timed (mbc3.for_ram byte) h (pick_has Timed (mbc3.for_clock byte) h h))
    (pick_has Timed (ltb addr 0x8000) (pick_has Timed m.timer h h) h)))
written_in_time (Mbc5 m) addr byte h = h

clock_or_in_time : (m : declared.Mbc3) (n byte : ℕ) → Timed m → Timed (clock_or m (written_of m.clock n byte))
unfolding written_of
clock_or_in_time m n byte h = pick_has (λ (w : Option Clock). Timed (clock_or m w)) (ltb n 5) h h

selected_in_time : (b : Bool) (m : declared.Mbc3) (p : Option ℕ) (byte : ℕ) → Timed m
    → InTime (window.mapper_by (pick b (Bytes p) (Timer m)) (Mbc3 m) byte)
unfolding window_written
selected_in_time true m p byte h = h
selected_in_time false m p byte h = pick_has Timed (on_clock m) (clock_or_in_time m m.register byte h) h

pub after_in_time : (m : Mapper) (size addr byte : ℕ) → InTime m → InTime (window.mapper_after m size addr byte)
unfolding window.mapper_after
after_in_time (NoMapper m) size addr byte h = h
after_in_time (Mbc1 m) size addr byte h = h
after_in_time (Mbc2 m) size addr byte h = h
after_in_time (Mbc3 m) size addr byte h = selected_in_time m.memory m (mbc3.ram_at m size addr) byte h
after_in_time (Mbc5 m) size addr byte h = h

ticked_in_time : (b : Bool) (m : declared.Mbc3) (n : ℕ) → both b (clock.late m.clock n) ≡ false → Timed m → m.timer ≡ b
    → Timed (pick b (mbc3.with_clock m (ticks n m.clock)) m)
ticked_in_time true m n e h t =
    λ q. let l = ltb-false 18446744073709551615 (ticks n m.clock).time e in omega arith
ticked_in_time false m n e h t = h

pub clocks_in_time : (m : Mapper) (n : ℕ) → mapper.late m n ≡ false → InTime m → InTime (mapper.clocks_on m n)
unfolding timer.clocks_on
clocks_in_time (NoMapper m) n e h = h
clocks_in_time (Mbc1 m) n e h = h
clocks_in_time (Mbc2 m) n e h = h
clocks_in_time (Mbc3 m) n e h = ticked_in_time m.timer m n e h refl
clocks_in_time (Mbc5 m) n e h = h

pub woken_in_time : (m : Mapper) (b : Block) (wall : ℕ) → block.late b wall ≡ false → InTime (with_clock m (woken_of b wall))
unfolding woken_of
woken_in_time (NoMapper m) b wall e = tt
woken_in_time (Mbc1 m) b wall e = tt
woken_in_time (Mbc2 m) b wall e = tt
woken_in_time (Mbc3 m) b wall e = λ q. let l = ltb-false 18446744073709551615 (block.time_of b wall) e in omega arith
woken_in_time (Mbc5 m) b wall e = tt
