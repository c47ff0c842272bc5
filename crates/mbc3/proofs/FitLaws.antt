-- Mapped RAM is within the area, and register writes, another fit clock and the start give fit registers.
use mathlib.Core.Bool.{Bool, true, not}
use mathlib.Core.Path.{◌≡◌, ap, ◌∙◌}
use Prim.Native.Nat.{ℕ, ◌-◌, ◌%◌, ◌<◌}
use native.Mathlib.Omega.{arith}
use lib.Dec.{leb, ltb}
use borrow.Author.Tests.{le-leb, leb-true}
use Rattle.facts.specs.Choice.{both, either}
use Rattle.facts.proofs.ChoiceLaws.{both_parts, both_true, both_right, either_map, either_true, pick_has, pick_cases}
use Rattle.banking.specs.Banks.{from_one, banked_place, Inside}
use Rattle.banking.proofs.Laws.{or_one_within, banked_inside, picked_inside}
use Rattle.clock.specs.Access.{latched_of}
use Rattle.clock.specs.Fit.{fit_clock}
use Rattle.clock.proofs.KeptLaws as kept
use Rattle.clock.specs.declared.Clock.{Clock}
use Rattle.mbc3.specs.Registers.{start, for_ram, for_clock, selected, with_clock, latched, written, ram_at, fit_registers}
use Rattle.mbc3.specs.declared.Mbc3.{Mbc3}

pub ram_at_inside : (m : Mbc3) (size addr : ℕ) → Inside (ram_at m size addr) size
unfolding ram_at
ram_at_inside m size addr =
    picked_inside (both m.enabled m.memory) (banked_place size m.ram addr) size (banked_inside size m.ram addr)

-- ---- what fit registers are

abbrev timed : Mbc3 → Bool
timed m = both (leb m.register 4) (fit_clock m.clock)

record Fit (m : Mbc3) : Type 0 where
  bank : from_one 255 m.bank ≡ true
  ram : leb m.ram 3 ≡ true
  clock : either (not m.timer) (timed m) ≡ true

parts : (m : Mbc3) → fit_registers m ≡ true → Fit m
unfolding fit_registers
parts m e =
    let p = both_parts (both (from_one 255 m.bank) (leb m.ram 3)) _ e in
    let q = both_parts (from_one 255 m.bank) (leb m.ram 3) p.0 in
    record { bank = q.0; ram = q.1; clock = p.1 }

-- ---- writes keep them

select_fit : (m : Mbc3) (byte : ℕ) → fit_registers m ≡ true → fit_registers (selected m byte) ≡ true
unfolding selected fit_registers
select_fit m byte fit =
    let P : Mbc3 → Type 0 = λ x. fit_registers x ≡ true in
    let f = parts m fit in
    pick_cases P (for_ram byte) (λ t. both_true (both_true f.bank t) f.clock)
    (λ _. pick_cases P (for_clock byte) (λ t. both_true (both_true f.bank f.ram) (either_map (not m.timer) (low t) f.clock))
    (λ _. fit))
  where
    low : for_clock byte ≡ true → timed m ≡ true → both (leb (byte % 16 - 8) 4) (fit_clock m.clock) ≡ true
    low t e =
        let h = leb-true (byte % 16) 12 (both_right (leb 8 (byte % 16)) _ t) in
        both_true (le-leb (byte % 16 - 8) 4 (omega arith)) (both_right (leb m.register 4) _ e)

-- a clock that is fit where the old one was
pub clock_fit : (m : Mbc3) (c : Clock) → fit_registers m ≡ true → (fit_clock m.clock ≡ true → fit_clock c ≡ true)
    → fit_registers (with_clock m c) ≡ true
unfolding fit_registers
clock_fit m c fit kept =
    let f = parts m fit in both_true (both_true f.bank f.ram) (either_map (not m.timer) next f.clock)
  where
    next : timed m ≡ true → both (leb m.register 4) (fit_clock c) ≡ true
    next e = let p = both_parts (leb m.register 4) (fit_clock m.clock) e in both_true p.0 (kept p.1)

latch_fit : (m : Mbc3) (byte : ℕ) → fit_registers m ≡ true → fit_registers (latched m byte) ≡ true
unfolding latched
latch_fit m byte fit =
    pick_has (λ (x : Mbc3). fit_registers x ≡ true) m.timer
    (clock_fit m (latched_of m.clock byte) fit (kept.latch_fit m.clock byte)) fit

pub write_fit : (m : Mbc3) (addr byte : ℕ) → byte < 256 → fit_registers m ≡ true → fit_registers (written m addr byte) ≡ true
unfolding written fit_registers
write_fit m addr byte l fit =
    let P : Mbc3 → Type 0 = λ x. fit_registers x ≡ true in
    let f = parts m fit in
    pick_has P (ltb addr 0x2000) fit
    (pick_has P (ltb addr 0x4000) (both_true (both_true (or_one_within 255 byte (omega arith) (omega arith)) f.ram) f.clock)
    (pick_has P (ltb addr 0x6000) (select_fit m byte fit) (pick_has P (ltb addr 0x8000) (latch_fit m byte fit) fit)))

pub start_fit : (timer : Bool) (wall : ℕ) → fit_registers (start timer wall) ≡ true
unfolding fit_registers
start_fit timer wall = ap (either (not timer)) (kept.start_fit wall) ∙ either_true (not timer)
