-- What fit registers are bounded by, what their banks are, and that writes keep them fit.
use mathlib.Core.Bool.{Bool, true, false}
use mathlib.Core.Path.{◌≡◌, refl, sym, ap, ◌∙◌}
use Prim.Native.Nat.{ℕ, ◌+◌, ◌*◌, ◌%◌, ◌^◌, ◌<◌, ◌≤◌}
use native.Mathlib.Omega.{arith}
use lib.Bits.{bit_or}
use lib.Dec.{leb, ltb}
use borrow.Author.Tests.{leb-true, le-leb}
use Rattle.facts.specs.Choice.{pick, both}
use Rattle.facts.proofs.ChoiceLaws.{both_parts, both_true, pick_has}
use Rattle.facts.proofs.BitLaws.{join_above}
use Rattle.banking.specs.Banks.{or_one, from_one, ram_place, Inside}
use Rattle.banking.proofs.Laws.{or_one_within, ram_inside, picked_inside}
use Rattle.mbc1.specs.Registers.{start, low_of, written, two_at, bank_x, ram_bank, ram_at, fit_registers}
use Rattle.mbc1.specs.declared.Mbc1.{Mbc1}

-- ---- the bounds of fit registers

-- the low register below 16 on a multicart, else below 32
abbrev pub low_bits : Bool → ℕ
low_bits true = 4
low_bits false = 5

pub record Fit (m : Mbc1) : Type 0 where
  pub two : m.two < 2 ^ 2
  pub low : m.low < 2 ^ low_bits m.multicart

low_bound : (b : Bool) (n : ℕ) → pick b (leb n 15) (from_one 31 n) ≡ true → n < 2 ^ low_bits b
low_bound true n e = let h = leb-true n 15 e in omega arith
low_bound false n e = let h = leb-true n 31 (both_parts (leb 1 n) (leb n 31) e).1 in omega arith

pub fit_bounds : (m : Mbc1) → fit_registers m ≡ true → Fit m
unfolding fit_registers
fit_bounds m e =
    let p = both_parts (leb m.two 3) _ e in
    let h = leb-true m.two 3 p.0 in
    record { two = omega arith; low = low_bound m.multicart m.low p.1 }

-- ---- the banks: two registers joined by or are a sum

-- the two-bit register's place: bit 4 on a multicart, else bit 5
place_of : (m : Mbc1) (b : Bool) → m.multicart ≡ b → two_at m ≡ m.two * 2 ^ low_bits b
unfolding two_at
place_of m true q = rw q
place_of m false q = rw q

pub two_shifted : (m : Mbc1) (b : Bool) → fit_registers m ≡ true → m.multicart ≡ b → m.two * 2 ^ low_bits b % 256 ≡ two_at m
two_shifted m true e q = let t = (fit_bounds m e).two in omega (arith, place_of m true q)
two_shifted m false e q = let t = (fit_bounds m e).two in omega (arith, place_of m false q)

pub two_joined : (m : Mbc1) (b : Bool) → fit_registers m ≡ true → m.multicart ≡ b
    → bit_or m.low (m.two * 2 ^ low_bits b % 256) ≡ bank_x m
unfolding bank_x
two_joined m b e q =
    let f = fit_bounds m e in
    let l : m.low < 2 ^ low_bits b = rw q at f.low in
    join_above 2 (low_bits b) 8 f.two l (bits_fit b) ∙ ap (λ (x : ℕ). x + m.low) (sym (place_of m b q))
  where
    bits_fit : (b : Bool) → 2 + low_bits b ≤ 8
    bits_fit true = omega arith
    bits_fit false = omega arith

pub bank_lt : (m : Mbc1) → fit_registers m ≡ true → bank_x m < 128
unfolding bank_x
bank_lt m e = go m.multicart refl
  where
    go : (b : Bool) → m.multicart ≡ b → two_at m + m.low < 128
    go b q =
        let f = fit_bounds m e in
        let l : m.low < 2 ^ low_bits b = rw q at f.low in
        small b (place_of m b q) l
      where
        small : (b : Bool) → two_at m ≡ m.two * 2 ^ low_bits b → m.low < 2 ^ low_bits b → two_at m + m.low < 128
        small true p l = let t = (fit_bounds m e).two in omega arith
        small false p l = let t = (fit_bounds m e).two in omega arith

-- ---- mapped RAM is within the area

pub ram_at_inside : (m : Mbc1) (size addr : ℕ) → Inside (ram_at m size addr) size
unfolding ram_at
ram_at_inside m size addr = picked_inside m.enabled (ram_place size (ram_bank m) addr) size (ram_inside size (ram_bank m) addr)

-- ---- a register write keeps fit registers fit

low_fit : (b : Bool) (byte : ℕ)
    → pick b (leb (low_of b byte) 15) (from_one 31 (low_of b byte)) ≡ true
unfolding low_of
low_fit true byte = le-leb (or_one (byte % 32) % 16) 15 (omega arith)
low_fit false byte = or_one_within 31 (byte % 32) (omega arith) (omega arith)

pub write_fit : (m : Mbc1) (addr byte : ℕ) → fit_registers m ≡ true → fit_registers (written m addr byte) ≡ true
unfolding written fit_registers
write_fit m addr byte fit =
    let P : Mbc1 → Type 0 = λ x. fit_registers x ≡ true in
    let p = both_parts (leb m.two 3) _ fit in
    pick_has P (ltb addr 0x2000) fit
    (pick_has P (ltb addr 0x4000) (both_true p.0 (low_fit m.multicart byte))
    (pick_has P (ltb addr 0x6000) (both_true (le-leb (byte % 4) 3 (omega arith)) p.1)
    (pick_has P (ltb addr 0x8000) fit fit)))

pub start_fit : (b : Bool) → fit_registers (start b) ≡ true
unfolding fit_registers
start_fit true = refl
start_fit false = refl

-- the fitness test, as the code makes it
pub fit_tested : (m : Mbc1) (b : Bool) {r x : Bool} → m.multicart ≡ b
    → x ≡ pick b (leb m.low 15) (from_one 31 m.low) → r ≡ both (leb m.two 3) x → r ≡ fit_registers m
unfolding fit_registers
fit_tested m b q p e =
    e
    ∙ ap (both (leb m.two 3))
    (p ∙ ap (λ (t : Bool). pick t (leb m.low 15) (from_one 31 m.low)) (sym q))
