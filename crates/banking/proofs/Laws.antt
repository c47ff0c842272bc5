-- Mapped places are within, each from the one law on modulo banking, and what a bank that cannot be 0 is within.
use Rattle.std.specs.Prelude.{Some, None, Option}
use mathlib.Core.Bool.{Bool, true, false}
use mathlib.Core.Path.{◌≡◌, refl}
use Prim.Native.Nat.{ℕ, ◌*◌, ◌/◌, ◌%◌, ◌<◌, ◌≤◌}
use native.Mathlib.Omega.{arith}
use lib.Dec.{eqb, ltb}
use borrow.Author.Tests.{eqb-true, eqb-false, ltb-false, le-leb}
use Rattle.facts.specs.Choice.{pick}
use Rattle.facts.proofs.ChoiceLaws.{both_true}
use Rattle.facts.specs.Banking.{place_of}
use Rattle.facts.proofs.BankingLaws.{place_lt}
use Rattle.banking.specs.Banks.{or_one, from_one, rom_place, ram_place, banked_place, Inside}

pub or_one_within : (last n : ℕ) → 1 ≤ last → n ≤ last → from_one last (or_one n) ≡ true
unfolding or_one
or_one_within last n one h = go (eqb n 0) refl
  where
    go : (t : Bool) → eqb n 0 ≡ t → from_one last (pick t 1 n) ≡ true
    go true e = le-leb 1 last one
    go false e = let z = eqb-false n 0 e in both_true (le-leb 1 n (omega (arith, z))) (le-leb n last h)

pub rom_inside : (banks bank addr : ℕ) → 0 < banks → rom_place banks bank addr < banks * 0x4000
rom_inside banks bank addr pos = place_lt 0x4000 bank pos (omega arith)

pub banked_inside : (size bank addr : ℕ) → Inside (banked_place size bank addr) size
unfolding banked_place
banked_inside size bank addr = go (ltb size 0x2000) refl
  where
    go : (b : Bool) → ltb size 0x2000 ≡ b
        → Inside (pick b None (Some (place_of 0x2000 (size / 0x2000) bank (addr % 0x2000)))) size
    go true e = tt
    go false e =
        let big = ltb-false size 0x2000 e in
        omega (arith, place_lt 0x2000 bank {count = size / 0x2000} {off = addr % 0x2000} (omega arith) (omega arith))

pub ram_inside : (size bank addr : ℕ) → Inside (ram_place size bank addr) size
unfolding ram_place
ram_inside size bank addr = go (eqb size 0x800) refl
  where
    go : (b : Bool) → eqb size 0x800 ≡ b → Inside (pick b (Some (addr % 0x800)) (banked_place size bank addr)) size
    go true e = omega (arith, eqb-true size 0x800 e)
    go false e = banked_inside size bank addr

-- what is mapped only where a test holds
pub picked_inside : (b : Bool) (p : Option ℕ) (n : ℕ) → Inside p n → Inside (pick b p None) n
picked_inside true p n h = h
picked_inside false p n h = tt
