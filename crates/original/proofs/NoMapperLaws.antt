-- A cartridge with no mapper: the original's places are ours.
use mathlib.Core.Bool.{Bool, true, false}
use mathlib.Core.List.{List, [], ◌∷◌}
use mathlib.Core.Path.{◌≡◌, refl, sym, ap, ◌∙◌, subst}
use Prim.Native.Nat.{ℕ, ◌<◌, ◌≤◌}
use native.Mathlib.Omega.{arith}
use lib.Bits.{and_mask}
use lib.Dec.{eqb}
use borrow.Author.Tests.{eqb-true}
use Rattle.facts.specs.Choice.{either}
use Rattle.facts.specs.Banking.{place_of}
use Rattle.facts.specs.Listed.{one_of}
use Rattle.facts.proofs.ChoiceLaws.{false≢true}
use Rattle.banking.specs.Banks.{rom_place, ram_place, banked_place}
use Rattle.header.specs.Size.{ram_sizes}
use Rattle.original.specs.Machine.{ok}
use Rattle.original.specs.MappingResult.{mapped, Addr}
use Rattle.original.specs.NoMapper.{map_read_rom0, map_read_romx, map_ram_read, map_ram_write, write_bank_controller_register}
use Rattle.original.specs.Same.{none_of}
use Rattle.original.specs.Place.{result_of}
use Rattle.original.proofs.MachineLaws.{rom_first}

module _ (size : ℕ) where
  pub rom0_same : (banks addr : ℕ) → addr < 0x4000 → map_read_rom0 (none_of size) addr ≡ ok (rom_place banks 0 addr)
  unfolding map_read_rom0
  rom0_same banks addr h = rom_first banks addr h

  pub romx_same : (addr : ℕ) → 0x4000 ≤ addr → addr < 0x8000 → map_read_romx (none_of size) addr ≡ ok (rom_place 2 1 addr)
  unfolding map_read_romx place_of
  romx_same addr l h = ap ok (omega arith)

  pub register_same : (addr byte : ℕ) → write_bank_controller_register (none_of size) addr byte ≡ ok (none_of size)
  unfolding write_bank_controller_register
  register_same addr byte = refl

-- ---- the sizes up to 0x2000 are 0, 0x800 and 0x2000

abbrev RamSame : ℕ → ℕ → Type 0
RamSame addr size = map_ram_read (none_of size) addr ≡ ok (mapped (none_of size) (result_of (ram_place size 0 addr)))

ram_none : (addr : ℕ) → RamSame addr 0
unfolding map_ram_read ram_place banked_place
ram_none addr = refl

ram_small : (addr : ℕ) → RamSame addr 0x800
unfolding map_ram_read ram_place
ram_small addr = ap (λ (x : ℕ). ok (mapped (none_of 0x800) (Addr x))) (and_mask addr 11)

ram_bank_lem : (addr : ℕ) → RamSame addr 0x2000
unfolding map_ram_read ram_place banked_place place_of
ram_bank_lem addr = ap (λ (x : ℕ). ok (mapped (none_of 0x2000) (Addr x))) (and_mask addr 13 ∙ omega arith)

-- what holds of a number that is any entry of a list holds of one that stands in it
abbrev Each : (ℕ → Type 0) → ℕ → List ℕ → Type 0
Each P n [] = Unit {0}
Each P n (a ∷ l) = (n ≡ a → P n) × Each P n l

by_entry : (P : ℕ → Type 0) (n : ℕ) (l : List ℕ) → Each P n l → one_of n l ≡ true → P n
by_entry P n [] f e = false≢true e
by_entry P n (a ∷ l) f e = go (eqb n a) refl e (by_entry P n l f.1)
  where
    go : (t : Bool) → eqb n a ≡ t → either t (one_of n l) ≡ true → (one_of n l ≡ true → P n) → P n
    go true q r g = f.0 (eqb-true n a q)
    go false q r g = g r

pub ram_same : (size addr : ℕ) → one_of size ram_sizes ≡ true → size ≤ 0x2000 → RamSame addr size
ram_same size addr s h =
    let P = RamSame addr in
    by_entry P size ram_sizes (
      (λ e. subst P (sym e) (ram_none addr)),
      (
        (λ e. subst P (sym e) (ram_small addr)),
        (
          (λ e. subst P (sym e) (ram_bank_lem addr)),
          ((λ e. absurd (omega arith)), ((λ e. absurd (omega arith)), ((λ e. absurd (omega arith)), tt))),
        ),
      ),
    ) s

pub ram_write_same : (size addr byte : ℕ) → one_of size ram_sizes ≡ true → size ≤ 0x2000
    → map_ram_write (none_of size) addr byte ≡ ok (mapped (none_of size) (result_of (ram_place size 0 addr)))
unfolding map_ram_write
ram_write_same size addr byte = ram_same size addr
