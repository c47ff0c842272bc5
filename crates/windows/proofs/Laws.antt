-- What the windows' code rests on: places that fit 32 bits, and the answers by an address and by how the RAM is mapped.
use Rattle.std.specs.Prelude.{Ok, Err, Some, None, Option}
use mathlib.Core.Bool.{Bool, true, false}
use mathlib.Core.List.{List, [], ◌∷◌}
use mathlib.Core.Path.{◌≡◌, refl, sym, ap, ◌∙◌}
use Prim.Native.Nat.{ℕ, ◌+◌, ◌%◌, ◌<◌, ◌≤◌}
use native.Mathlib.Omega.{arith}
use lib.Dec.{ltb}
use lib.ListN.{get_or, set, get_or-eq_default}
use borrow.Author.Tests.{lt-ltb, le-ltb}
use Rattle.facts.specs.Choice.{pick}
use Rattle.banking.specs.Banks.{Inside, rom_place}
use Rattle.banking.proofs.Laws.{rom_inside}
use Rattle.image.specs.Image.{byte_at}
use Rattle.mapper.specs.Mappers.{area_of, bank_at}
use Rattle.mapper.specs.declared.Mapper.{Mapper}
use Rattle.mapper.proofs.Laws.{area_le}
use Rattle.window.specs.Window.{way_of, Within}
use Rattle.window.specs.declared.Way.{Way}
use Rattle.window.specs.declared.Way.TheVariants.{Bytes, Half, Timer}
use Rattle.window.proofs.Laws.{lent_within}
use Rattle.cartridge.specs.Fit.{fit_cart}
use Rattle.cartridge.specs.declared.Cartridge.{Cartridge}
use Rattle.cartridge.proofs.Laws.{fit_registers_lem, fit_banks, fit_count, fit_size}
use Rattle.access.specs.Verdict.{in_ram}
use Rattle.access.proofs.Laws.{ram_window, below_ram}
use Rattle.windows.specs.Windows.{Small, Stands, by_way, ram_at, rom_at, windows_from, windows_by}
use Rattle.windows.specs.Through.{place_in, ram_seen, rom_start, seen_of, put_by, put_of, area_by, area_after}
use Rattle.windows.specs.declared.Windows.{Windows}
use Rattle.windows.specs.declared.RamWindow.{RamWindow}
use Rattle.windows.specs.declared.Miss.TheVariants.{BadAddress, Ask}

-- ---- places of 32 bits

inside_le : (p : Option ℕ) {a b : ℕ} → a ≤ b → Inside p a → Inside p b
inside_le (Some i) h l = omega arith
inside_le None h l = tt

small : (w : Way) (size n : ℕ) → n ≤ 0x20200 → Within w size n → Small w size
small (Bytes p) size n h i = inside_le p h i
small (Half m) size n h i = omega (arith, i)
small (Timer m) size n h i = tt

pub way_small : (m : Mapper) (size addr : ℕ) {w : Way} → size ≤ 0x20000 → w ≡ way_of m size addr → Small w size
way_small m size addr {w} h e =
    small w size (area_of m size) (omega (arith, area_le m size)) (lent_within m size addr e refl)

-- the window that a way leads to
pub way_shown : (m : Mapper) (size : ℕ) {w : Way} {r : RamWindow} → w ≡ way_of m size 0xA000 → r ≡ by_way w size → r ≡ ram_at m size
unfolding ram_at
way_shown m size e h = h ∙ ap (λ (w : Way). by_way w size) e

pub rom_small : (banks bank addr : ℕ) → 0 < banks → banks ≤ 512 → rom_place banks bank addr < 0x800000
rom_small banks bank addr h l = omega (arith, rom_inside banks bank addr h)

-- the windows from the banks of the two below 0x8000 and the window of the RAM
pub parts_stand : (banks size : ℕ) (m : Mapper) {part : RamWindow} {low rom0 high romx : ℕ} → part ≡ ram_at m size
    → low ≡ bank_at m 0 → rom0 ≡ rom_place banks low 0 → high ≡ bank_at m 0x4000 → romx ≡ rom_place banks high 0x4000
    → windows_from rom0 romx part ≡ windows_by banks size m
unfolding windows_by rom_at
parts_stand banks size m p l e h f = rw (p, e, l, f, h)

pub fit_stands : (c : Cartridge) → fit_cart c ≡ true → Stands c.banks c.size c.mapper
fit_stands c e = record { some = fit_banks c e; few = fit_count c e; small = fit_size c e; fit = fit_registers_lem c e }

-- ---- a read by its address

module _ (w : Windows) (rom ram : List ℕ) (addr : ℕ) where
  by_tests : {low inside : Bool} → ltb addr 0x8000 ≡ low → in_ram addr ≡ inside
      → pick low (Ok (byte_at rom (rom_start w addr + addr % 0x4000))) (pick inside (ram_seen w ram addr) (Err BadAddress))
      ≡ seen_of w rom ram addr
  unfolding seen_of
  by_tests p q = rw (p, q)

  pub seen_rom : addr < 0x8000 → Ok (byte_at rom (rom_start w addr + addr % 0x4000)) ≡ seen_of w rom ram addr
  seen_rom h = by_tests (lt-ltb addr 0x8000 h) refl

  pub seen_ram : 0xA000 ≤ addr → addr < 0xC000 → ram_seen w ram addr ≡ seen_of w rom ram addr
  seen_ram l h = by_tests (le-ltb addr 0x8000 (omega arith)) (ram_window addr l h)

  pub seen_outside : 0x8000 ≤ addr → in_ram addr ≡ false → Err BadAddress ≡ seen_of w rom ram addr
  seen_outside l h = by_tests (le-ltb addr 0x8000 l) h

-- ---- a write by its address

module _ (w : Windows) (ram : List ℕ) (addr byte : ℕ) where
  put_tests : {low inside : Bool} → ltb addr 0x8000 ≡ low → in_ram addr ≡ inside
      → (pick low (Err Ask) (pick inside (put_by w) (Err BadAddress)) ≡ put_of w addr)
      × (pick inside (area_by w ram addr byte) ram ≡ area_after w ram addr byte)
  unfolding put_of area_after
  put_tests p q = (rw (p, q), rw q)

  pub put_low : addr < 0x8000 → ((Err Ask) ≡ put_of w addr) × (ram ≡ area_after w ram addr byte)
  put_low h = put_tests (lt-ltb addr 0x8000 h) (below_ram addr (omega arith))

  pub put_ram : 0xA000 ≤ addr → addr < 0xC000 → (put_by w ≡ put_of w addr) × (area_by w ram addr byte ≡ area_after w ram addr byte)
  put_ram l h = put_tests (le-ltb addr 0x8000 (omega arith)) (ram_window addr l h)

  pub put_outside : 0x8000 ≤ addr → in_ram addr ≡ false → ((Err BadAddress) ≡ put_of w addr) × (ram ≡ area_after w ram addr byte)
  put_outside l h = put_tests (le-ltb addr 0x8000 l) h

-- ---- the RAM window by how it is mapped

module _ (w : Windows) (ram : List ℕ) (addr byte : ℕ) where
  pub stores_none : w.how ≡ 0 → ((Ok tt) ≡ put_by w) × (ram ≡ area_by w ram addr byte)
  unfolding put_by area_by
  stores_none e = (rw e, rw e)

  pub stores_byte : {at : ℕ} {r : List ℕ} → w.how ≡ 1 → at ≡ place_in w addr → r ≡ set ram at byte
      → ((Ok tt) ≡ put_by w) × (r ≡ area_by w ram addr byte)
  unfolding put_by area_by
  stores_byte e p q = (rw e, rw (e, sym p) q)

  pub stores_half : {at b : ℕ} {r : List ℕ} → w.how ≡ 2 → at ≡ place_in w addr → b ≡ byte % 16 → r ≡ set ram at b
      → ((Ok tt) ≡ put_by w) × (r ≡ area_by w ram addr byte)
  unfolding put_by area_by
  stores_half e p s q = (rw e, rw (e, sym p, sym s) q)

  pub stores_ask : 3 ≤ w.how → ((Err Ask) ≡ put_by w) × (ram ≡ area_by w ram addr byte)
  unfolding put_by area_by
  stores_ask h = (sym (get_or-eq_default ((Ok tt) ∷ (Ok tt) ∷ (Ok tt) ∷ []) (Err Ask) h), sym (get_or-eq_default (ram ∷ set ram (place_in w addr) byte ∷ set ram (place_in w addr) (byte % 16) ∷ []) ram h))

  pub sees_ask : 3 ≤ w.how → Err Ask ≡ ram_seen w ram addr
  unfolding ram_seen
  sees_ask h =
      sym
      (get_or-eq_default
      (Ok 0xFF ∷ Ok (get_or ram (place_in w addr) 0xFF) ∷ Ok (0xF0 + get_or ram (place_in w addr) 0xFF % 16) ∷ []) (Err Ask) h)
