-- From the first address of the RAM window to any other: the place moves by the address bits of the mask.
use Rattle.std.specs.Prelude.{Ok, Err, Some, None, Option}
use mathlib.Core.Bool.{Bool, true, false}
use mathlib.Core.List.{List, ◌++◌}
use mathlib.Core.Path.{◌≡◌, refl, sym, ap, ◌∙◌}
use Prim.Native.Nat.{ℕ, ◌+◌, ◌/◌, ◌%◌, ◌≤◌}
use native.Mathlib.Omega.{arith}
use lib.Bits.{bit_and, and_mask}
use lib.Dec.{ltb, eqb}
use lib.ListN.{length, get_or, set, take, drop, take-append-drop}
use lib.Seq.{get_or-drop}
use borrow.Author.Tests.{ltb-false, ne_eqb}
use Rattle.facts.specs.Choice.{pick, both}
use Rattle.facts.specs.Banking.{place_of}
use Rattle.facts.proofs.ListLaws.{other_default, part_set}
use Rattle.banking.specs.Banks.{banked_place, ram_place}
use Rattle.mbc1.specs.Registers as mbc1
use Rattle.mbc2.specs.Registers as mbc2
use Rattle.mbc2.specs.declared.Mbc2 as declared
use Rattle.mbc3.specs.Registers as mbc3
use Rattle.clock.specs.Access.{written_of}
use Rattle.timer.specs.ClockWindow.{on_clock, window_read, clock_or, window_written}
use Rattle.mbc3.specs.declared.Mbc3 as state
use Rattle.mbc5.specs.Registers as mbc5
use Rattle.mapper.specs.declared.Mapper.{Mapper}
use Rattle.mapper.specs.declared.Mapper.TheVariants.{NoMapper, Mbc1, Mbc2, Mbc3, Mbc5}
use Rattle.window.specs.Window as window
use Rattle.window.specs.Window.{way_of, Within}
use Rattle.window.specs.declared.Way.{Way}
use Rattle.window.specs.declared.Way.TheVariants.{Bytes, Half, Timer}
use Rattle.windows.specs.Windows.{mask_of, by_way, asks_by}
use Rattle.windows.specs.Through.{ram_seen, put_by, area_by}
use Rattle.windows.specs.declared.Windows.{Windows}
use Rattle.windows.specs.declared.Miss.TheVariants.{Ask}

-- ---- a place

abbrev pub moved_place : Option ℕ → ℕ → ℕ → Option ℕ
moved_place (Some i) size addr = Some (i + bit_and addr (mask_of size))
moved_place None size addr = None

place_from_0 : (count bank off : ℕ) → place_of 0x2000 count bank off ≡ place_of 0x2000 count bank 0 + off
unfolding place_of
place_from_0 count bank off = omega arith

bank_mask : (size addr : ℕ) → 0x2000 ≤ size → bit_and addr (mask_of size) ≡ addr % 0x2000
bank_mask size addr h = rw (ne_eqb size 0x800 (λ e. omega arith)) (and_mask addr 13)

pub banked_moves : (size bank addr : ℕ) → banked_place size bank addr ≡ moved_place (banked_place size bank 0xA000) size addr
unfolding banked_place
banked_moves size bank addr = go (ltb size 0x2000) refl
  where
    go : (t : Bool) → ltb size 0x2000 ≡ t
        → pick t None (Some (place_of 0x2000 (size / 0x2000) bank (addr % 0x2000)))
        ≡ moved_place (pick t None (Some (place_of 0x2000 (size / 0x2000) bank 0))) size addr
    go true e = refl
    go false e =
        ap Some
        (place_from_0 (size / 0x2000) bank (addr % 0x2000)
        ∙ ap (λ (k : ℕ). place_of 0x2000 (size / 0x2000) bank 0 + k) (sym (bank_mask size addr (ltb-false size 0x2000 e))))

pub ram_moves : (size bank addr : ℕ) → ram_place size bank addr ≡ moved_place (ram_place size bank 0xA000) size addr
unfolding ram_place
ram_moves size bank addr = go (eqb size 0x800) refl
  where
    go : (t : Bool) → eqb size 0x800 ≡ t
        → pick t (Some (addr % 0x800)) (banked_place size bank addr)
        ≡ moved_place (pick t (Some 0) (banked_place size bank 0xA000)) size addr
    go true e =
        let mask : bit_and addr (mask_of size) ≡ addr % 0x800
        = ap (λ (b : Bool). bit_and addr (pick b 0x7FF 0x1FFF)) e ∙ and_mask addr 11 in
        ap Some (omega (arith, mask))
    go false e = banked_moves size bank addr

picked_moves : (b : Bool) (p q : Option ℕ) (size addr : ℕ) → p ≡ moved_place q size addr
    → pick b p None ≡ moved_place (pick b q None) size addr
picked_moves true p q size addr e = e
picked_moves false p q size addr e = refl

-- ---- a way

abbrev pub moved_way : Way → ℕ → ℕ → Way
moved_way (Bytes p) size addr = Bytes (moved_place p size addr)
moved_way (Half m) size addr = Half m
moved_way (Timer m) size addr = Timer m

selected_moves : (b : Bool) (m : state.Mbc3) (p q : Option ℕ) (size addr : ℕ) → p ≡ moved_place q size addr
    → pick b (Bytes p) (Timer m) ≡ moved_way (pick b (Bytes q) (Timer m)) size addr
selected_moves true m p q size addr e = ap Bytes e
selected_moves false m p q size addr e = refl

pub way_moves : (m : Mapper) (size addr : ℕ) → way_of m size addr ≡ moved_way (way_of m size 0xA000) size addr
unfolding mbc1.ram_at mbc3.ram_at mbc5.ram_at
way_moves (NoMapper m) size addr = ap Bytes (ram_moves size 0 addr)
way_moves (Mbc1 m) size addr =
    let b = mbc1.ram_bank m in
    ap Bytes (picked_moves m.enabled (ram_place size b addr) (ram_place size b 0xA000) size addr (ram_moves size b addr))
way_moves (Mbc2 m) size addr = refl
way_moves (Mbc3 m) size addr =
    let b = m.ram in
    selected_moves m.memory m (mbc3.ram_at m size addr) (mbc3.ram_at m size 0xA000) size addr
    (picked_moves (both m.enabled m.memory) (banked_place size b addr) (banked_place size b 0xA000) size addr
    (banked_moves size b addr))
way_moves (Mbc5 m) size addr =
    let b = m.ram in
    ap Bytes (picked_moves m.enabled (ram_place size b addr) (ram_place size b 0xA000) size addr (ram_moves size b addr))

-- ---- a read

abbrev pub through : ℕ → ℕ → Way → ℕ → Windows
through rom0 romx w size =
    record { rom0 = rom0; romx = romx; ram = (by_way w size).ram; mask = (by_way w size).mask; how = (by_way w size).how }

half_seen : (m : declared.Mbc2) (rom0 romx size addr : ℕ) (ram : List ℕ) → length ram ≡ size + 512
    → ram_seen (through rom0 romx (Half m) size) ram addr ≡ Ok (mbc2.half_read m (drop size ram) addr)
unfolding ram_seen mbc2.half_read
half_seen m rom0 romx size addr ram l = go m.enabled refl
  where
    same : get_or ram (size + bit_and addr 0x1FF) 0xFF ≡ get_or (drop size ram) (addr % 512) 0
    same =
        ap (λ (k : ℕ). get_or ram (size + k) 0xFF) (and_mask addr 9)
        ∙ other_default ram (size + addr % 512) 0xFF 0 (omega (arith, l))
        ∙ sym (get_or-drop size ram (addr % 512) 0)

    go : (b : Bool) → m.enabled ≡ b
        → ram_seen (through rom0 romx (Half m) size) ram addr ≡ Ok (mbc2.half_read m (drop size ram) addr)
    go true e = rw e (ap (λ (x : ℕ). Ok (0xF0 + x % 16)) same)
    go false e = rw e

timer_seen : (m : state.Mbc3) (rom0 romx size addr : ℕ) (ram : List ℕ)
    → ram_seen (through rom0 romx (Timer m) size) ram addr ≡ pick (on_clock m) (Err Ask) (Ok (window_read m))
unfolding ram_seen window_read
timer_seen m rom0 romx size addr ram = go (on_clock m) refl
  where
    go : (b : Bool) → on_clock m ≡ b
        → ram_seen (through rom0 romx (Timer m) size) ram addr ≡ pick (on_clock m) (Err Ask) (Ok (window_read m))
    go true e = rw e
    go false e = rw e

pub way_seen : (w : Way) (rom0 romx size addr : ℕ) (ram : List ℕ) → Within (moved_way w size addr) size (length ram)
    → ram_seen (through rom0 romx w size) ram addr ≡ pick (asks_by w) (Err Ask) (Ok (window.read_by (moved_way w size addr) size ram addr))
unfolding ram_seen
way_seen (Bytes (Some i)) rom0 romx size addr ram h = ap Ok (other_default ram (i + bit_and addr (mask_of size)) 0xFF 0 h)
way_seen (Bytes None) rom0 romx size addr ram h = refl
way_seen (Half m) rom0 romx size addr ram h = half_seen m rom0 romx size addr ram h
way_seen (Timer m) rom0 romx size addr ram h = timer_seen m rom0 romx size addr ram

-- ---- a write

half_stored : (m : declared.Mbc2) (rom0 romx size addr byte : ℕ) (ram : List ℕ)
    → area_by (through rom0 romx (Half m) size) ram addr byte ≡ take size ram ++ mbc2.half_after m (drop size ram) addr byte
unfolding area_by mbc2.half_after
half_stored m rom0 romx size addr byte ram = go m.enabled refl
  where
    go : (b : Bool) → m.enabled ≡ b
        → area_by (through rom0 romx (Half m) size) ram addr byte ≡ take size ram ++ mbc2.half_after m (drop size ram) addr byte
    go true e =
        rw e
        (ap (λ (k : ℕ). set ram (size + k) (byte % 16)) (and_mask addr 9) ∙ sym (part_set size ram (addr % 512) (byte % 16)))
    go false e = rw e (sym (take-append-drop size ram))

timer_stored : (m : state.Mbc3) (rom0 romx size addr byte : ℕ) (ram : List ℕ)
    → area_by (through rom0 romx (Timer m) size) ram addr byte ≡ ram
unfolding area_by
timer_stored m rom0 romx size addr byte ram = go (on_clock m) refl
  where
    go : (b : Bool) → on_clock m ≡ b → area_by (through rom0 romx (Timer m) size) ram addr byte ≡ ram
    go true e = rw e
    go false e = rw e

pub way_stored : (w : Way) (rom0 romx size addr byte : ℕ) (ram : List ℕ)
    → area_by (through rom0 romx w size) ram addr byte ≡ window.area_by (moved_way w size addr) size ram addr byte
unfolding area_by
way_stored (Bytes (Some i)) rom0 romx size addr byte ram = refl
way_stored (Bytes None) rom0 romx size addr byte ram = refl
way_stored (Half m) rom0 romx size addr byte ram = half_stored m rom0 romx size addr byte ram
way_stored (Timer m) rom0 romx size addr byte ram = timer_stored m rom0 romx size addr byte ram

pub way_put : (w : Way) (rom0 romx size : ℕ) → put_by (through rom0 romx w size) ≡ pick (asks_by w) (Err Ask) (Ok tt)
unfolding put_by
way_put (Bytes (Some i)) rom0 romx size = refl
way_put (Bytes None) rom0 romx size = refl
way_put (Half m) rom0 romx size = go m.enabled refl
  where
    go : (b : Bool) → m.enabled ≡ b → put_by (through rom0 romx (Half m) size) ≡ Ok tt
    go true e = rw e
    go false e = rw e
way_put (Timer m) rom0 romx size = go (on_clock m) refl
  where
    go : (b : Bool) → on_clock m ≡ b → put_by (through rom0 romx (Timer m) size) ≡ pick (on_clock m) (Err Ask) (Ok tt)
    go true e = rw e
    go false e = rw e

timer_stays : (m : state.Mbc3) (byte : ℕ) → on_clock m ≡ false → window_written m byte ≡ m
unfolding window_written
timer_stays m byte e = ap (λ (b : Bool). pick b (clock_or m (written_of m.clock m.register byte)) m) e

selected_stays : (b : Bool) (m : state.Mbc3) (p q : Option ℕ) (byte : ℕ) → asks_by (pick b (Bytes p) (Timer m)) ≡ false
    → window.mapper_by (pick b (Bytes q) (Timer m)) (Mbc3 m) byte ≡ Mbc3 m
selected_stays true m p q byte e = refl
selected_stays false m p q byte e = ap Mbc3 (timer_stays m byte e)

-- where nothing is asked, a write to the window leaves the mapper as it was
pub mapper_stays : (m : Mapper) (size addr byte : ℕ) → asks_by (way_of m size 0xA000) ≡ false → window.mapper_after m size addr byte ≡ m
unfolding window.mapper_after
mapper_stays (NoMapper m) size addr byte e = refl
mapper_stays (Mbc1 m) size addr byte e = refl
mapper_stays (Mbc2 m) size addr byte e = refl
mapper_stays (Mbc3 m) size addr byte e =
    selected_stays m.memory m (mbc3.ram_at m size 0xA000) (mbc3.ram_at m size addr) byte e
mapper_stays (Mbc5 m) size addr byte e = refl
