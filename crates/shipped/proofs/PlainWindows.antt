-- A cartridge and its plain one have the same windows.
use Rattle.std.specs.Prelude.{Some, None, Option}
use mathlib.Core.Bool.{Bool, true, false}
use mathlib.Core.Path.{◌≡◌, refl, ap, ◌∙◌}
use Prim.Native.Nat.{ℕ}
use Rattle.facts.specs.Choice.{pick}
use Rattle.facts.proofs.ChoiceLaws.{pick_has}
use Rattle.banking.specs.Banks.{rom_place}
use Rattle.mbc3.specs.Registers as mbc3
use Rattle.mbc3.specs.declared.Mbc3 as mbc3-state
use Rattle.timer.specs.ClockWindow.{on_clock}
use Rattle.mapper.specs.declared.Mapper.{Mapper}
use Rattle.mapper.specs.declared.Mapper.TheVariants.{NoMapper, Mbc1, Mbc2, Mbc3, Mbc5}
use Rattle.window.specs.Window as window
use Rattle.window.specs.declared.Way.TheVariants.{Bytes, Timer}
use Rattle.cartridge.specs.Fit.{fit_cart}
use Rattle.cartridge.specs.declared.Cartridge.{Cartridge}
use Rattle.states.specs.Plain.{plain_mapper, plain}
use Rattle.states.proofs.Back.{fit_plain}
use Rattle.states.proofs.Unused as unused
use Rattle.windows.specs.Windows.{window, unmapped, by_way, ram_at, rom_at, windows_from, windows_by, windows_of, ask_of}
use Rattle.windows.specs.declared.RamWindow.{RamWindow}

way_plain : (b : Bool) (p : Option ℕ) (x y : mbc3-state.Mbc3) (size : ℕ) → on_clock x ≡ on_clock y
    → by_way (pick b (Bytes p) (Timer x)) size ≡ by_way (pick b (Bytes p) (Timer y)) size
way_plain true p x y size e = refl
way_plain false p x y size e = ap (λ (t : Bool). pick t (window 0 0 3) unmapped) e

ram_plain : (m : Mapper) (size : ℕ) → ram_at (plain_mapper m) size ≡ ram_at m size
unfolding ram_at mbc3.ram_at
ram_plain (NoMapper m) size = refl
ram_plain (Mbc1 m) size = refl
ram_plain (Mbc2 m) size = refl
ram_plain (Mbc3 m) size =
    pick_has (λ (x : mbc3-state.Mbc3). by_way (window.way_of (Mbc3 x) size 0xA000) size ≡ by_way (window.way_of (Mbc3 m) size 0xA000) size) m.timer
    refl (way_plain m.memory (mbc3.ram_at m size 0xA000) _ m size refl)
ram_plain (Mbc5 m) size = refl

pub windows_plain : (c : Cartridge) → windows_of (plain c) ≡ windows_of c
unfolding plain windows_by rom_at
windows_plain c =
    three (unused.bank_plain c.mapper 0) (unused.bank_plain c.mapper 0x4000) (ram_plain c.mapper c.size)
  where
    three : {i j k l : ℕ} {x y : RamWindow} → i ≡ j → k ≡ l → x ≡ y
        → windows_from (rom_place c.banks i 0) (rom_place c.banks k 0x4000) x
        ≡ windows_from (rom_place c.banks j 0) (rom_place c.banks l 0x4000) y
    three p q r = cc

pub ask_plain : (c : Cartridge) → ask_of (plain c) ≡ ask_of c
unfolding ask_of
ask_plain c =
    ap (λ (b : Bool). pick b (Some (windows_of (plain c))) None) (fit_plain c)
    ∙ ap (λ w. pick (fit_cart c) (Some w) None) (windows_plain c)
