-- Where the windows 0x0000, 0x4000 and 0xA000 of a cartridge stand: the place that each shows first, and how the last is mapped.
use Rattle.std.specs.Prelude.{Bool, true, false, ◌≡◌, ℕ, ◌<◌, ◌≤◌, eqb, Some, None, Option}
use Rattle.facts.specs.Choice.{pick}
use Rattle.banking.specs.Banks.{Inside, rom_place}
use Rattle.mbc2.specs.declared.Mbc2.{Mbc2}
use Rattle.mbc3.specs.declared.Mbc3.{Mbc3}
use Rattle.timer.specs.ClockWindow.{on_clock}
use Rattle.mapper.specs.Mappers.{bank_at, fit_registers}
use Rattle.mapper.specs.declared.Mapper.{Mapper}
use Rattle.window.specs.Window.{way_of}
use Rattle.window.specs.declared.Way.{Way}
use Rattle.window.specs.declared.Way.TheVariants.{Bytes, Half, Timer}
use Rattle.cartridge.specs.Fit.{fit_cart}
use Rattle.cartridge.specs.declared.Cartridge.{Cartridge}
use Rattle.windows.specs.declared.Windows.{Windows}
use Rattle.windows.specs.declared.RamWindow.{RamWindow}

abbrev pub window : ℕ → ℕ → ℕ → RamWindow
window ram mask how = record { ram = ram; mask = mask; how = how }

abbrev pub unmapped : RamWindow
unmapped = window 0 0 0

-- Player 9: "the mask 0x1FFF, or 0x7FF where the RAM has 0x800 bytes"
abbrev pub mask_of : ℕ → ℕ
mask_of size = pick (eqb size 0x800) 0x7FF 0x1FFF

abbrev pub bytes_at : Option ℕ → ℕ → RamWindow
bytes_at (Some i) size = window i (mask_of size) 1
bytes_at None size = unmapped

-- Player 9: "half-bytes, with the mask 0x1FF, the place being the header's RAM size"
abbrev pub halves_at : Mbc2 → ℕ → RamWindow
halves_at m size = pick m.enabled (window size 0x1FF 2) unmapped

abbrev pub asks : Mbc3 → RamWindow
asks m = pick (on_clock m) (window 0 0 3) unmapped

abbrev pub by_way : Way → ℕ → RamWindow
by_way (Bytes p) size = bytes_at p size
by_way (Half m) size = halves_at m size
by_way (Timer m) size = asks m

-- a way whose places are numbers of 32 bits
abbrev pub Small : Way → ℕ → Type 0
Small (Bytes p) size = Inside p 0x20200
Small (Half m) size = size ≤ 0x20000
Small (Timer m) size = Unit {0}

unfoldable pub ram_at : Mapper → ℕ → RamWindow
ram_at m size = by_way (way_of m size 0xA000) size

unfoldable pub rom_at : ℕ → Mapper → ℕ → ℕ
rom_at banks m addr = rom_place banks (bank_at m addr) addr

abbrev pub windows_from : ℕ → ℕ → RamWindow → Windows
windows_from rom0 romx part =
    record { rom0 = rom0; romx = romx; ram = part.ram; mask = part.mask; how = part.how }

unfoldable pub windows_by : ℕ → ℕ → Mapper → Windows
windows_by banks size m = windows_from (rom_at banks m 0) (rom_at banks m 0x4000) (ram_at m size)

-- what windows ask of these three, and a fit cartridge gives
pub record Stands (banks size : ℕ) (m : Mapper) : Type 0 where
  pub some : 0 < banks
  pub few : banks ≤ 512
  pub small : size ≤ 0x20000
  pub fit : fit_registers m ≡ true

abbrev pub windows_of : Cartridge → Windows
windows_of c = windows_by c.banks c.size c.mapper

unfoldable pub ask_of : Cartridge → Option Windows
ask_of c = pick (fit_cart c) (Some (windows_of c)) None

-- Player 9: "a clock register, where Bus 19 shows one": then the state must be asked
abbrev pub asks_by : Way → Bool
asks_by (Bytes p) = false
asks_by (Half m) = false
asks_by (Timer m) = on_clock m

abbrev pub asks_of : Cartridge → Bool
asks_of c = asks_by (way_of c.mapper c.size 0xA000)
