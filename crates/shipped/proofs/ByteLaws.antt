-- What is read of bytes of eight bits is one: of the image, of the area, and of a clock's registers.
use Rattle.std.specs.Prelude.{Ok, Some, None, Result, Option}
use mathlib.Core.List.{List, [], ◌∷◌}
use Prim.Native.Nat.{ℕ, zero, suc, ◌<◌}
use native.Mathlib.Omega.{arith}
use lib.Dec.{ltb}
use lib.ListN.{get_or}
use Rattle.facts.specs.Choice.{pick}
use Rattle.facts.proofs.ChoiceLaws.{pick_has, pick_cases, bit_lt, both_left}
use Rattle.bytes_le.specs.Little.{Octets}
use Rattle.bytes_le.proofs.OctetLaws.{octets_at}
use Rattle.banking.specs.Banks.{rom_place}
use Rattle.clock_registers.specs.Access.{readings}
use Rattle.clock_registers.specs.declared.Registers.{Registers}
use Rattle.clock.specs.Access.{shown_of}
use Rattle.clock.specs.declared.Clock.{Clock}
use Rattle.no_mapper.specs.Registers as none
use Rattle.mbc1.specs.Registers as mbc1
use Rattle.mbc2.specs.Registers as mbc2
use Rattle.mbc3.specs.Registers as mbc3
use Rattle.mbc3.specs.declared.Mbc3 as mbc3-state
use Rattle.timer.specs.ClockWindow.{on_clock, byte_or, window_read}
use Rattle.mbc5.specs.Registers as mbc5
use Rattle.mapper.specs.Mappers.{bank_at}
use Rattle.mapper.specs.declared.Mapper.{Mapper}
use Rattle.mapper.specs.declared.Mapper.TheVariants.{NoMapper, Mbc1, Mbc2, Mbc3, Mbc5}
use Rattle.window.specs.Window as window
use Rattle.window.specs.declared.Way.{Way}
use Rattle.cartridge.specs.declared.Cartridge.{Cartridge}
use Rattle.access.specs.Verdict.{in_rom}
use Rattle.access.specs.declared.Target.{Target}
use Rattle.access.specs.declared.BusRefusal.{BusRefusal}
use Rattle.access.specs.declared.Target.TheVariants.{Rom, Ram}
use Rattle.bus.specs.Bus as bus
use Rattle.states.specs.Widths.{RegisterWidths, Mbc3Widths, MapperWidths, Widths}
use Rattle.player.specs.Bus.{read_number}

-- the byte at any place, and past the end another one
pub octets_or : (s : List ℕ) → Octets s → (i d : ℕ) → d < 256 → get_or s i d < 256
octets_or [] o i d h = h
octets_or (b ∷ bs) o zero d h = o.0
octets_or (b ∷ bs) o (suc i) d h = octets_or bs o.1 i d h

-- ---- a clock's register

register_lt : (r : Registers) → RegisterWidths r → (n : ℕ) → get_or (readings r) n 0 < 256
register_lt r w zero = w.second
register_lt r w (suc zero) = w.minute
register_lt r w (suc (suc zero)) = w.hour
register_lt r w (suc (suc (suc zero))) = omega arith
register_lt r w (suc (suc (suc (suc zero)))) = omega (arith, bit_lt r.carry, bit_lt r.halt)
register_lt r w (suc (suc (suc (suc (suc n))))) = omega arith

shown_lt : (c : Clock) (n : ℕ) → RegisterWidths c.running → RegisterWidths c.frozen → byte_or (shown_of c n) < 256
unfolding shown_of
shown_lt c n running frozen =
    pick_has (λ (x : Option ℕ). byte_or x < 256) (ltb n 5)
    (pick_has (λ (r : Registers). get_or (readings r) n 0 < 256) c.latched (register_lt c.frozen frozen n)
    (register_lt c.running running n))
    (omega arith)

clock_read_lt : (m : mbc3-state.Mbc3) → Mbc3Widths m → window_read m < 256
unfolding window_read
clock_read_lt m w =
    pick_cases (λ (x : ℕ). x < 256) (on_clock m)
    (λ e. let t = w.timed (both_left m.timer _ e) in shown_lt m.clock m.register t.running t.frozen) (λ e. omega arith)

-- ---- the RAM window, and the bus

loaded_lt : (ram : List ℕ) → Octets ram → (p : Option ℕ) → window.loaded ram p < 256
loaded_lt ram o (Some i) = octets_at ram o i
loaded_lt ram o None = omega arith

window_read_lt : (m : Mapper) (size : ℕ) (ram : List ℕ) (addr : ℕ) → MapperWidths m → Octets ram → window.read_of m size ram addr < 256
unfolding window.read_of mbc2.half_read
window_read_lt (NoMapper m) size ram addr w o = loaded_lt ram o (none.ram_at m size addr)
window_read_lt (Mbc1 m) size ram addr w o = loaded_lt ram o (mbc1.ram_at m size addr)
window_read_lt (Mbc2 m) size ram addr w o = pick_has (λ (x : ℕ). x < 256) m.enabled (omega arith) (omega arith)
window_read_lt (Mbc3 m) size ram addr w o =
    pick_has (λ (x : Way). window.read_by x size ram addr < 256) m.memory (loaded_lt ram o (mbc3.ram_at m size addr)) (clock_read_lt m w)
window_read_lt (Mbc5 m) size ram addr w o = loaded_lt ram o (mbc5.ram_at m size addr)

-- an accepted read gives a byte
pub read_lt : (c : Cartridge) (image ram : List ℕ) (addr : ℕ) → Widths c → Octets image → Octets ram
    → read_number (bus.read_by c image ram addr (pick (in_rom addr) (Ok Rom) (Ok Ram))) < 256
read_lt c image ram addr w o r =
    pick_has (λ (v : Result Target BusRefusal). read_number (bus.read_by c image ram addr v) < 256) (in_rom addr)
    (octets_at image o (rom_place c.banks (bank_at c.mapper addr) addr)) (window_read_lt c.mapper c.size ram addr w.mapper r)
