-- MBC5: the original's places are ours, and a register write leaves the same registers.
use mathlib.Core.Bool.{Bool}
use mathlib.Core.Path.{◌≡◌, refl, ap}
use Prim.Native.Nat.{ℕ, ◌<◌, ◌≤◌}
use native.Mathlib.Omega.{arith}
use lib.Bits.{and_mask}
use Rattle.banking.specs.Banks.{rom_place, ram_place}
use Rattle.mbc5.specs.Registers as our
use Rattle.mbc5.specs.declared.Mbc5 as declared
use Rattle.mbc5.proofs.Laws.{low_joined, high_joined}
use Rattle.original.specs.Machine.{Outcome, ok}
use Rattle.original.specs.MappingResult.{mapped}
use Rattle.original.specs.Mbc5.{Mbc5, map_read_rom0, map_read_romx, map_ram_read, map_ram_write, write_bank_controller_register}
use Rattle.original.specs.Same.{mbc5_of}
use Rattle.original.specs.Place.{result_of}
use Rattle.original.proofs.MachineLaws.{arm, rom_first, rom_banked, ram_banked, ram_enabled}

module _ (banks size : ℕ) (rumble : Bool) (m : declared.Mbc5) where
  pub rom0_same : (addr : ℕ) → addr < 0x4000 → map_read_rom0 (mbc5_of banks size rumble m) addr ≡ ok
      (rom_place banks (our.bank0 m) addr)
  unfolding map_read_rom0
  rom0_same addr h = rom_first banks addr h

  pub romx_same : (addr : ℕ) → 0 < banks → map_read_romx (mbc5_of banks size rumble m) addr ≡ ok
      (rom_place banks (our.bank_x m) addr)
  unfolding map_read_romx
  romx_same addr pos = rom_banked m.bank banks addr pos

  pub ram_same : (addr : ℕ) → size ≤ 0x20000
      → map_ram_read (mbc5_of banks size rumble m) addr ≡ ok
      (mapped (mbc5_of banks size rumble m) (result_of (our.ram_at m size addr)))
  unfolding map_ram_read our.ram_at
  ram_same addr h =
      ram_enabled (mbc5_of banks size rumble m) m.enabled (ram_place size m.ram addr)
      (ram_banked (mbc5_of banks size rumble m) size m.ram addr h)

  pub ram_write_same : (addr byte : ℕ) → size ≤ 0x20000
      → map_ram_write (mbc5_of banks size rumble m) addr byte ≡ ok
      (mapped (mbc5_of banks size rumble m) (result_of (our.ram_at m size addr)))
  unfolding map_ram_write
  ram_write_same addr byte = ram_same addr

  pub register_same : (addr byte : ℕ) → byte < 256
      → write_bank_controller_register (mbc5_of banks size rumble m) addr byte ≡ ok
      (mbc5_of banks size rumble (our.written m addr byte))
  unfolding write_bank_controller_register our.written
  register_same addr byte l =
      let f : declared.Mbc5 → Outcome Mbc5 = λ x. ok (mbc5_of banks size rumble x) in
      arm f 0x0000 0x1FFF addr (omega arith) refl (λ h1.
      arm f 0x2000 0x2FFF addr (omega arith)
      (ap (λ (x : ℕ). f (our.mbc5 m.enabled x m.ram)) (low_joined m.bank byte l)) (λ h2.
      arm f 0x3000 0x3FFF addr (omega arith)
      (ap (λ (x : ℕ). f (our.mbc5 m.enabled x m.ram)) (high_joined m.bank byte)) (λ h3.
      arm f 0x4000 0x5FFF addr (omega arith) (ap (λ (x : ℕ). f (our.mbc5 m.enabled m.bank x)) (and_mask byte 4))
      (λ h4. refl))))
