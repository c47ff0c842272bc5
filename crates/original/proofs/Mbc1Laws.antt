-- MBC1: the original's places are ours, and a register write leaves the same registers.
use mathlib.Core.Bool.{Bool, true, false}
use mathlib.Core.Path.{◌≡◌, refl, sym, ap, ◌∙◌}
use Prim.Native.Nat.{ℕ, ◌+◌, ◌*◌, ◌%◌, ◌<◌, ◌≤◌}
use native.Mathlib.Nat.{zero-mod}
use native.Mathlib.Omega.{arith}
use lib.Bits.{bit_and, bit_or, and_mask}
use lib.Dec.{eqb}
use Rattle.facts.specs.Choice.{pick}
use Rattle.facts.specs.Banking.{place_of}
use Rattle.banking.specs.Banks.{or_one, rom_place, ram_place}
use Rattle.mbc1.specs.Registers as our
use Rattle.mbc1.specs.declared.Mbc1 as declared
use Rattle.mbc1.proofs.Laws.{low_bits, two_shifted, two_joined}
use Rattle.original.specs.Machine.{Outcome, ok, bind, rem, as_u8, shl_u8}
use Rattle.original.specs.MappingResult.{mapped}
use Rattle.original.specs.Mbc1.{Mbc1, bank1, map_read_rom0, map_read_romx, map_ram_read, map_ram_write, write_bank_controller_register}
use Rattle.original.specs.Same.{mbc1_of}
use Rattle.original.specs.Place.{result_of}
use Rattle.original.proofs.MachineLaws.{rem_ok, arm, rom_banked, ram_banked, ram_enabled}

-- the shift by 4 or 5
shift_same : (b : Bool) → pick b 4 5 ≡ low_bits b
shift_same true = refl
shift_same false = refl

module _ (banks size : ℕ) (m : declared.Mbc1) where
  module _ (pos : 0 < banks) (fit : our.fit_registers m ≡ true) where
    pub rom0_same : (addr : ℕ) → banks ≤ 128 → addr < 0x4000 → map_read_rom0 (mbc1_of banks size m) addr ≡ ok
        (rom_place banks (our.bank0 m) addr)
    unfolding map_read_rom0 our.bank0 place_of
    rom0_same addr few h =
        let small : as_u8 banks ≡ banks = omega arith in
        let shifted : shl_u8 m.two (pick m.multicart 4 5) ≡ our.two_at m =
        ap (shl_u8 m.two) (shift_same m.multicart) ∙ two_shifted m m.multicart fit refl in
        let moved : rem (shl_u8 m.two (pick m.multicart 4 5)) (as_u8 banks) ≡ ok (our.two_at m % banks) =
        ap (λ (x : ℕ). rem x (as_u8 banks)) shifted ∙ ap (rem (our.two_at m)) small ∙ rem_ok (our.two_at m) banks pos in
        let low : addr % 0x4000 ≡ addr = omega arith in
        ap (λ (x : Outcome ℕ). bind (pick m.mode x (ok 0)) (λ bank. ok (bank * 0x4000 + addr))) moved
        ∙ go m.mode ∙ ap (λ (x : ℕ). ok (pick m.mode (our.two_at m) 0 % banks * 0x4000 + x)) (sym low)
      where
        go : (t : Bool) → bind (pick t (ok (our.two_at m % banks)) (ok 0)) (λ bank. ok (bank * 0x4000 + addr))
            ≡ ok (pick t (our.two_at m) 0 % banks * 0x4000 + addr)
        go true = refl
        go false = ap (λ (x : ℕ). ok (x * 0x4000 + addr)) (sym (zero-mod banks))

    pub romx_same : (addr : ℕ) → map_read_romx (mbc1_of banks size m) addr ≡ ok (rom_place banks (our.bank_x m) addr)
    unfolding map_read_romx
    romx_same addr =
        let joined : bit_or m.low (shl_u8 m.two (pick m.multicart 4 5)) ≡ our.bank_x m =
        ap (λ (x : ℕ). bit_or m.low (shl_u8 m.two x)) (shift_same m.multicart) ∙ two_joined m m.multicart fit refl in
        ap (λ (x : ℕ). bind (rem x banks) (λ bank. ok (bank * 0x4000 + bit_and addr 0x3FFF))) joined
        ∙ rom_banked (our.bank_x m) banks addr pos

  pub ram_same : (addr : ℕ) → size ≤ 0x20000
      → map_ram_read (mbc1_of banks size m) addr ≡ ok (mapped (mbc1_of banks size m) (result_of (our.ram_at m size addr)))
  unfolding map_ram_read our.ram_at our.ram_bank
  ram_same addr h =
      ram_enabled (mbc1_of banks size m) m.enabled (ram_place size (pick m.mode m.two 0) addr)
      (ram_banked (mbc1_of banks size m) size (pick m.mode m.two 0) addr h)

  pub ram_write_same : (addr byte : ℕ) → size ≤ 0x20000
      → map_ram_write (mbc1_of banks size m) addr byte ≡ ok (mapped (mbc1_of banks size m) (result_of (our.ram_at m size addr)))
  unfolding map_ram_write
  ram_write_same addr byte = ram_same addr

  -- the low register: the zero test before the multicart's mask
  low_same : (byte : ℕ) → bank1 (mbc1_of banks size m) byte ≡ our.low_of m.multicart byte
  unfolding our.low_of or_one
  low_same byte =
      ap (λ (x : ℕ). pick m.multicart (bit_and (pick (eqb x 0) 1 x) 0xF) (pick (eqb x 0) 1 x)) (and_mask byte 5)
      ∙ ap (λ (x : ℕ). pick m.multicart x (pick (eqb (byte % 32) 0) 1 (byte % 32)))
      (and_mask (pick (eqb (byte % 32) 0) 1 (byte % 32)) 4)

  pub register_same : (addr byte : ℕ)
      → write_bank_controller_register (mbc1_of banks size m) addr byte ≡ ok (mbc1_of banks size (our.written m addr byte))
  unfolding write_bank_controller_register our.written
  register_same addr byte =
      let f : declared.Mbc1 → Outcome Mbc1 = λ x. ok (mbc1_of banks size x) in
      arm f 0x0000 0x1FFF addr (omega arith)
      (ap (λ (x : ℕ). f (our.mbc1 m.multicart (eqb x 0xA) m.mode m.low m.two)) (and_mask byte 4)) (λ h1.
      arm f 0x2000 0x3FFF addr (omega arith)
      (ap (λ (x : ℕ). f (our.mbc1 m.multicart m.enabled m.mode x m.two)) (low_same byte)) (λ h2.
      arm f 0x4000 0x5FFF addr (omega arith)
      (ap (λ (x : ℕ). f (our.mbc1 m.multicart m.enabled m.mode m.low x)) (and_mask byte 2)) (λ h3.
      arm f 0x6000 0x7FFF addr (omega arith)
      (ap (λ (x : ℕ). f (our.mbc1 m.multicart m.enabled (eqb x 1) m.low m.two)) (and_mask byte 1)) (λ h4. refl))))
