-- MBC2: the original's places and half-bytes are ours, and a register write leaves the same registers.
use mathlib.Core.Bool.{Bool, true, false}
use mathlib.Core.List.{List}
use mathlib.Core.Path.{◌≡◌, refl, ap, ◌∙◌}
use Prim.Native.Nat.{ℕ, ◌+◌, ◌*◌, ◌/◌, ◌%◌, ◌<◌}
use native.Mathlib.Omega.{arith}
use lib.Bits.{bit_and, bit_or, and_mask, and_high, or_comm}
use lib.Dec.{eqb}
use lib.ListN.{length, get_or, set}
use Rattle.facts.specs.Choice.{pick}
use Rattle.facts.proofs.ChoiceLaws.{eqb_iff}
use Rattle.bytes_le.specs.Little.{Octets}
use Rattle.bytes_le.proofs.OctetLaws.{octets_at}
use Rattle.banking.specs.Banks.{or_one, rom_place}
use Rattle.mbc2.specs.Registers as our
use Rattle.mbc2.specs.declared.Mbc2 as declared
use Rattle.mbc2.proofs.Laws.{high_nibble}
use Rattle.original.specs.Machine.{Outcome, ok, bind, index, store}
use Rattle.original.specs.MappingResult.{Mapped, mapped, Value, NotMapped}
use Rattle.original.specs.Mbc2.{Mbc2, mbc2, map_read_rom0, map_read_romx, map_ram_read, map_ram_write, write_bank_controller_register}
use Rattle.original.specs.Same.{mbc2_of}
use Rattle.original.proofs.MachineLaws.{index_ok, store_ok, arm, up_to, rom_first, rom_banked}

module _ (banks : ℕ) (half : List ℕ) (m : declared.Mbc2) where
  pub rom0_same : (addr : ℕ) → addr < 0x4000 → map_read_rom0 (mbc2_of banks half m) addr ≡ ok (rom_place banks (our.bank0 m) addr)
  unfolding map_read_rom0
  rom0_same addr h = rom_first banks addr h

  pub romx_same : (addr : ℕ) → 0 < banks → map_read_romx (mbc2_of banks half m) addr ≡ ok (rom_place banks (our.bank_x m) addr)
  unfolding map_read_romx
  romx_same addr pos = rom_banked m.bank banks addr pos

  -- a read of the window gives the half-byte with the high bits set, or nothing
  pub read_same : (addr : ℕ) → length half ≡ 512 → Octets half
      → map_ram_read (mbc2_of banks half m) addr
      ≡ ok (mapped (mbc2_of banks half m) (pick m.enabled (Value (our.half_read m half addr)) NotMapped))
  unfolding map_ram_read our.half_read
  read_same addr long octets = go m.enabled
    where
      self : Mbc2
      self = mbc2_of banks half m

      at : bit_and addr 0x1FF ≡ addr % 512
      at = and_mask addr 9

      nibble : bit_or 0xF0 (get_or half (addr % 512) 0) ≡ 0xF0 + get_or half (addr % 512) 0 % 16
      nibble = or_comm 0xF0 (get_or half (addr % 512) 0) ∙ high_nibble (get_or half (addr % 512) 0) (octets_at half octets (addr % 512))

      go : (t : Bool)
          → pick t (bind (index half (bit_and addr 0x1FF)) (λ byte. ok (mapped self (Value (bit_or 0xF0 byte)))))
          (ok (mapped self NotMapped))
          ≡ ok (mapped self (pick t (Value (pick t (0xF0 + get_or half (addr % 512) 0 % 16) 0xFF)) NotMapped))
      go true =
          ap (λ (x : ℕ). bind (index half x) (λ byte. ok (mapped self (Value (bit_or 0xF0 byte))))) at
          ∙ ap (λ (x : Outcome ℕ). bind x (λ byte. ok (mapped self (Value (bit_or 0xF0 byte)))))
          (index_ok half (addr % 512) (omega arith))
          ∙ ap (λ (x : ℕ). ok (mapped self (Value x))) nibble
      go false = refl

  -- a write to it leaves our half-bytes
  pub write_same : (addr byte : ℕ) → length half ≡ 512
      → map_ram_write (mbc2_of banks half m) addr byte ≡ ok (mapped (mbc2_of banks (our.half_after m half addr byte) m) NotMapped)
  unfolding map_ram_write our.half_after
  write_same addr byte long = go m.enabled refl
    where
      rest : List ℕ → Outcome (Mapped Mbc2)
      rest ram = ok (mapped (mbc2_of banks ram m) NotMapped)

      go : (t : Bool) → m.enabled ≡ t
          → bind (pick t (store half (bit_and addr 0x1FF) (bit_and byte 0xF)) (ok half)) rest
          ≡ rest (pick t (set half (addr % 512) (byte % 16)) half)
      go true e =
          ap (λ (x : ℕ). bind (store half x (bit_and byte 0xF)) rest) (and_mask addr 9)
          ∙ ap (λ (x : ℕ). bind (store half (addr % 512) x) rest) (and_mask byte 4)
          ∙ ap (λ (x : Outcome (List ℕ)). bind x rest) (store_ok half (addr % 512) (byte % 16) (omega arith))
      go false e = refl

  -- bit 8 of the address
  bit_8 : (addr : ℕ) → eqb (bit_and addr 0x100) 0 ≡ eqb (addr / 256 % 2) 0
  bit_8 addr =
      ap (λ (x : ℕ). eqb x 0) (and_high addr 1 8)
      ∙ eqb_iff (addr / 256 % 2 * 256) 0 (addr / 256 % 2) 0 (λ e. omega arith) (λ e. omega arith)

  pub register_same : (addr byte : ℕ)
      → write_bank_controller_register (mbc2_of banks half m) addr byte ≡ ok (mbc2_of banks half (our.written m addr byte))
  unfolding write_bank_controller_register our.written or_one
  register_same addr byte =
      ap (λ (t : Bool). pick t (pick (eqb (bit_and addr 0x100) 0) enabled banked) (f m)) (up_to 0x3FFF addr)
      ∙ arm f 0x0000 0x3FFF addr (omega arith)
      (ap (λ (t : Bool). pick t enabled banked) (bit_8 addr)
      ∙ ap (λ (x : ℕ). pick (eqb (addr / 256 % 2) 0) (ok (mbc2 banks m.bank half (eqb x 0xA))) banked) (and_mask byte 4)
      ∙ ap (λ (x : ℕ). pick (eqb (addr / 256 % 2) 0) (ok (mbc2 banks m.bank half (eqb (byte % 16) 0xA)))
      (ok (mbc2 banks (pick (eqb x 0) 1 x) half m.enabled))) (and_mask byte 4)
      ∙ go (eqb (addr / 256 % 2) 0))
      (λ h. refl)
    where
      f : declared.Mbc2 → Outcome Mbc2
      f x = ok (mbc2_of banks half x)

      enabled : Outcome Mbc2
      enabled = ok (mbc2 banks m.bank half (eqb (bit_and byte 0xF) 0xA))

      banked : Outcome Mbc2
      banked = ok (mbc2 banks (pick (eqb (bit_and byte 0xF) 0) 1 (bit_and byte 0xF)) half m.enabled)

      go : (t : Bool)
          → pick t (ok (mbc2 banks m.bank half (eqb (byte % 16) 0xA)))
          (ok (mbc2 banks (pick (eqb (byte % 16) 0) 1 (byte % 16)) half m.enabled))
          ≡ f (pick t (our.mbc2 (eqb (byte % 16) 0xA) m.bank)
          (our.mbc2 m.enabled (pick (eqb (byte % 16) 0) 1 (byte % 16))))
      go true = refl
      go false = refl
