-- mappers/mbc5.rs.
use Rattle.std.specs.Prelude.{Bool, false, not, ℕ, ◌+◌, ◌*◌, ◌/◌, eqb, leb}
use Rattle.std.specs.Int.Bits.{bit_and, bit_or}
use Rattle.facts.specs.Choice.{pick}
use Rattle.original.specs.Machine.{Outcome, ok, bind, assert, rem, within, as_u8, shl_u16}
use Rattle.original.specs.MappingResult.{Mapped, mapped, Addr, NotMapped}

pub record Mbc5 : Type 0 where
  -- rom_banks
  pub roms : ℕ
  -- is_2k_ram
  pub small : Bool
  -- ram_banks
  pub rams : ℕ
  -- ram_enable
  pub enable : Bool
  -- ram_bank
  pub ram : ℕ
  -- rom_bank
  pub bank : ℕ
  -- _rumble
  pub rumble : Bool

abbrev pub mbc5 : ℕ → Bool → ℕ → Bool → ℕ → ℕ → Bool → Mbc5
mbc5 roms small rams enable ram bank rumble =
    record { roms = roms; small = small; rams = rams; enable = enable; ram = ram; bank = bank; rumble = rumble }

abbrev pub new : Bool → Mbc5
new rumble = mbc5 0 false 0 false 0 1 rumble

unfoldable pub init : Mbc5 → ℕ → ℕ → Outcome Mbc5
init self banks size =
    assert (leb banks 512)
    (ok
    (mbc5 banks (eqb size 0x800) (as_u8 (size / 0x2000)) self.enable self.ram self.bank self.rumble))

unfoldable pub map_read_rom0 : Mbc5 → ℕ → Outcome ℕ
map_read_rom0 self addr = ok addr

unfoldable pub map_read_romx : Mbc5 → ℕ → Outcome ℕ
map_read_romx self addr = bind (rem self.bank self.roms) (λ bank. ok (bank * 0x4000 + bit_and addr 0x3FFF))

unfoldable pub map_ram_read : Mbc5 → ℕ → Outcome (Mapped Mbc5)
map_ram_read self addr =
    pick (not self.enable) (ok (mapped self NotMapped))
    (pick self.small (ok (mapped self (Addr (bit_and addr 0x7FF))))
    (pick (eqb self.rams 0) (ok (mapped self NotMapped))
    (bind (rem self.ram self.rams) (λ bank. ok (mapped self (Addr (bank * 0x2000 + bit_and addr 0x1FFF)))))))

unfoldable pub map_ram_write : Mbc5 → ℕ → ℕ → Outcome (Mapped Mbc5)
map_ram_write self addr byte = map_ram_read self addr

unfoldable pub write_bank_controller_register : Mbc5 → ℕ → ℕ → Outcome Mbc5
write_bank_controller_register self addr byte =
    pick (within 0x0000 0x1FFF addr)
    (ok (mbc5 self.roms self.small self.rams (eqb byte 0xA) self.ram self.bank self.rumble))
    (pick (within 0x2000 0x2FFF addr)
    (ok (mbc5 self.roms self.small self.rams self.enable self.ram (bit_or (bit_and self.bank 0x100) byte)
    self.rumble))
    (pick (within 0x3000 0x3FFF addr)
    (ok (mbc5 self.roms self.small self.rams self.enable self.ram
    (bit_or (bit_and self.bank 0xFF) (shl_u16 (bit_and byte 1) 8)) self.rumble))
    (pick (within 0x4000 0x5FFF addr)
    (ok (mbc5 self.roms self.small self.rams self.enable (bit_and byte 0xF) self.bank self.rumble))
    (ok self))))
