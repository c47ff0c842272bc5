-- mappers/mbc2.rs.
use Rattle.std.specs.Prelude.{Bool, false, List, ℕ, ◌+◌, ◌*◌, eqb, leb, replicate}
use Rattle.std.specs.Int.Bits.{bit_and, bit_or}
use Rattle.facts.specs.Choice.{pick}
use Rattle.original.specs.Machine.{Outcome, ok, bind, assert, rem, index, store, as_u8}
use Rattle.original.specs.MappingResult.{Mapped, mapped, Value, NotMapped}

pub record Mbc2 : Type 0 where
  -- rom_banks
  pub roms : ℕ
  -- rom_bank_4000: the bank number to use in the memory [0x4000..=0x7FFF]
  pub bank : ℕ
  -- internal 512x4bit ram
  pub ram : List ℕ
  -- ram_enable
  pub enable : Bool

abbrev pub mbc2 : ℕ → ℕ → List ℕ → Bool → Mbc2
mbc2 roms bank ram enable = record { roms = roms; bank = bank; ram = ram; enable = enable }

-- `Default`
abbrev pub new : Mbc2
new = mbc2 0 1 (replicate 512 0) false

unfoldable pub init : Mbc2 → ℕ → ℕ → Outcome Mbc2
init self banks size = assert (leb banks 16) (ok (mbc2 (as_u8 banks) self.bank self.ram self.enable))

-- same address for the first rom bank
unfoldable pub map_read_rom0 : Mbc2 → ℕ → Outcome ℕ
map_read_rom0 self addr = ok addr

unfoldable pub map_read_romx : Mbc2 → ℕ → Outcome ℕ
map_read_romx self addr = bind (rem self.bank self.roms) (λ bank. ok (bank * 0x4000 + bit_and addr 0x3FFF))

unfoldable pub map_ram_read : Mbc2 → ℕ → Outcome (Mapped Mbc2)
map_ram_read self addr =
    pick self.enable
    (bind (index self.ram (bit_and addr 0x1FF)) (λ byte. ok (mapped self (Value (bit_or 0xF0 byte)))))
    (ok (mapped self NotMapped))

unfoldable pub map_ram_write : Mbc2 → ℕ → ℕ → Outcome (Mapped Mbc2)
map_ram_write self addr byte =
    bind (pick self.enable (store self.ram (bit_and addr 0x1FF) (bit_and byte 0xF)) (ok self.ram)) (λ ram.
    ok (mapped (mbc2 self.roms self.bank ram self.enable) NotMapped))

unfoldable pub write_bank_controller_register : Mbc2 → ℕ → ℕ → Outcome Mbc2
write_bank_controller_register self addr byte =
    pick (leb addr 0x3FFF)
    (pick (eqb (bit_and addr 0x100) 0) (ok (mbc2 self.roms self.bank self.ram (eqb (bit_and byte 0xF) 0xA)))
    (let bank = bit_and byte 0xF in ok (mbc2 self.roms (pick (eqb bank 0) 1 bank) self.ram self.enable)))
    (ok self)
