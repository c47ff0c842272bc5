-- mappers/mbc1.rs.
use Rattle.std.specs.Prelude.{Bool, false, not, ℕ, ◌+◌, ◌*◌, ◌/◌, eqb}
use Rattle.std.specs.Int.Bits.{bit_and, bit_or}
use Rattle.facts.specs.Choice.{pick}
use Rattle.original.specs.Machine.{Outcome, ok, bind, rem, within, as_u8, shl_u8}
use Rattle.original.specs.MappingResult.{Mapped, mapped, Addr, NotMapped}

pub record Mbc1 : Type 0 where
  -- is_2k_ram
  pub small : Bool
  -- ram_banks
  pub rams : ℕ
  -- rom_banks
  pub roms : ℕ
  -- true for rom, false for ram
  pub mode : Bool
  -- two_bit_bank2
  pub two : ℕ
  -- ram_enable
  pub enable : Bool
  -- rom_bank1
  pub bank : ℕ
  pub multicart : Bool

abbrev pub mbc1 : Bool → ℕ → ℕ → Bool → ℕ → Bool → ℕ → Bool → Mbc1
mbc1 small rams roms mode two enable bank multicart =
    record { small = small; rams = rams; roms = roms; mode = mode; two = two; enable = enable; bank = bank; multicart = multicart }

abbrev pub new : Bool → Mbc1
new multicart = mbc1 false 0 0 false 0 false 1 multicart

abbrev pub bank2_shift : Mbc1 → ℕ
bank2_shift self = pick self.multicart 4 5

unfoldable pub init : Mbc1 → ℕ → ℕ → Outcome Mbc1
init self banks size =
    ok
    (mbc1 (eqb size 0x800) (as_u8 (size / 0x2000)) banks self.mode self.two self.enable self.bank self.multicart)

unfoldable pub map_read_rom0 : Mbc1 → ℕ → Outcome ℕ
map_read_rom0 self addr =
    bind (pick self.mode (rem (shl_u8 self.two (bank2_shift self)) (as_u8 self.roms)) (ok 0)) (λ bank.
    ok (bank * 0x4000 + addr))

unfoldable pub map_read_romx : Mbc1 → ℕ → Outcome ℕ
map_read_romx self addr =
    bind (rem (bit_or self.bank (shl_u8 self.two (bank2_shift self))) self.roms) (λ bank.
    ok (bank * 0x4000 + bit_and addr 0x3FFF))

unfoldable pub map_ram_read : Mbc1 → ℕ → Outcome (Mapped Mbc1)
map_ram_read self addr =
    pick (not self.enable) (ok (mapped self NotMapped))
    (pick self.small (ok (mapped self (Addr (bit_and addr 0x7FF))))
    (pick (eqb self.rams 0) (ok (mapped self NotMapped))
    (bind (rem (pick self.mode self.two 0) self.rams) (λ bank.
    ok (mapped self (Addr (bank * 0x2000 + bit_and addr 0x1FFF)))))))

unfoldable pub map_ram_write : Mbc1 → ℕ → ℕ → Outcome (Mapped Mbc1)
map_ram_write self addr byte = map_ram_read self addr

-- the arm 0x2000..=0x3FFF; the Rust: "For some reason the & is done after, so when bank1 is supplied with 0x10 (16) it will become 0 and
-- not 1"
abbrev pub bank1 : Mbc1 → ℕ → ℕ
bank1 self byte =
    let low = bit_and byte 0x1F in
    let one = pick (eqb low 0) 1 low in
    pick self.multicart (bit_and one 0xF) one

unfoldable pub write_bank_controller_register : Mbc1 → ℕ → ℕ → Outcome Mbc1
write_bank_controller_register self addr byte =
    pick (within 0x0000 0x1FFF addr)
    (ok (mbc1 self.small self.rams self.roms self.mode self.two (eqb (bit_and byte 0xF) 0xA) self.bank
    self.multicart))
    (pick (within 0x2000 0x3FFF addr)
    (ok (mbc1 self.small self.rams self.roms self.mode self.two self.enable (bank1 self byte)
    self.multicart))
    (pick (within 0x4000 0x5FFF addr)
    (ok (mbc1 self.small self.rams self.roms self.mode (bit_and byte 0x3) self.enable self.bank
    self.multicart))
    (pick (within 0x6000 0x7FFF addr)
    (ok (mbc1 self.small self.rams self.roms (eqb (bit_and byte 1) 1) self.two self.enable self.bank
    self.multicart))
    (ok self))))
