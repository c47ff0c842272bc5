-- `Mbc3` of mappers/mbc3.rs, its methods in the Rust's order. A method with `&mut self` gives the next `self`, beside what it
-- returns; `addr` and `data` are `at` and `byte`. A usize has room for every place: a bank is a u16.
use Rattle.std.specs.Prelude.{Bool, true, false, ℕ, ◌+◌, ◌*◌, ◌/◌, eqb, leb}
use Rattle.std.specs.Int.Bits.{bit_and}
use Rattle.facts.specs.Choice.{pick, both, either}
use Rattle.original.specs.Machine.{Outcome, ok, bind, assert, rem, as_u8, as_u16, sub}
use Rattle.original.specs.MappingResult as to
use Rattle.original.specs.MappingResult.{MappingResult}
use Rattle.original.specs.Rtc.{RtcRegister, read_register, write_register, set_latch, clock_second_part}
use Rattle.original.specs.Rtc as register

pub record Mbc3 : Type 0 where
  -- rom_banks
  pub banks : ℕ
  -- is_2k_ram
  pub small : Bool
  -- ram_banks
  pub rams : ℕ
  -- rtc_present
  pub present : Bool
  -- rom_bank_4000
  pub bank : ℕ
  -- ram_bank
  pub ram : ℕ
  -- current_rtc_register
  pub register : ℕ
  -- rtc_register
  pub rtc : RtcRegister
  -- ram_block_enable
  pub enable : Bool
  -- is_reading_ram
  pub reading : Bool

abbrev pub mbc3 : ℕ → Bool → ℕ → Bool → ℕ → ℕ → ℕ → RtcRegister → Bool → Bool → Mbc3
mbc3 banks small rams present bank ram register rtc enable reading =
    record {
      banks = banks;
      small = small;
      rams = rams;
      present = present;
      bank = bank;
      ram = ram;
      register = register;
      rtc = rtc;
      enable = enable;
      reading = reading;
    }

-- `new`, with `..Self::default()`
abbrev pub new : Bool → ℕ → Mbc3
new timer wall = mbc3 0 false 0 timer 1 0 0 (register.default wall) true false

-- `self.rtc_register`, changed
abbrev pub set_rtc : Mbc3 → RtcRegister → Mbc3
set_rtc self r =
    mbc3 self.banks self.small self.rams self.present self.bank self.ram self.register r self.enable
    self.reading

unfoldable pub map_ram : Mbc3 → ℕ → Outcome MappingResult
map_ram self at =
    pick (eqb self.rams 0) (ok to.NotMapped)
    (pick self.small (ok (to.Addr (bit_and at 0x7FF)))
    (let at' = bit_and at 0x1FFF in bind (rem self.ram self.rams) (λ bank. ok (to.Addr (bank * 0x2000 + at')))))

unfoldable pub rtc_read : Mbc3 → Outcome (Mbc3 × ℕ)
rtc_read self = bind (read_register self.rtc self.register) (λ r. ok (set_rtc self r.0, r.1))

unfoldable pub rtc_write : Mbc3 → ℕ → Outcome Mbc3
rtc_write self byte = bind (write_register self.rtc self.register byte) (λ r. ok (set_rtc self r))

unfoldable pub init : Mbc3 → ℕ → ℕ → Outcome Mbc3
init self banks size =
    assert (leb banks 256)
    (ok
    (mbc3 banks (eqb size 0x800) (as_u8 (size / 0x2000)) self.present self.bank self.ram self.register self.rtc
    self.enable self.reading))

unfoldable pub map_read_rom0 : Mbc3 → ℕ → ℕ
map_read_rom0 self at = at

unfoldable pub map_read_romx : Mbc3 → ℕ → Outcome ℕ
map_read_romx self at =
    let at' = bit_and at 0x3FFF in bind (rem self.bank self.banks) (λ bank. ok (bank * 0x4000 + at'))

unfoldable pub map_ram_read : Mbc3 → ℕ → Outcome (Mbc3 × MappingResult)
map_ram_read self at =
    pick self.enable
    (pick self.reading (bind (map_ram self at) (λ r. ok (self, r)))
    (pick self.present (bind (rtc_read self) (λ r. ok (r.0, to.Value r.1))) (ok (self, to.NotMapped))))
    (ok (self, to.NotMapped))

unfoldable pub map_ram_write : Mbc3 → ℕ → ℕ → Outcome (Mbc3 × MappingResult)
map_ram_write self at byte =
    pick self.enable
    (pick self.reading (bind (map_ram self at) (λ r. ok (self, r)))
    (bind (pick self.present (rtc_write self byte) (ok self)) (λ self'. ok (self', to.NotMapped))))
    (ok (self, to.NotMapped))

unfoldable pub write_bank_controller_register : Mbc3 → ℕ → ℕ → Outcome Mbc3
write_bank_controller_register self at byte =
    pick (leb at 0x1FFF)
    (ok
    (mbc3 self.banks self.small self.rams self.present self.bank self.ram self.register self.rtc
    (eqb (bit_and byte 0xF) 0xA) self.reading))
    (pick (both (leb 0x2000 at) (leb at 0x3FFF))
    (ok
    (mbc3 self.banks self.small self.rams self.present (pick (eqb (as_u16 byte) 0) 1 (as_u16 byte)) self.ram
    self.register
    self.rtc self.enable self.reading))
    (pick (both (leb 0x4000 at) (leb at 0x5FFF))
    (let byte' = bit_and byte 0xF in
    assert (either (leb byte' 3) (both (leb 0x8 byte') (leb byte' 0xC)))
    (pick (leb byte' 3)
    (ok
    (mbc3 self.banks self.small self.rams self.present self.bank (bit_and byte' 3) self.register self.rtc
    self.enable true))
    (bind (sub byte' 0x8) (λ register.
    ok
    (mbc3 self.banks self.small self.rams self.present self.bank self.ram register self.rtc self.enable
    false)))))
    (pick (both (leb 0x6000 at) (leb at 0x7FFF))
    (pick self.present (bind (set_latch self.rtc (eqb (bit_and byte 1) 1)) (λ r. ok (set_rtc self r))) (ok self))
    (ok self))))

unfoldable pub clock : Mbc3 → Outcome Mbc3
clock self = bind (clock_second_part self.rtc) (λ r. ok (set_rtc self r))
