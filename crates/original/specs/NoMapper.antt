-- mappers/no_mapper.rs.
use Rattle.std.specs.Prelude.{ℕ, ◌-◌, eqb, leb}
use Rattle.std.specs.Int.Bits.{bit_and}
use Rattle.facts.specs.Choice.{pick}
use Rattle.original.specs.Machine.{Outcome, ok, assert}
use Rattle.original.specs.MappingResult.{Mapped, mapped, Addr, NotMapped}

pub record NoMapper : Type 0 where
  -- ram_size
  pub size : ℕ

-- `Default`
abbrev pub new : NoMapper
new = record { size = 0 }

-- only support 32KB
unfoldable pub init : NoMapper → ℕ → ℕ → Outcome NoMapper
init self banks size = assert (eqb banks 2) (assert (leb size 0x2000) (ok (record { size = size })))

unfoldable pub map_read_rom0 : NoMapper → ℕ → Outcome ℕ
map_read_rom0 self addr = ok addr

-- return the same address
unfoldable pub map_read_romx : NoMapper → ℕ → Outcome ℕ
map_read_romx self addr = ok addr

unfoldable pub map_ram_read : NoMapper → ℕ → Outcome (Mapped NoMapper)
map_ram_read self addr =
    pick (eqb self.size 0) (ok (mapped self NotMapped)) (ok (mapped self (Addr (bit_and addr (self.size - 1)))))

unfoldable pub map_ram_write : NoMapper → ℕ → ℕ → Outcome (Mapped NoMapper)
map_ram_write self addr byte = map_ram_read self addr

-- the trait's own: ignored
unfoldable pub write_bank_controller_register : NoMapper → ℕ → ℕ → Outcome NoMapper
write_bank_controller_register self addr byte = ok self
