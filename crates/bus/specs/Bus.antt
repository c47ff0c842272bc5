-- The bus: what an access is answered, and what the cartridge and the RAM area then are (Bus 4 to 7, Order 4).
use Rattle.std.specs.Prelude.{Bool, false, List, ℕ, eqb, length, Ok, Err, Result}
use Rattle.facts.specs.Choice.{both}
use Rattle.banking.specs.Banks.{rom_place}
use Rattle.image.specs.Image.{byte_at}
use Rattle.mapper.specs.Mappers.{bank_at, written, bad_selection}
use Rattle.window.specs.Window as window
use Rattle.cartridge.specs.Fit.{area_of}
use Rattle.cartridge.specs.With.{with_mapper}
use Rattle.cartridge.specs.declared.Cartridge.{Cartridge}
use Rattle.access.specs.Verdict.{verdict_of}
use Rattle.access.specs.declared.Target.{Target}
use Rattle.access.specs.declared.BusRefusal.{BusRefusal}
use Rattle.access.specs.declared.Target.TheVariants.{Rom, Ram}

-- else Numbers 14: "the image or the RAM area is not as long as the mounted one"; Order 4: "A read is lent image and RAM area,
-- a write the RAM area alone"
abbrev pub lent_both : Cartridge → ℕ → ℕ → Bool
lent_both c rom ram = both (eqb rom c.length) (eqb ram (area_of c))

abbrev pub lent_area : Cartridge → ℕ → Bool
lent_area c ram = eqb ram (area_of c)

unfoldable pub read_verdict : Cartridge → List ℕ → List ℕ → ℕ → Result Target BusRefusal
read_verdict c rom ram addr = verdict_of c (lent_both c (length rom) (length ram)) addr false

unfoldable pub write_verdict : Cartridge → List ℕ → ℕ → ℕ → Result Target BusRefusal
write_verdict c ram addr byte = verdict_of c (lent_area c (length ram)) addr (bad_selection c.mapper addr byte)

-- Bus 4: "the byte at (bank % count) * 0x4000 + address % 0x4000 of the padded image"
abbrev pub rom_byte : Cartridge → List ℕ → ℕ → ℕ
rom_byte c rom addr = byte_at rom (rom_place c.banks (bank_at c.mapper addr) addr)

abbrev pub read_by : Cartridge → List ℕ → List ℕ → ℕ → Result Target BusRefusal → Result ℕ BusRefusal
read_by c rom ram addr (Ok Rom) = Ok (rom_byte c rom addr)
read_by c rom ram addr (Ok Ram) = Ok (window.read_of c.mapper c.size ram addr)
read_by c rom ram addr (Err w) = Err w

unfoldable pub read_of : Cartridge → List ℕ → List ℕ → ℕ → Result ℕ BusRefusal
read_of c rom ram addr = read_by c rom ram addr (read_verdict c rom ram addr)

abbrev pub write_by : Cartridge → ℕ → ℕ → Result Target BusRefusal → Result Cartridge BusRefusal
write_by c addr byte (Ok Rom) = Ok (with_mapper c (written c.mapper addr byte))
write_by c addr byte (Ok Ram) = Ok (with_mapper c (window.mapper_after c.mapper c.size addr byte))
write_by c addr byte (Err w) = Err w

-- Order 1: "every byte that was lent stay as they were", where the write is refused
abbrev pub area_by : Cartridge → List ℕ → ℕ → ℕ → Result Target BusRefusal → List ℕ
area_by c ram addr byte (Ok Rom) = ram
area_by c ram addr byte (Ok Ram) = window.area_after c.mapper c.size ram addr byte
area_by c ram addr byte (Err w) = ram

unfoldable pub write_of : Cartridge → List ℕ → ℕ → ℕ → Result Cartridge BusRefusal
write_of c ram addr byte = write_by c addr byte (write_verdict c ram addr byte)

unfoldable pub area_after : Cartridge → List ℕ → ℕ → ℕ → List ℕ
area_after c ram addr byte = area_by c ram addr byte (write_verdict c ram addr byte)
