-- Reads and writes through windows, whatever numbers they are.
use Rattle.std.specs.Prelude.{List, [], ◌∷◌, ℕ, ◌+◌, ◌%◌, ltb, get_or, set, Ok, Err, Result}
use Rattle.std.specs.Int.Bits.{bit_and}
use Rattle.facts.specs.Choice.{pick}
use Rattle.image.specs.Image.{byte_at}
use Rattle.access.specs.Verdict.{in_ram}
use Rattle.access.specs.declared.BusRefusal.{BusRefusal}
use Rattle.windows.specs.declared.Windows.{Windows}
use Rattle.windows.specs.declared.Miss.{Miss}
use Rattle.windows.specs.declared.Miss.TheVariants.{BadAddress, Ask}

-- Player 10: "at its place plus the address's bits in the mask"
abbrev pub place_in : Windows → ℕ → ℕ
place_in w addr = w.ram + bit_and addr w.mask

-- Player 10: "how 0 reads 0xFF .. how 1 and 2 are of the byte .. 0xFF past the area's end .. How 2 reads 0xF0 with that byte's low nibble ..
-- How 3, and any number above it .. are for the state"
unfoldable pub ram_seen : Windows → List ℕ → ℕ → Result ℕ Miss
ram_seen w ram addr =
    get_or
    (Ok 0xFF ∷ Ok (get_or ram (place_in w addr) 0xFF) ∷ Ok (0xF0 + get_or ram (place_in w addr) 0xFF % 16) ∷ [])
    w.how
    (Err Ask)

-- Player 10: "a ROM address reads the image at its window's place plus address % 0x4000"
abbrev pub rom_start : Windows → ℕ → ℕ
rom_start w addr = pick (ltb addr 0x4000) w.rom0 w.romx

unfoldable pub seen_of : Windows → List ℕ → List ℕ → ℕ → Result ℕ Miss
seen_of w rom ram addr =
    pick (ltb addr 0x8000) (Ok (byte_at rom (rom_start w addr + addr % 0x4000)))
    (pick (in_ram addr) (ram_seen w ram addr) (Err BadAddress))

unfoldable pub put_by : Windows → Result (Unit {0}) Miss
put_by w = get_or ((Ok tt) ∷ (Ok tt) ∷ (Ok tt) ∷ []) w.how (Err Ask)

unfoldable pub area_by : Windows → List ℕ → ℕ → ℕ → List ℕ
area_by w ram addr byte =
    get_or (ram ∷ set ram (place_in w addr) byte ∷ set ram (place_in w addr) (byte % 16) ∷ []) w.how ram

-- Player 10: "every write below 0x8000 are for the state: 0x200"
unfoldable pub put_of : Windows → ℕ → Result (Unit {0}) Miss
put_of w addr = pick (ltb addr 0x8000) (Err Ask) (pick (in_ram addr) (put_by w) (Err BadAddress))

unfoldable pub area_after : Windows → List ℕ → ℕ → ℕ → List ℕ
area_after w ram addr byte = pick (in_ram addr) (area_by w ram addr byte) ram

-- the bus's answers, as those through windows
abbrev pub from_read : Result ℕ BusRefusal → Result ℕ Miss
from_read (Ok b) = Ok b
from_read (Err w) = Err BadAddress
