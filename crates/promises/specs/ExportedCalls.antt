-- The exported calls that refuse, each on any bytes: its tests, its numbers, and the bytes that it is lent to write. A call on a state has the
-- tests of the call on the cartridge that the bytes are; on bytes that are none the first of them holds.
use Rattle.std.specs.Prelude.{true, false, not, List, [], ◌∷◌, ◌++◌, ℕ, ◌+◌, ◌%◌, length, get_or, Option}
use Rattle.facts.specs.Choice.{pick, either}
use Rattle.facts.specs.Refusals.{No, no}
use Rattle.clock.specs.Ticking as clock
use Rattle.clock.specs.declared.AdvanceRefusal.{AdvanceRefusal}
use Rattle.clock.specs.declared.AdvanceRefusal.TheVariants as advancing-no
use Rattle.header.specs.Check as header
use Rattle.header.specs.declared.HeaderRefusal.{HeaderRefusal}
use Rattle.image.specs.Image.{byte_at}
use Rattle.clock_block.specs.declared.BlockRefusal.TheVariants as block
use Rattle.cartridge.specs.Fit.{fit_cart}
use Rattle.cartridge.specs.declared.Cartridge.{Cartridge}
use Rattle.mount.specs.Mount as mount
use Rattle.mount.specs.declared.MountRefusal.{MountRefusal}
use Rattle.access.specs.Verdict as access
use Rattle.access.specs.declared.BusRefusal.{BusRefusal}
use Rattle.access.specs.declared.BusRefusal.TheVariants.{Unfit, WrongLength, BadAddress, BadSelection}
use Rattle.save_file.specs.Admit as admit
use Rattle.save_file.specs.declared.SaveRefusal.{SaveRefusal}
use Rattle.save_file.specs.declared.SaveRefusal.TheVariants as saving-no
use Rattle.states.specs.Reading.{decode_of}
use Rattle.states.specs.OnState.{on_state}
use Rattle.windows.specs.Through.{place_in, rom_start}
use Rattle.windows.specs.declared.Windows.{Windows}
use Rattle.flat_write.specs.Calls.{state_written, area_written, state_advanced}
use Rattle.player.specs.Header.{header_by, header_of, facts_after}
use Rattle.player.specs.Bus.{mount_number, mount_of, state_mounted, read_number, read_of, write_number, write_of, advance_number, advance_of}
use Rattle.player.specs.Save.{size_number, size_of, size_asked, save_of, room_saved, size_saved, loaded_number, load_of, state_loaded, area_loaded, clock_loaded}
use Rattle.player.specs.Windows.{windows_in, windows_number, windows_after, window_read, window_write, area_through}
use Rattle.promises.specs.Refusing.{Call}
use Rattle.promises.specs.PublicCalls.{checking, mounting, reading, writing, advancing, saving, sizing, loading}

-- a call, its answers as numbers
abbrev pub in_numbers : {R A : Type 0} → Call R A → (R → ℕ) → (A → ℕ) → (R → ℕ) → ℕ → List ℕ → List ℕ → Call R ℕ
in_numbers c number_of number refuse answer before after =
    record {
      tests = c.tests;
      number_of = number_of;
      refuse = refuse;
      accepted = number c.accepted;
      answer = answer;
      before = before;
      after = after;
    }

-- a call on the bytes of a state
abbrev pub on_bytes : {R A : Type 0} → (Cartridge → Call R A) → List (No R) → (R → ℕ) → (A → ℕ) → (R → ℕ) → Option Cartridge → ℕ → List ℕ → List ℕ → Call R ℕ
on_bytes f none number_of number refuse d answer before after =
    record {
      tests = on_state (λ c. (f c).tests) none d;
      number_of = number_of;
      refuse = refuse;
      accepted = on_state (λ c. number (f c).accepted) 0 d;
      answer = answer;
      before = before;
      after = after;
    }

-- `imf_header`, `imf_mount`
abbrev pub imf_header : List ℕ → List ℕ → Call HeaderRefusal ℕ
imf_header image facts =
    in_numbers (checking image) header.number_of header_by header.number_of (header_of image) facts (facts_after image facts)

abbrev pub imf_mount : List ℕ → List ℕ → List ℕ → ℕ → Call MountRefusal ℕ
imf_mount s image ram wall =
    in_numbers (mounting image ram wall) mount.number_of mount_number mount.number_of (mount_of image ram wall) (s ++ ram)
    (state_mounted s image ram wall ++ mount.area_after image ram wall)

-- `imf_write`
abbrev pub bus_none : List (No BusRefusal)
bus_none = no true Unfit ∷ no false WrongLength ∷ no false BadAddress ∷ no false BadSelection ∷ []

abbrev pub imf_write : List ℕ → List ℕ → ℕ → ℕ → Call BusRefusal ℕ
imf_write s ram addr byte =
    on_bytes (λ c. writing c ram addr byte) bus_none access.number_of write_number access.number_of (decode_of s) (write_of s ram addr byte) (s ++ ram)
    (state_written s ram addr byte ++ area_written s ram addr byte)

-- `imf_advance`
abbrev pub advance_none : List (No AdvanceRefusal)
advance_none = no true advancing-no.Unfit ∷ no false advancing-no.Late ∷ []

abbrev pub imf_advance : List ℕ → ℕ → Call AdvanceRefusal ℕ
imf_advance s n =
    on_bytes (λ c. advancing c n) advance_none clock.number_of advance_number clock.number_of (decode_of s) (advance_of s n) s (state_advanced s n)

-- `imf_save_size`, `imf_save_out`: the word for the size beside the room
abbrev pub size_none : List (No SaveRefusal)
size_none = no true saving-no.Unfit ∷ no false saving-no.NoBattery ∷ []

abbrev pub imf_save_size : List ℕ → ℕ → Call SaveRefusal ℕ
imf_save_size s size =
    on_bytes sizing size_none admit.number_of size_number admit.number_of (decode_of s) (size_of s) (size ∷ []) (size_asked s size ∷ [])

abbrev pub save_none : List (No SaveRefusal)
save_none = no true saving-no.Unfit ∷ no false saving-no.WrongLength ∷ no false saving-no.NoBattery ∷ no false saving-no.ShortRoom ∷ []

abbrev pub imf_save_out : List ℕ → List ℕ → List ℕ → ℕ → ℕ → Call SaveRefusal ℕ
imf_save_out s ram room wall size =
    on_bytes (λ c. saving c ram room wall) save_none admit.number_of size_number admit.number_of (decode_of s) (save_of s ram (length room) wall)
    (size ∷ room) (size_saved s ram (length room) wall size ∷ room_saved s ram room wall)

-- `imf_save_in`: lent are the state, the RAM area and the word for the clock
abbrev pub load_none : List (No SaveRefusal)
load_none =
    no true saving-no.Unfit
    ∷ no false saving-no.WrongLength
    ∷ no false saving-no.NoBattery
    ∷ no false saving-no.ShortSave
    ∷ no false (saving-no.Block block.Beyond)
    ∷ no false (saving-no.Block block.Late)
    ∷ []

abbrev pub imf_save_in : List ℕ → List ℕ → List ℕ → ℕ → ℕ → Call SaveRefusal ℕ
imf_save_in s ram bytes wall clock =
    on_bytes (λ c. loading c ram bytes wall) load_none admit.number_of loaded_number admit.number_of (decode_of s) (load_of s (length ram) bytes wall)
    (clock ∷ (s ++ ram)) (clock_loaded s (length ram) bytes wall clock ∷ (state_loaded s (length ram) bytes wall ++ area_loaded s ram bytes wall))

-- `imf_read`, whose numbers stand above a byte
abbrev pub read_refused : BusRefusal → ℕ
read_refused w = 0x100 + access.number_of w

abbrev pub imf_read : List ℕ → List ℕ → List ℕ → ℕ → Call BusRefusal ℕ
imf_read s image ram addr =
    on_bytes (λ c. reading c image ram addr) bus_none access.number_of read_number read_refused (decode_of s) (read_of s image ram addr) [] []

-- `imf_windows`, which has one refusal
abbrev pub windows_no : Unit {0} → ℕ
windows_no w = 13

abbrev pub imf_windows : List ℕ → List ℕ → Call (Unit {0}) ℕ
imf_windows s numbers =
    record {
      tests = on_state (λ c. no (not (fit_cart c)) tt ∷ []) (no true tt ∷ []) (decode_of s);
      number_of = windows_no;
      refuse = windows_no;
      accepted = 0;
      answer = windows_number s;
      before = numbers;
      after = windows_after s numbers;
    }

-- `imf_window_read`, `imf_window_write`, on any numbers as windows. Numbers 15: "the address is outside 0x0000 to 0x7FFF and 0xA000 to
-- 0xBFFF"
abbrev pub outside : ℕ → List (No (Unit {0}))
outside addr = no (not (either (access.in_rom addr) (access.in_ram addr))) tt ∷ []

abbrev pub outside_no : Unit {0} → ℕ
outside_no w = 15

abbrev pub outside_read : Unit {0} → ℕ
outside_read w = 0x100 + outside_no w

-- 0x200, which is no refusal: the state is to be asked
abbrev pub ask_state : ℕ
ask_state = 0x200

-- a byte of the image; in the RAM window by how it is mapped 0xFF, a byte of the area, a half-byte, and else that the state is to be asked
abbrev pub ram_byte : ℕ → ℕ → ℕ
ram_byte byte how = get_or (0xFF ∷ byte ∷ (0xF0 + byte % 16) ∷ []) how ask_state

abbrev pub byte_through : Windows → List ℕ → List ℕ → ℕ → ℕ
byte_through w image ram addr =
    pick (access.in_rom addr) (byte_at image (rom_start w addr + addr % 0x4000)) (ram_byte (get_or ram (place_in w addr) 0xFF) w.how)

-- a register is the state's; in the RAM window 0, and where that is not mapped to the area, that the state is to be asked
abbrev pub ram_taken : ℕ → ℕ
ram_taken how = get_or (0 ∷ 0 ∷ 0 ∷ []) how ask_state

abbrev pub taken_through : Windows → ℕ → ℕ
taken_through w addr = pick (access.in_rom addr) ask_state (ram_taken w.how)

abbrev pub imf_window_read : List ℕ → List ℕ → List ℕ → ℕ → Call (Unit {0}) ℕ
imf_window_read numbers image ram addr =
    record {
      tests = outside addr;
      number_of = outside_no;
      refuse = outside_read;
      accepted = byte_through (windows_in numbers) image ram addr;
      answer = window_read numbers image ram addr;
      before = [];
      after = [];
    }

abbrev pub imf_window_write : List ℕ → List ℕ → ℕ → ℕ → Call (Unit {0}) ℕ
imf_window_write numbers ram addr byte =
    record {
      tests = outside addr;
      number_of = outside_no;
      refuse = outside_no;
      accepted = taken_through (windows_in numbers) addr;
      answer = window_write numbers addr;
      before = ram;
      after = area_through numbers ram addr byte;
    }
