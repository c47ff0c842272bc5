-- The save file written (Order 7, Save 1 to 4).
use Rattle.std.specs.Prelude.{List, [], ◌∷◌, ◌++◌, not, ℕ, ◌+◌, ltb, length, drop, Ok, Err, Result}
use Rattle.facts.specs.Refusals.{No, no, first_no}
use Rattle.mapper.specs.declared.Mapper.{Mapper}
use Rattle.battery.specs.Battery.{clock_in, battery_size, battery_bytes}
use Rattle.cartridge.specs.Fit.{fit_cart, area_of}
use Rattle.cartridge.specs.declared.Cartridge.{Cartridge}
use Rattle.save_file.specs.Admit.{admit_noes}
use Rattle.save_file.specs.declared.SaveRefusal.{SaveRefusal}
use Rattle.save_file.specs.declared.SaveRefusal.TheVariants.{Unfit, NoBattery, ShortRoom}

-- Save 1: "A save is the whole RAM area; with a timer a block of 21 bytes follows"
unfoldable pub bytes_of : Mapper → List ℕ → ℕ → List ℕ
bytes_of m ram wall = ram ++ battery_bytes (clock_in m) wall

-- Numbers 21: "the room for the save is too short"
abbrev pub room_noes : List ℕ → ℕ → List (No SaveRefusal)
room_noes bytes room = no (ltb room (length bytes)) ShortRoom ∷ []

unfoldable pub saved_of : List ℕ → ℕ → Result ℕ SaveRefusal
saved_of bytes room = first_no Err (room_noes bytes room) (Ok (length bytes))

-- Save 4: "A save is written to the start of the room, and what the room has behind it stays"; Order 1: "every byte that was
-- lent stay as they were", where it is refused
abbrev pub room_by : List ℕ → List ℕ → Result ℕ SaveRefusal → List ℕ
room_by bytes room (Ok n) = bytes ++ drop n room
room_by bytes room (Err w) = room

-- Order 7: "Writing a save asks 13, 14 of the RAM area, 18, 21, in this order"
unfoldable pub save_noes : Cartridge → List ℕ → ℕ → ℕ → List (No SaveRefusal)
save_noes c ram room wall = admit_noes c (length ram) ++ room_noes (bytes_of c.mapper ram wall) room

unfoldable pub save_of : Cartridge → List ℕ → ℕ → ℕ → Result ℕ SaveRefusal
save_of c ram room wall = first_no Err (save_noes c ram room wall) (Ok (length (bytes_of c.mapper ram wall)))

unfoldable pub room_after : Cartridge → List ℕ → List ℕ → ℕ → List ℕ
room_after c ram room wall = room_by (bytes_of c.mapper ram wall) room (save_of c ram (length room) wall)

-- the room that a save asks for, Order 7: "asking for its size 13, 18", and then the RAM area and what the battery keeps
abbrev pub ask_noes : Cartridge → List (No SaveRefusal)
ask_noes c = no (not (fit_cart c)) Unfit ∷ no (not c.battery) NoBattery ∷ []

unfoldable pub room_for : Cartridge → Result ℕ SaveRefusal
room_for c = first_no Err (ask_noes c) (Ok (area_of c + battery_size (clock_in c.mapper)))
