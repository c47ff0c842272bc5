-- Save files, over the bytes of a state.
use Rattle.std.specs.Prelude.{List, ℕ, Ok, Err, Some, None, Result, Option}
use Rattle.save_file.specs.Admit.{number_of}
use Rattle.save_file.specs.Save as save
use Rattle.save_file.specs.Load as load
use Rattle.save_file.specs.declared.SaveRefusal.{SaveRefusal}
use Rattle.states.specs.Layout.{encode_of}
use Rattle.states.specs.Reading.{decode_of}
use Rattle.states.specs.OnState.{on_state}
use Rattle.player.specs.Bus.{no_state}
use Rattle.cartridge.specs.declared.Cartridge.{Cartridge}

-- ---- a size, of the room that a save asks for or of what was written

abbrev pub size_number : Result ℕ SaveRefusal → ℕ
size_number (Ok n) = 0
size_number (Err w) = number_of w

abbrev pub size_told : ℕ → Result ℕ SaveRefusal → ℕ
size_told size (Ok n) = n
size_told size (Err w) = size

unfoldable pub size_of : List ℕ → ℕ
size_of s = on_state (λ c. size_number (save.room_for c)) no_state (decode_of s)

unfoldable pub size_asked : List ℕ → ℕ → ℕ
size_asked s size = on_state (λ c. size_told size (save.room_for c)) size (decode_of s)

-- ---- out

unfoldable pub save_of : List ℕ → List ℕ → ℕ → ℕ → ℕ
save_of s ram room wall = on_state (λ c. size_number (save.save_of c ram room wall)) no_state (decode_of s)

unfoldable pub size_saved : List ℕ → List ℕ → ℕ → ℕ → ℕ → ℕ
size_saved s ram room wall size = on_state (λ c. size_told size (save.save_of c ram room wall)) size (decode_of s)

unfoldable pub room_saved : List ℕ → List ℕ → List ℕ → ℕ → List ℕ
room_saved s ram room wall = on_state (λ c. save.room_after c ram room wall) room (decode_of s)

-- ---- in

abbrev pub loaded_number : Result (Option Cartridge) SaveRefusal → ℕ
loaded_number (Ok (Some c)) = 0
loaded_number (Ok None) = 0
loaded_number (Err w) = number_of w

abbrev pub loaded_state : List ℕ → Result (Option Cartridge) SaveRefusal → List ℕ
loaded_state s (Ok (Some c)) = encode_of c
loaded_state s (Ok None) = s
loaded_state s (Err w) = s

-- Player 12: "1 where a clock came, 0 where only the RAM did (Save 9). A refusal leaves these numbers too."
abbrev pub loaded_clock : ℕ → Result (Option Cartridge) SaveRefusal → ℕ
loaded_clock k (Ok (Some c)) = 1
loaded_clock k (Ok None) = 0
loaded_clock k (Err w) = k

unfoldable pub load_of : List ℕ → ℕ → List ℕ → ℕ → ℕ
load_of s area bytes wall = on_state (λ c. loaded_number (load.load_of c area bytes wall)) no_state (decode_of s)

unfoldable pub state_loaded : List ℕ → ℕ → List ℕ → ℕ → List ℕ
state_loaded s area bytes wall = on_state (λ c. loaded_state s (load.load_of c area bytes wall)) s (decode_of s)

unfoldable pub area_loaded : List ℕ → List ℕ → List ℕ → ℕ → List ℕ
area_loaded s ram bytes wall = on_state (λ c. load.area_after c ram bytes wall) ram (decode_of s)

unfoldable pub clock_loaded : List ℕ → ℕ → List ℕ → ℕ → ℕ → ℕ
clock_loaded s area bytes wall k = on_state (λ c. loaded_clock k (load.load_of c area bytes wall)) k (decode_of s)
