-- The windows as six numbers, and accesses through them.
use Rattle.std.specs.Prelude.{List, [], ◌∷◌, ℕ, ◌+◌, get_or, Ok, Err, Some, None, Result, Option}
use Rattle.states.specs.Reading.{decode_of}
use Rattle.windows.specs.Windows.{ask_of}
use Rattle.windows.specs.Through.{seen_of, put_of, area_after}
use Rattle.windows.specs.declared.Windows.{Windows}
use Rattle.windows.specs.declared.Miss.{Miss}
use Rattle.windows.specs.declared.Miss.TheVariants.{BadAddress, Ask}
use Rattle.states.specs.OnState.{on_state}
use Rattle.player.specs.Bus.{no_state, refused}

-- Player 9: "the places in the image that 0x0000 and 0x4000 show, the place in the RAM area that 0xA000 shows, the mask .. how the window is
-- mapped, and a zero"
abbrev pub numbers_of : Windows → List ℕ
numbers_of w = w.rom0 ∷ w.romx ∷ w.ram ∷ w.mask ∷ w.how ∷ 0 ∷ []

abbrev pub windows_in : List ℕ → Windows
windows_in s =
    record { rom0 = get_or s 0 0; romx = get_or s 1 0; ram = get_or s 2 0; mask = get_or s 3 0; how = get_or s 4 0 }

abbrev pub asked_number : Option Windows → ℕ
asked_number (Some w) = 0
asked_number None = no_state

abbrev pub asked_windows : List ℕ → Option Windows → List ℕ
asked_windows s (Some w) = numbers_of w
asked_windows s None = s

unfoldable pub windows_number : List ℕ → ℕ
windows_number s = on_state (λ c. asked_number (ask_of c)) no_state (decode_of s)

unfoldable pub windows_after : List ℕ → List ℕ → List ℕ
windows_after s numbers = on_state (λ c. asked_windows numbers (ask_of c)) numbers (decode_of s)

-- Player 7: "Where windows cannot say, the answer is 0x200: ask the state." Player 10: "Any other address is number 15."
abbrev pub ask : ℕ
ask = 0x200

abbrev pub seen_number : Result ℕ Miss → ℕ
seen_number (Ok b) = b
seen_number (Err BadAddress) = refused + 15
seen_number (Err Ask) = ask

abbrev pub put_number : Result (Unit {0}) Miss → ℕ
put_number (Ok tt) = 0
put_number (Err BadAddress) = 15
put_number (Err Ask) = ask

unfoldable pub window_read : List ℕ → List ℕ → List ℕ → ℕ → ℕ
window_read numbers rom ram addr = seen_number (seen_of (windows_in numbers) rom ram addr)

unfoldable pub window_write : List ℕ → ℕ → ℕ
window_write numbers addr = put_number (put_of (windows_in numbers) addr)

unfoldable pub area_through : List ℕ → List ℕ → ℕ → ℕ → List ℕ
area_through numbers ram addr byte = area_after (windows_in numbers) ram addr byte
