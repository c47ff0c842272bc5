-- Mounting, reads, writes and passing clocks, over the bytes of a state.
use Rattle.std.specs.Prelude.{List, ℕ, ◌+◌, Ok, Err, Result}
use Rattle.clock.specs.Ticking as clock
use Rattle.clock.specs.declared.AdvanceRefusal.{AdvanceRefusal}
use Rattle.mount.specs.Mount as mount
use Rattle.mount.specs.declared.MountRefusal.{MountRefusal}
use Rattle.access.specs.Verdict.{number_of}
use Rattle.access.specs.declared.BusRefusal.{BusRefusal}
use Rattle.bus.specs.Bus as bus
use Rattle.bus.specs.Advance as advance
use Rattle.states.specs.Layout.{encode_of}
use Rattle.states.specs.Reading.{decode_of}
use Rattle.states.specs.OnState.{on_state}
use Rattle.cartridge.specs.declared.Cartridge.{Cartridge}

-- Player 3: "Bytes are no state, number 13"
abbrev pub no_state : ℕ
no_state = 13

-- Player 7: "A read answers its byte, or 0x100 plus the number"
abbrev pub refused : ℕ
refused = 0x100

-- ---- mounting

abbrev pub mount_number : Result Cartridge MountRefusal → ℕ
mount_number (Ok c) = 0
mount_number (Err w) = mount.number_of w

abbrev pub mount_state : List ℕ → Result Cartridge MountRefusal → List ℕ
mount_state s (Ok c) = encode_of c
mount_state s (Err w) = s

unfoldable pub mount_of : List ℕ → List ℕ → ℕ → ℕ
mount_of image ram wall = mount_number (mount.mount_of image ram wall)

unfoldable pub state_mounted : List ℕ → List ℕ → List ℕ → ℕ → List ℕ
state_mounted s image ram wall = mount_state s (mount.mount_of image ram wall)

-- ---- a read

abbrev pub read_number : Result ℕ BusRefusal → ℕ
read_number (Ok b) = b
read_number (Err w) = refused + number_of w

unfoldable pub read_of : List ℕ → List ℕ → List ℕ → ℕ → ℕ
read_of s rom ram addr = on_state (λ c. read_number (bus.read_of c rom ram addr)) (refused + no_state) (decode_of s)

-- ---- a write: its number; `state_written` and `area_written` of `flat_write` are what it leaves

abbrev pub write_number : Result Cartridge BusRefusal → ℕ
write_number (Ok c) = 0
write_number (Err w) = number_of w

unfoldable pub write_of : List ℕ → List ℕ → ℕ → ℕ → ℕ
write_of s ram addr byte = on_state (λ c. write_number (bus.write_of c ram addr byte)) no_state (decode_of s)

-- ---- passing clocks: the number; `state_advanced` of `flat_write` is what is left

abbrev pub advance_number : Result Cartridge AdvanceRefusal → ℕ
advance_number (Ok c) = 0
advance_number (Err w) = clock.number_of w

unfoldable pub advance_of : List ℕ → ℕ → ℕ
advance_of s n = on_state (λ c. advance_number (advance.advance_of c n)) no_state (decode_of s)
