-- Writes and passing clocks over the bytes of a state: the answer without the cartridge, and the bytes that are left.
use Rattle.std.specs.Prelude.{Bool, false, List, ℕ, Ok, Err, Result}
use Rattle.facts.specs.Choice.{pick}
use Rattle.access.specs.declared.BusRefusal.TheVariants as bus-refusal
use Rattle.access.specs.declared.BusRefusal.{BusRefusal}
use Rattle.clock.specs.declared.AdvanceRefusal.TheVariants as advance-refusal
use Rattle.clock.specs.declared.AdvanceRefusal.{AdvanceRefusal}
use Rattle.mapper.specs.declared.Mapper.{Mapper}
use Rattle.mapper.specs.declared.Mapper.TheVariants.{NoMapper, Mbc1, Mbc2, Mbc3, Mbc5}
use Rattle.bus.specs.Bus as bus
use Rattle.bus.specs.Advance as advance
use Rattle.states.specs.Layout.{encode_of}
use Rattle.states.specs.Reading.{decode_of}
use Rattle.states.specs.OnState.{on_state}
use Rattle.cartridge.specs.declared.Cartridge.{Cartridge}

-- ---- a write

abbrev pub wrote_by : Result Cartridge BusRefusal → Result (Unit {0}) BusRefusal
wrote_by (Ok c) = Ok tt
wrote_by (Err w) = Err w

-- the next cartridge's bytes; a refusal leaves them
abbrev pub write_state : List ℕ → Result Cartridge BusRefusal → List ℕ
write_state s (Ok c) = encode_of c
write_state s (Err w) = s

-- bytes that are none are as an unfit state
unfoldable pub wrote_of : List ℕ → List ℕ → ℕ → ℕ → Result (Unit {0}) BusRefusal
wrote_of s ram addr byte =
    on_state (λ c. wrote_by (bus.write_of c ram addr byte)) (Err bus-refusal.Unfit) (decode_of s)

unfoldable pub state_written : List ℕ → List ℕ → ℕ → ℕ → List ℕ
state_written s ram addr byte = on_state (λ c. write_state s (bus.write_of c ram addr byte)) s (decode_of s)

unfoldable pub area_written : List ℕ → List ℕ → ℕ → ℕ → List ℕ
area_written s ram addr byte = on_state (λ c. bus.area_after c ram addr byte) ram (decode_of s)

-- ---- passing clocks

abbrev pub passed_by : Result Cartridge AdvanceRefusal → Result (Unit {0}) AdvanceRefusal
passed_by (Ok c) = Ok tt
passed_by (Err w) = Err w

-- Player 11: "An advance without a timer .. leave them as they are", also those that the library would have written otherwise; else they
-- are the next cartridge's
abbrev pub timed : Mapper → Bool
timed (NoMapper m) = false
timed (Mbc1 m) = false
timed (Mbc2 m) = false
timed (Mbc3 m) = m.timer
timed (Mbc5 m) = false

abbrev pub advance_state : List ℕ → Result Cartridge AdvanceRefusal → List ℕ
advance_state s (Ok c) = pick (timed c.mapper) (encode_of c) s
advance_state s (Err w) = s

unfoldable pub passed_of : List ℕ → ℕ → Result (Unit {0}) AdvanceRefusal
passed_of s n =
    on_state (λ c. passed_by (advance.advance_of c n)) (Err advance-refusal.Unfit) (decode_of s)

unfoldable pub state_advanced : List ℕ → ℕ → List ℕ
state_advanced s n = on_state (λ c. advance_state s (advance.advance_of c n)) s (decode_of s)
