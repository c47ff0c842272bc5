-- A clock in the bytes of a state: where its fields are stored, and where they are read.
use Rattle.std.specs.Prelude.{Bool, List, [], ◌∷◌, ◌++◌, ℕ, ◌+◌}
use Rattle.facts.specs.Choice.{bit}
use Rattle.bytes_le.specs.Little.{field_at}
use Rattle.clock_registers.specs.Access as access
use Rattle.clock_registers.specs.declared.Registers.{Registers}
use Rattle.clock.specs.declared.Clock.{Clock}
use Rattle.state_fields.specs.Fields.{Field, field, flag_at}

-- the registers, seven bytes from a place on
abbrev pub clock_registers : ℕ → Registers → List Field
clock_registers at r =
    field at 1 r.second
    ∷ field (at + 1) 1 r.minute
    ∷ field (at + 2) 1 r.hour
    ∷ field (at + 3) 2 r.day
    ∷ field (at + 5) 1 (bit r.halt)
    ∷ field (at + 6) 1 (bit r.carry)
    ∷ []

abbrev pub clock : Clock → List Field
clock k =
    field 32 8 k.time
    ∷ field 40 4 k.sub
    ∷ field 44 1 (bit k.latched)
    ∷ clock_registers 45 k.running ++ clock_registers 52 k.frozen

-- where halt and carry stand
abbrev pub register_flags : ℕ → List ℕ
register_flags at = (at + 5) ∷ (at + 6) ∷ []

abbrev pub clock_flags : List ℕ
clock_flags = 44 ∷ register_flags 45 ++ register_flags 52

abbrev pub registers_in : List ℕ → ℕ → Registers
registers_in s at =
    access.registers (field_at 1 s at) (field_at 1 s (at + 1)) (field_at 1 s (at + 2)) (field_at 2 s (at + 3)) (flag_at s (at + 5))
    (flag_at s (at + 6))

abbrev pub clock_with : Registers → ℕ → ℕ → Bool → Registers → Clock
clock_with running sub time latched frozen =
    record { running = running; sub = sub; time = time; latched = latched; frozen = frozen }

abbrev pub clock_in : List ℕ → Clock
clock_in s = clock_with (registers_in s 45) (field_at 4 s 40) (field_at 8 s 32) (flag_at s 44) (registers_in s 52)
