-- The registers as the bus reads and writes them (Clock 7, Clock 8).
use Rattle.std.specs.Prelude.{Bool, false, List, [], ◌∷◌, ℕ, ◌+◌, ◌*◌, ◌/◌, ◌%◌, eqb}
use Rattle.facts.specs.Choice.{bit}
use Rattle.clock_registers.specs.declared.Registers.{Registers}

-- Clock 1: "At the start all of it is 0 but the time"
abbrev pub zeros : Registers
zeros = record { second = 0; minute = 0; hour = 0; day = 0; halt = false; carry = false }

-- Clock 7: "4 packs three: bit 7 is the carry, bit 6 is halt, bit 0 is the day's bit 8; its other bits are 0"
abbrev pub flags_of : Registers → ℕ
flags_of r = bit r.carry * 128 + (bit r.halt * 64 + r.day / 256 % 2)

-- Clock 7: "Register 0 is the second, 1 the minute, 2 the hour, 3 the low eight bits of the day"
abbrev pub readings : Registers → List ℕ
readings r = r.second ∷ r.minute ∷ r.hour ∷ r.day % 256 ∷ flags_of r ∷ []

abbrev pub registers : ℕ → ℕ → ℕ → ℕ → Bool → Bool → Registers
registers s m h d halt carry = record { second = s; minute = m; hour = h; day = d; halt = halt; carry = carry }

-- Clock 8: "Of a written byte second and minute take the low six bits, the hour the low five, register 3 all eight; register 4
-- takes its three. The day's other bits stay"
abbrev pub writings : Registers → ℕ → List Registers
writings r b =
    registers (b % 64) r.minute r.hour r.day r.halt r.carry
    ∷ registers r.second (b % 64) r.hour r.day r.halt r.carry
    ∷ registers r.second r.minute (b % 32) r.day r.halt r.carry
    ∷ registers r.second r.minute r.hour (r.day / 256 % 2 * 256 + b) r.halt r.carry
    ∷ registers r.second r.minute r.hour (b % 2 * 256 + r.day % 256) (eqb (b / 64 % 2) 1) (eqb (b / 128 % 2) 1)
    ∷ []
