-- The bench table: its eight rows (Bench 1 to 8), and what it means that a row holds.
use Rattle.std.specs.Prelude.{Bool, true, false, ◌≡◌, List, [], ◌∷◌, ℕ, ◌+◌, ◌<◌, ◌≤◌, Ok}
use Rattle.clock.specs.Fit.{fit_clock}
use Rattle.clock.specs.Ticking.{advance_of}
use Rattle.clock_registers.specs.Access.{registers}
use Rattle.clock_registers.specs.Seconds.{second_on}
use Rattle.clock_registers.specs.declared.Registers.{Registers}
use Rattle.clock.specs.declared.Clock.{Clock}
use Rattle.runs.specs.Time.{seconds_of}
use Rattle.banking.specs.Banks.{rom_place}
use Rattle.mbc1.specs.Registers as mbc1
use Rattle.mbc1.specs.declared.Mbc1 as declared
use Rattle.mapper.specs.Mappers.{bank_at}
use Rattle.mapper.specs.declared.Mapper.TheVariants.{Mbc1}

-- what stands before, the clocks, the seconds that pass, and what stands after
pub record Passing : Type 0 where
  pub before : Registers
  pub sub : ℕ
  pub clocks : ℕ
  pub passed : ℕ
  pub after : Registers
  pub rest : ℕ

-- an address that an MBC1 maps: banks, low and two-bit register, address, place; a byte that a multicart's low register
-- stores: byte, register; clocks that pass
pub data Row : Type 0 where
  maps : ℕ → ℕ → ℕ → ℕ → ℕ → Row
  stores : ℕ → ℕ → Row
  passes : Passing → Row

-- not halted: day, hour, minute, second, carry
abbrev pub at : ℕ → ℕ → ℕ → ℕ → Bool → Registers
at d h m s c = registers s m h d false c

abbrev pub clock_of : Registers → ℕ → ℕ → Bool → Registers → Clock
clock_of r x t l f = record { running = r; sub = x; time = t; latched = l; frozen = f }

-- a row of the mapper holds in both modes, enabled or not, and of any multicart; one of the clock at any time with room,
-- frozen or not, whatever the copy is
abbrev pub Holds : Row → Type 0
Holds (maps banks low two addr place) =
    (enabled mode : Bool) → rom_place banks (bank_at (Mbc1 (mbc1.mbc1 false enabled mode low two)) addr) addr ≡ place
Holds (stores byte low) =
    (m : declared.Mbc1) (addr : ℕ) → m.multicart ≡ true → 0x2000 ≤ addr → addr < 0x4000 → (mbc1.written m addr byte).low ≡ low
Holds (passes w) =
    (t : ℕ) (l : Bool) (f : Registers) → fit_clock (clock_of w.before w.sub t l f) ≡ true
    → t + w.passed ≤ 18446744073709551615
    → advance_of (clock_of w.before w.sub t l f) w.clocks ≡ Ok (clock_of w.after w.rest (t + w.passed) l f)

abbrev pub All : List Row → Type 0
All [] = Unit {0}
All (w ∷ ws) = Holds w × All ws

-- whole seconds, after which the sub-second is what it was
abbrev pub seconds : Registers → ℕ → ℕ → Registers → Row
seconds r x k q = passes (record { before = r; sub = x; clocks = seconds_of k; passed = k; after = q; rest = x })

-- one clock, which completes a second
abbrev pub one_clock : Registers → ℕ → Registers → ℕ → Row
one_clock r x q y = passes (record { before = r; sub = x; clocks = 1; passed = 1; after = q; rest = y })

-- d, h, m, s, x and c: the day, hour, minute, second, sub-second and carry that a row leaves open; Clock 4: "The carry stays until a
-- write to register 4 clears it"
abbrev pub rows : ℕ → ℕ → ℕ → ℕ → ℕ → Bool → List Row
rows d h m s x c =
    -- Bench 1: "MBC1 of 128 banks, low register 0x12, two-bit register 2: 0x4000 shows place 0x148000."
    maps 128 0x12 2 0x4000 0x148000
    -- Bench 2: "The same with 64 banks: place 0x48000."
    ∷ maps 64 0x12 2 0x4000 0x48000
    -- Bench 3: "A multicart's low register, 0x10 written: 0."
    ∷ stores 0x10 0
    -- Bench 4: "Day 511, 23:59:59, a second on: day 0, 00:00:00, carry."
    ∷ seconds (at 511 23 59 59 c) x 1 (at 0 0 0 0 true)
    -- Bench 5: "Second 60, four seconds on: second 0, the same minute."
    ∷ seconds (at d h m 60 c) x 4 (at d h m 0 c)
    -- Bench 6: "Minute 63, second 59, a second on: minute 0, the same hour."
    ∷ seconds (at d h 63 59 c) x 1 (at d h 0 0 c)
    -- Bench 7: "A sub-second of 2,097,151 and a clock more: the next second."
    ∷ one_clock (at d h m s c) 2097151 (second_on (at d h m s c)) 0
    -- Bench 8: "00:00:40, 30 seconds on: 00:01:10"
    ∷ seconds (at d 0 0 40 c) x 30 (at d 0 1 10 c)
    ∷ []
