-- One record of a replay: what it does to the bus, and its line (Trace 6).
use Rattle.std.specs.Prelude.{List, [], ◌≡◌, ℕ}
use Rattle.trace.specs.declared.Record.{Record}
use Rattle.trace.specs.declared.Record.TheVariants.{Read, Write, Clocks}
use Rattle.digits.specs.Put.{Put}
use Rattle.cartridge.specs.declared.Cartridge.{Cartridge}
use Rattle.bus.specs.Run.{Access, reads, writes, clocks, Answer, gave, took, refused, Machine, Left}
use Rattle.lines.specs.Lines.{numbered, addressed}

-- what a record does to the bus
abbrev pub access_of : Record → Access
access_of (Read addr) = reads addr
access_of (Write addr byte) = writes addr byte
access_of (Clocks count) = clocks count

-- `R` (82), `W` (87) and `C` (67) where an access is accepted; Trace 6: "A refused record, clocks too, is `X` and its number", `X` is 88.
-- A read is never answered without a byte, nor another access with one.
abbrev pub line_of : Access → Answer → List ℕ
line_of (reads addr) (gave byte) = addressed 82 addr byte
line_of (reads addr) took = []
line_of (reads addr) (refused n) = numbered 88 n
line_of (writes addr byte) (gave b) = []
line_of (writes addr byte) took = addressed 87 addr byte
line_of (writes addr byte) (refused n) = numbered 88 n
line_of (clocks n) (gave b) = []
line_of (clocks n) took = numbered 67 n
line_of (clocks n) (refused k) = numbered 88 k

abbrev pub machine : Cartridge → List ℕ → Machine
machine c area = record { cart = c; area = area }

-- an access with its answer, what it left, and its line written at a place of the room
pub record Did (x : Left) (a : Access) (room : List ℕ) (at : ℕ) (left : Machine) (after : List ℕ) (end : ℕ) : Type 0 where
  pub leaves : left ≡ x.left
  pub line : Put room at (line_of a x.answer) after end
