-- How long a record's line is.
use Rattle.std.specs.Prelude.{Ok, Err, Result}
use mathlib.Core.List.{List}
use Prim.Native.Nat.{ℕ, ◌*◌, ◌<◌, ◌≤◌}
use native.Mathlib.Omega.{arith}
use lib.ListN.{length}
use Rattle.trace.specs.Trace.{size_of}
use Rattle.trace.specs.declared.Record.{Record}
use Rattle.trace.specs.declared.Record.TheVariants as record'
use Rattle.trace.proofs.Widths.{Narrow}
use Rattle.digits.proofs.Laws.{width_pos, length_decimal, length_decimal_8, length_decimal_32}
use Rattle.lines.specs.Lines.{numbered}
use Rattle.lines.proofs.Laws.{length_numbered, length_addressed}
use Rattle.clock.specs.Ticking as clock
use Rattle.clock.specs.declared.AdvanceRefusal.{AdvanceRefusal}
use Rattle.clock.specs.declared.AdvanceRefusal.TheVariants as late
use Rattle.access.specs.Verdict as access
use Rattle.access.specs.declared.BusRefusal.{BusRefusal}
use Rattle.access.specs.declared.BusRefusal.TheVariants.{Unfit, WrongLength, BadAddress, BadSelection}
use Rattle.bus.specs.Bus.{read_of, write_of, area_after}
use Rattle.bus.specs.Advance.{advance_of}
use Rattle.bus.specs.Run.{Access, reads, writes, clocks, Machine, after_read, after_write, after_clocks, step_of}
use Rattle.replay_step.specs.Step.{access_of, line_of}
use Rattle.cartridge.specs.declared.Cartridge.{Cartridge}

-- a refusal's number has at most three digits
length_refused : (n : ℕ) → n < 256 → length (numbered 88 n) ≤ 6
length_refused n h = omega (arith, length_numbered 88 n, length_decimal_8 n h)

bus_number : (w : BusRefusal) → access.number_of w < 256
bus_number Unfit = omega arith
bus_number WrongLength = omega arith
bus_number BadAddress = omega arith
bus_number BadSelection = omega arith

late_number : (w : AdvanceRefusal) → clock.number_of w < 256
late_number late.Unfit = omega arith
late_number late.Late = omega arith

numbered_there : (letter n : ℕ) → 4 ≤ length (numbered letter n)
numbered_there letter n = omega (arith, length_numbered letter n, length_decimal n, width_pos n)

-- at most five bytes for two of the record
module _ (rom : List ℕ) (m : Machine) where
  pub line_length : (r : Record) → Narrow r → 2 * length (line_of (access_of r) (step_of rom m (access_of r)).answer) ≤ 5 * size_of r
  line_length (record'.Read addr) h = go (read_of m.cart rom m.area addr)
    where
      go : (x : Result ℕ BusRefusal) → 2 * length (line_of (access_of (record'.Read addr)) (after_read m x).answer) ≤ 20
      go (Ok b) = omega (arith, length_addressed 82 addr b)
      go (Err w) = omega (arith, length_refused (access.number_of w) (bus_number w))
  line_length (record'.Write addr byte) h = go (write_of m.cart m.area addr byte)
    where
      go : (x : Result Cartridge BusRefusal)
          → 2 * length
          (line_of (access_of (record'.Write addr byte)) (after_write m x (area_after m.cart m.area addr byte)).answer) ≤ 25
      go (Ok c) = omega (arith, length_addressed 87 addr byte)
      go (Err w) = omega (arith, length_refused (access.number_of w) (bus_number w))
  line_length (record'.Clocks count) h = go (advance_of m.cart count)
    where
      go : (x : Result Cartridge AdvanceRefusal) → 2 * length (line_of (access_of (record'.Clocks count)) (after_clocks m x).answer) ≤ 30
      go (Ok c) = omega (arith, length_numbered 67 count, length_decimal_32 count h)
      go (Err w) = omega (arith, length_refused (clock.number_of w) (late_number w))

  -- and at least four: every access has a line, answered as it may be
  pub line_there : (a : Access) → 4 ≤ length (line_of a (step_of rom m a).answer)
  line_there (reads addr) = go (read_of m.cart rom m.area addr)
    where
      go : (x : Result ℕ BusRefusal) → 4 ≤ length (line_of (reads addr) (after_read m x).answer)
      go (Ok b) = omega (arith, length_addressed 82 addr b)
      go (Err w) = numbered_there 88 (access.number_of w)
  line_there (writes addr byte) = go (write_of m.cart m.area addr byte)
    where
      go : (x : Result Cartridge BusRefusal)
          → 4 ≤ length (line_of (writes addr byte) (after_write m x (area_after m.cart m.area addr byte)).answer)
      go (Ok c) = omega (arith, length_addressed 87 addr byte)
      go (Err w) = numbered_there 88 (access.number_of w)
  line_there (clocks n) = go (advance_of m.cart n)
    where
      go : (x : Result Cartridge AdvanceRefusal) → 4 ≤ length (line_of (clocks n) (after_clocks m x).answer)
      go (Ok c) = numbered_there 67 n
      go (Err w) = numbered_there 88 (clock.number_of w)
