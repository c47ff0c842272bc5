-- `digits::put_digits` meets its contract: what is still to be written is the digits of the rest.
use Rattle.std.proofs.Common.{◌≡◌, ◌-◌, ◌≤◌}
use lib.Seq.{sets}
use Rattle.digits.specs.Digits.{digits_of}
use Rattle.digits.proofs.put_digits.Given as goal

abbrev pub invariant-loop-i : goal.invariant-loop-i
invariant-loop-i l =
    (l.at ≤ l.i) × (sets l.room l.at (digits_of l.base (l.i - l.at) l.rest) ≡ sets l.initial.room l.at (digits_of l.base l.count l.n))
