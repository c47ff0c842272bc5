-- `digits::put_decimal` meets its contract: digits in base ten, as many as the number has.
use mathlib.Core.Path.{subst}
use Prim.Native.Nat.{ℕ}
use native.Mathlib.Omega.{arith}
use Rattle.digits.specs.Digits.{digits_of, decimal_of}
use Rattle.digits.specs.Put.{Put}
use Rattle.digits.proofs.Laws.{length_decimal}
use Rattle.digits.proofs.put_decimal.Goals as goal

pub put_digits-requires : goal.put_digits-requires
put_digits-requires c =
    let p = c.requires in
    record {
      base_nonzero = (omega arith, omega arith);
      count_in_bounds = omega (arith, p, c.width.ensures, length_decimal c.args.n);
    }

pub returns : goal.returns
unfolding decimal_of
returns c =
    let a = c.args in
    let d = c.put_digits in
    subst (λ (k : ℕ). Put a.room.now a.at (digits_of 10 k a.n) d.new.room d.result)
    c.width.ensures d.ensures
