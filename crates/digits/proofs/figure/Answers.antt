-- `digits::figure` meets its contract: `0` to `9`, and then `A` on.
use mathlib.Core.Path.{sym}
use native.Mathlib.Omega.{arith}
use Rattle.digits.proofs.Laws.{figure_low, figure_high}
use Rattle.digits.proofs.figure.Goals as goal

pub returns-then-digit-lt10 : goal.returns-then-digit-lt10
returns-then-digit-lt10 c =
    let t = c.if-digit-lt10.true in
    sym (figure_low c.args.digit (omega arith))

pub returns-else-digit-lt10 : goal.returns-else-digit-lt10
returns-else-digit-lt10 c =
    let t = c.if-digit-lt10.false in
    sym (figure_high c.args.digit (omega arith))
