-- `replay_step::put_refused` meets its contract: a number of eight bits has at most three digits.
use native.Mathlib.Omega.{arith}
use Rattle.digits.proofs.Laws.{length_decimal_8}
use Rattle.lines.proofs.Laws.{length_numbered}
use Rattle.replay_step.proofs.put_refused.Goals as goal

pub put_numbered-requires : goal.put_numbered-requires
put_numbered-requires c =
    let n = c.args.number in
    omega (arith, c.requires, length_numbered 88 n, length_decimal_8 n (omega (arith, c.ranges.number)))

pub returns : goal.returns
returns c =
    let n = c.args.number in
    let p = c.put_numbered.ensures in
    record {
      put = p;
      upper_bound = omega (arith, p.behind, length_numbered 88 n, length_decimal_8 n (omega (arith, c.ranges.number)));
    }
