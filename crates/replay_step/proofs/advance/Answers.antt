-- `replay_step::advance` meets its contract, by the bus's answer.
use mathlib.Core.Path.{refl, sym, ap, ◌∙◌}
use native.Mathlib.Omega.{arith}
use Rattle.bus.specs.Run.{after_clocks}
use Rattle.digits.proofs.Laws.{length_decimal_32}
use Rattle.lines.proofs.Laws.{length_numbered, put_number_lem}
use Rattle.replay_step.specs.Step.{machine}
use Rattle.replay_step.proofs.Laws.{did_by}
use Rattle.replay_step.proofs.advance.Goals as goal

pub put_numbered-requires : goal.put_numbered-requires
put_numbered-requires c =
    let n = c.args.count in
    omega (arith, c.requires, length_numbered 67 n, length_decimal_32 n (omega (arith, c.ranges.count)))

pub returns-in-Ok : goal.returns-in-Ok
returns-in-Ok c =
    let n = c.args.count in
    let p = c.put_numbered.ensures in
    let e = sym c.in-Ok.is ∙ c.advance.ensures in
    record {
      by_index = λ area. did_by (ap (after_clocks (machine c.args.cart area)) e) refl p;
      end_bound = omega
          (arith, p.behind, length_numbered 67 n, length_decimal_32 n (omega (arith, c.ranges.count)));
    }

pub returns-in-Err : goal.returns-in-Err
returns-in-Err c =
    let p = c.put_refused.ensures in
    let e = sym c.in-Err.is ∙ c.advance.ensures in
    record {
      by_index = λ area. did_by (ap (after_clocks (machine c.args.cart area)) e) refl
          (put_number_lem 88 c.number.ensures p.put);
      end_bound = omega (arith, p.upper_bound);
    }
