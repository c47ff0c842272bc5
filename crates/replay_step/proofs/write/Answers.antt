-- `replay_step::write` meets its contract, by the bus's answer.
use mathlib.Core.Path.{refl, sym, ◌∙◌}
use native.Mathlib.Omega.{arith}
use Rattle.lines.proofs.Laws.{length_addressed, put_number_lem}
use Rattle.replay_step.specs.Step.{machine}
use Rattle.replay_step.proofs.Laws.{did_by, wrote}
use Rattle.replay_step.proofs.write.Goals as goal

pub returns-in-Ok : goal.returns-in-Ok
returns-in-Ok c =
    let a = c.args in
    let p = c.put_addressed.ensures in
    let e = sym c.in-Ok.is ∙ c.write.ensures.value in
    record {
      did = did_by (wrote (machine a.cart a.ram.now) e c.write.ensures.ram_after) refl p;
      end_bound = omega
          (arith, p.behind, length_addressed 87 a.addr a.byte);
    }

pub returns-in-Err : goal.returns-in-Err
returns-in-Err c =
    let a = c.args in
    let p = c.put_refused.ensures in
    let e = sym c.in-Err.is ∙ c.write.ensures.value in
    record {
      did = did_by (wrote (machine a.cart a.ram.now) e c.write.ensures.ram_after) refl
          (put_number_lem 88 c.number.ensures p.put);
      end_bound = p.upper_bound;
    }
