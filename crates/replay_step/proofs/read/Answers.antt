-- `replay_step::read` meets its contract, by the bus's answer.
use mathlib.Core.Path.{refl, sym, ap, ◌∙◌}
use native.Mathlib.Omega.{arith}
use Rattle.bus.specs.Run.{after_read}
use Rattle.lines.proofs.Laws.{length_addressed, put_number_lem}
use Rattle.replay_step.specs.Step.{machine}
use Rattle.replay_step.proofs.Laws.{did_by}
use Rattle.replay_step.proofs.read.Goals as goal

pub returns-in-Ok : goal.returns-in-Ok
returns-in-Ok c =
    let a = c.args in
    let p = c.put_addressed.ensures in
    let e = sym c.in-Ok.is ∙ c.read.ensures in
    record {
      did = did_by (ap (after_read (machine a.cart a.ram.now)) e) refl p;
      upper_bound = omega
          (arith, p.behind, length_addressed 82 a.addr c.in-Ok.byte);
    }

pub returns-in-Err : goal.returns-in-Err
returns-in-Err c =
    let a = c.args in
    let p = c.put_refused.ensures in
    let e = sym c.in-Err.is ∙ c.read.ensures in
    record {
      did = did_by (ap (after_read (machine a.cart a.ram.now)) e) refl
          (put_number_lem 88 c.number.ensures p.put);
      upper_bound = p.upper_bound;
    }
