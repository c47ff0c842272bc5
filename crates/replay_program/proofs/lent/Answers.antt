-- `replay_program::lent` meets its contract.
use native.Mathlib.Omega.{arith}
use Rattle.replay_program.proofs.Laws.{lent_by_lem, lent_all, lent_asked}
use Rattle.replay_program.proofs.lent.Goals as goal

pub returns-then-n-gt-RAM_MOST : goal.returns-then-n-gt-RAM_MOST
returns-then-n-gt-RAM_MOST c =
    let a = c.args in
    let e = lent_all a.image.now c.ask_area.ensures c.in-Ok.is c.if-n-gt-RAM_MOST.true in
    record {
      value = e;
      upper_bound = omega arith;
    }

pub returns-else-n-gt-RAM_MOST : goal.returns-else-n-gt-RAM_MOST
returns-else-n-gt-RAM_MOST c =
    let a = c.args in
    let e = lent_asked a.image.now c.ask_area.ensures c.in-Ok.is c.if-n-gt-RAM_MOST.false in
    record {
      value = e;
      upper_bound = c.if-n-gt-RAM_MOST.false;
    }

pub returns-in-Err : goal.returns-in-Err
returns-in-Err c =
    let a = c.args in
    let e = lent_by_lem a.image.now c.ask_area.ensures c.in-Err.is in
    record {
      value = e;
      upper_bound = omega arith;
    }
