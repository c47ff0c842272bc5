-- `digits::put_digits` meets its contract: what is still to be written is the digits of the rest.
use Rattle.std.proofs.Common.{◌+◌, sym, ap, ◌∙◌, arith}
use Rattle.digits.proofs.Laws.{length_digits}
use Rattle.digits.proofs.PutLaws.{digits_none, digits_last}
use Rattle.digits.proofs.put_digits.Goals as goal

pub loop-i-preserved : goal.loop-i-preserved
loop-i-preserved c =
    let a = c.args in
    let l = c.loop-i in
    (omega arith, digits_last a.base l.i l.rest l.room a.at (omega arith) c.figure.ensures ∙ l.invariant.1)

pub returns : goal.returns
returns c =
    let a = c.args in
    let l = c.loop-i in
    record {
      is = digits_none a.base _ l.rest l.room a.at (omega arith) ∙ l.invariant.1;
      behind = ap (λ k. a.at + k) (sym (length_digits a.base a.count a.n));
    }
