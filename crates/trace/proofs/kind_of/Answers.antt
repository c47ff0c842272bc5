-- `trace::kind_of` meets its contract: the two bytes as one number.
use mathlib.Core.Path.{refl}
use native.Mathlib.Omega.{arith}
use Rattle.trace.specs.Trace.{marks, kind_of}
use Rattle.trace.proofs.Laws.{marked, unmarked}
use Rattle.trace.proofs.kind_of.Goals as goal

pub returns-in-21060 : goal.returns-in-21060
unfolding kind_of marks
returns-in-21060 c =
    marked _ _ 0x52 0x44 c.ranges.second.fits (omega arith) c.in-21060.is refl

pub returns-in-22354 : goal.returns-in-22354
unfolding kind_of marks
returns-in-22354 c =
    marked _ _ 0x57 0x52 c.ranges.second.fits (omega arith) c.in-22354.is refl

pub returns-in-17227 : goal.returns-in-17227
unfolding kind_of marks
returns-in-17227 c =
    marked _ _ 0x43 0x4B c.ranges.second.fits (omega arith) c.in-17227.is refl

pub returns-in_default : goal.returns-in_default
unfolding kind_of marks
returns-in_default c =
    let a = c.args in
    let r = c.in_default.in_default-own.rest in
    unmarked marks a.first a.second (r.0.0.1, (r.0.1, (r.1, tt)))
