-- `clock::Clock::advance` meets its contract: unfit but for the running registers, unfit there, late, advanced.
use mathlib.Core.Path.{sym, ◌∙◌}
use native.Mathlib.Omega.{arith}
use borrow.Author.Tests.{ltb-true}
use Rattle.clock_registers.specs.Fit.{fit_registers}
use Rattle.facts.proofs.ChoiceLaws.{both_right}
use Rattle.clock.proofs.AnswerLaws.{rest_tested, unfit_rest, unfit_running, late_by, advanced_by}
use Rattle.clock.proofs.Clock.advance.Goals as goal

pub returns-then-not-both : goal.returns-then-not-both
returns-then-not-both c =
    let t = rest_tested c.args.self c.both.ensures c.fit.ensures in
    unfit_rest c.args.self c.args.n (t ∙ c.if-not-both.true)

pub elapsed-gone-requires : goal.elapsed-gone-requires
elapsed-gone-requires c =
    let t = rest_tested c.args.self c.both.ensures c.fit.ensures in
    ltb-true c.args.self.sub 2097152 (both_right (fit_registers c.args.self.frozen) _ (t ∙ c.if-not-both.false))

pub returns-in_default : goal.returns-in_default
returns-in_default c =
    let t = rest_tested c.args.self c.both.ensures c.fit.ensures in
    unfit_running c.args.self c.args.n (t ∙ c.if-not-both.false) c.elapsed-gone.ensures (sym c.forward.ensures ∙ c.in_default.is)

pub returns-then-self-gone : goal.returns-then-self-gone
returns-then-self-gone c =
    let t = rest_tested c.args.self c.both.ensures c.fit.ensures in
    late_by c.args.self c.args.n (t ∙ c.if-not-both.false) c.elapsed-gone.ensures (sym c.forward.ensures ∙ c.in-Some.is) c.if-self-gone.true

pub returns : goal.returns
returns c =
    let t = rest_tested c.args.self c.both.ensures c.fit.ensures in
    advanced_by c.args.self c.args.n (t ∙ c.if-not-both.false) c.elapsed-gone.ensures (sym c.forward.ensures ∙ c.in-Some.is) c.if-self-gone.false (omega (arith, c.struct_known-3-1.given, c.struct_known-2-1.given))
