-- `mbc3::Mbc3::fit` meets its contract: with a timer or without.
use borrow.Author.Rules.{rules}
use mathlib.Core.Bool.{true, false}
use mathlib.Core.Path.{refl, sym, ap, ◌∙◌}
use lib.Dec.{leb}
use Rattle.facts.specs.Choice.{both}
use Rattle.facts.proofs.ChoiceLaws.{both_one}
use Rattle.mbc3.proofs.Laws.{fit_tested}
use Rattle.mbc3.proofs.Mbc3.fit.Goals as goal

pub returns-then-self : goal.returns-then-self
returns-then-self c =
    let s = c.args.self in
    fit_tested s true (search rules) c.if-self.true c.both-banks.ensures
    (c.both.ensures ∙ ap (both (leb s.register 4)) c.fit.ensures) c.both-then-self.ensures

pub returns : goal.returns
returns c =
    let s = c.args.self in
    fit_tested s false (search rules) c.if-self.false c.both-banks.ensures refl (sym (both_one _))
