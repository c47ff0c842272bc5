-- `mbc1::Mbc1::fit` meets its contract: by whether it is a multicart.
use mathlib.Core.Bool.{true, false}
use mathlib.Core.Path.{refl}
use Rattle.mbc1.proofs.Laws.{fit_tested}
use Rattle.mbc1.proofs.Mbc1.fit.Goals as goal

pub returns-then-self : goal.returns-then-self
returns-then-self c =
    fit_tested c.args.self true c.if-self.true refl c.both.ensures

pub returns : goal.returns
returns c =
    fit_tested c.args.self false c.if-self.false c.both-2.ensures c.both-3.ensures
