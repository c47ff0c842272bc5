-- `mbc1::Mbc1::bank_x` meets its contract: the two registers joined.
use mathlib.Core.Bool.{true, false}
use native.Mathlib.Omega.{arith}
use Rattle.mbc1.proofs.Laws.{two_joined, bank_lt}
use Rattle.mbc1.proofs.Mbc1.bank_x.Goals as goal

pub overflow_cast-result : goal.overflow_cast-result
overflow_cast-result c =
    omega (arith, two_joined c.args.self true c.requires c.if-self.true, bank_lt c.args.self c.requires)

pub returns-then-self : goal.returns-then-self
returns-then-self c =
    two_joined c.args.self true c.requires c.if-self.true

pub overflow_cast-result-2 : goal.overflow_cast-result-2
overflow_cast-result-2 c =
    omega (arith, two_joined c.args.self false c.requires c.if-self.false, bank_lt c.args.self c.requires)

pub returns : goal.returns
returns c =
    two_joined c.args.self false c.requires c.if-self.false
