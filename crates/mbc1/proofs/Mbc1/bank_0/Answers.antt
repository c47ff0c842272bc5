-- `mbc1::Mbc1::bank_0` meets its contract: moved in mode 1 only.
use mathlib.Core.Bool.{true, false}
use Rattle.mbc1.specs.Registers.{bank0, two_at}
use Rattle.mbc1.proofs.Laws.{two_shifted}
use Rattle.mbc1.proofs.Mbc1.bank_0.Goals as goal

pub returns-then-self-2 : goal.returns-then-self-2
unfolding bank0 two_at
returns-then-self-2 c =
    rw c.if-self.true (two_shifted c.args.self true c.requires c.if-self-2.true)

pub returns-then-self : goal.returns-then-self
unfolding bank0 two_at
returns-then-self c =
    rw c.if-self.true (two_shifted c.args.self false c.requires c.if-self-2.false)

pub returns : goal.returns
unfolding bank0
returns c =
    rw c.if-self.false
