-- `mbc3::Mbc3::latch` meets its contract: with a timer or without.
use Rattle.mbc3.specs.Registers.{latched}
use Rattle.mbc3.proofs.Mbc3.latch.Goals as goal

pub returns-then-self : goal.returns-then-self
unfolding latched
returns-then-self c =
    simp (c.if-self.true, c.latch.ensures)

pub returns : goal.returns
unfolding latched
returns c =
    simp c.if-self.false
