-- `mbc5::Mbc5::ram_at` meets its contract: enabled or not.
use Rattle.mbc5.specs.Registers.{ram_at}
use Rattle.mbc5.proofs.Mbc5.ram_at.Goals as goal

pub returns-then-self : goal.returns-then-self
unfolding ram_at
returns-then-self c =
    simp c.if-self.true c.ram_place.ensures

pub returns : goal.returns
unfolding ram_at
returns c =
    simp c.if-self.false
