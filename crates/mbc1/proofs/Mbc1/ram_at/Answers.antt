-- `mbc1::Mbc1::ram_at` meets its contract: enabled, and by the mode.
use Rattle.mbc1.specs.Registers.{ram_at, ram_bank}
use Rattle.mbc1.proofs.Mbc1.ram_at.Goals as goal

pub returns-then-self-2 : goal.returns-then-self-2
unfolding ram_at ram_bank
returns-then-self-2 c =
    simp (c.if-self.true, c.if-self-2.true) c.ram_place.ensures

pub returns-then-self : goal.returns-then-self
unfolding ram_at ram_bank
returns-then-self c =
    simp (c.if-self.true, c.if-self-2.false) c.ram_place-then-self.ensures

pub returns : goal.returns
unfolding ram_at ram_bank
returns c =
    simp c.if-self.false
