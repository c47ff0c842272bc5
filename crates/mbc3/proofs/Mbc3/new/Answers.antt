-- `mbc3::Mbc3::new` meets its contract: from the clock's start.
use Rattle.mbc3.proofs.Mbc3.new.Goals as goal

pub returns : goal.returns
returns c =
    simp c.new-clock.ensures
