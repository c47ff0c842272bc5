-- `types::is_beyond` meets its contract: by the kind.
use Rattle.types.proofs.is_beyond.Goals as goal

pub returns-in-NoMapper : goal.returns-in-NoMapper
returns-in-NoMapper c =
    rw c.in-NoMapper.is c.either.ensures

pub returns-in-Mbc1 : goal.returns-in-Mbc1
returns-in-Mbc1 c =
    rw c.in-Mbc1.is

pub returns-in-Mbc2 : goal.returns-in-Mbc2
returns-in-Mbc2 c =
    rw c.in-Mbc2.is

pub returns-in-Mbc3 : goal.returns-in-Mbc3
returns-in-Mbc3 c =
    rw c.in-Mbc3.is

pub returns-in-Mbc5 : goal.returns-in-Mbc5
returns-in-Mbc5 c =
    rw c.in-Mbc5.is
