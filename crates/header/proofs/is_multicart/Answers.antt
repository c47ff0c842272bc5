-- `header::is_multicart` meets its contract: by the kind.
use Rattle.header.proofs.is_multicart.Goals as goal

pub returns-in-Mbc1 : goal.returns-in-Mbc1
returns-in-Mbc1 c =
    rw c.in-Mbc1.is c.is_multicart.ensures
