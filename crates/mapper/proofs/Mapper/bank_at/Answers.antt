-- `mapper::Mapper::bank_at` meets its contract: by the window.
use Rattle.mapper.proofs.Laws.{low_bank, high_bank}
use Rattle.mapper.proofs.Mapper.bank_at.Goals as goal

pub returns-then-addr-lt16384 : goal.returns-then-addr-lt16384
returns-then-addr-lt16384 c =
    let a = c.args in
    low_bank a.self a.addr c.if-addr-lt16384.true c.bank_0.ensures

pub returns-else-addr-lt16384 : goal.returns-else-addr-lt16384
returns-else-addr-lt16384 c =
    let a = c.args in
    high_bank a.self a.addr c.if-addr-lt16384.false c.bank_x.ensures
