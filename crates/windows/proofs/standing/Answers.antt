-- `windows::standing` meets its contract.
use Rattle.windows.proofs.Laws.{parts_stand}
use Rattle.windows.proofs.standing.Goals as goal

pub returns : goal.returns
returns c =
    let a = c.args in
    parts_stand a.banks a.size a.mapper c.ram_at-part.ensures c.bank_at.ensures
    c.rom_at.ensures c.bank_at-2.ensures c.rom_at-2.ensures
