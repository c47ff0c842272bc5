-- `flat_windows::standing` meets its contract.
use native.Mathlib.Omega.{arith}
use Rattle.mapper.proofs.Laws.{low_bank, high_bank}
use Rattle.states.specs.Reading.{mapper_at}
use Rattle.windows.proofs.Laws.{parts_stand}
use Rattle.flat_windows.proofs.standing.Goals as goal

pub returns : goal.returns
returns c =
    let a = c.args in
    let m = mapper_at a.s.now a.kind in
    parts_stand a.banks a.size m c.ram_at-part.ensures (low_bank m 0 (omega arith) c.bank_0-low.ensures) c.rom_at.ensures
    (high_bank m 0x4000 (omega arith) c.bank_x-high.ensures) c.rom_at-2.ensures
