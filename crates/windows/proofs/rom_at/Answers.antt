-- `windows::rom_at` meets its contract: the place is below 8 MiB.
use native.Mathlib.Omega.{arith}
use Rattle.windows.proofs.Laws.{rom_small}
use Rattle.windows.proofs.rom_at.Goals as goal

pub overflow_cast-result : goal.overflow_cast-result
overflow_cast-result c =
    omega (arith, c.rom_place.ensures, rom_small c.args.banks c.args.bank c.args.addr c.requires.banks_nonzero c.requires.banks_bound)

pub returns : goal.returns
returns c =
    c.rom_place.ensures
