-- `cartridge::Cartridge::fit` meets its contract: what was mounted, and the registers.
use Rattle.cartridge.proofs.Laws.{fit_tested}
use Rattle.cartridge.proofs.Cartridge.fit.Goals as goal

pub returns : goal.returns
returns c =
    fit_tested c.args.self c.fit_board.ensures c.fit.ensures
    c.both.ensures
