-- `cartridge::Cartridge::fit_board` meets its contract: its four tests.
use Rattle.cartridge.proofs.Laws.{board_tested}
use Rattle.cartridge.proofs.Cartridge.fit_board.Goals as goal

pub returns : goal.returns
returns c =
    board_tested c.args.self c.is_bank_count.ensures c.fills.ensures
    c.is_ram_size.ensures c.holds.ensures c.both.ensures c.both-2.ensures
    c.both-3.ensures
