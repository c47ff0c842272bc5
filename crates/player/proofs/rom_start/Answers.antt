-- `player::rom_start` meets its contract.
use Rattle.player.proofs.Laws.{rom_started}
use Rattle.player.proofs.rom_start.Goals as goal

pub returns : goal.returns
returns c =
    rom_started c.args.windows.now c.args.addr c.requires
