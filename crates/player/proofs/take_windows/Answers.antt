-- `player::take_windows` meets its contract: by the answer.
use mathlib.Core.Path.{sym, ap}
use Rattle.player.specs.Windows.{asked_number, asked_windows}
use Rattle.player.proofs.take_windows.Goals as goal

pub returns : goal.returns
returns c =
    let g = sym c.in-Some.is in
    record {
      value = ap asked_number g;
      windows_after = ap (asked_windows c.args.windows.now) g;
    }
