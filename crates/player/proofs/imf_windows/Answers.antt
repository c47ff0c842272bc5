-- `player::imf_windows` meets its contract: the windows of the bytes, as numbers.
use Rattle.std.specs.Prelude.{None}
use mathlib.Core.Path.{ap, ◌∙◌}
use Rattle.states.specs.Reading.{decode_of}
use Rattle.windows.specs.Windows.{ask_of}
use Rattle.player.specs.Windows.{asked_number, asked_windows, windows_number, windows_after}
use Rattle.player.proofs.Laws.{on_number}
use Rattle.player.proofs.imf_windows.Goals as goal

pub returns : goal.returns
unfolding windows_number windows_after
returns c =
    let a = c.args in
    let d = decode_of a.state.now in
    let w = a.windows.now in
    record {
      value = c.take_windows.ensures.value ∙ ap asked_number c.of.ensures ∙ on_number asked_number ask_of None d;
      windows_after = c.take_windows.ensures.windows_after ∙ ap (asked_windows w) c.of.ensures ∙ on_number (asked_windows w) ask_of None d;
    }
