-- `player::imf_advance` meets its contract: clocks that pass on the bytes, the answer as a number.
use mathlib.Core.Path.{◌∙◌}
use Rattle.player.proofs.Laws.{advance_number_lem}
use Rattle.player.proofs.imf_advance.Goals as goal

pub returns-in-Ok : goal.returns-in-Ok
returns-in-Ok c =
    let a = c.args in
    let d = c.advance.ensures in
    record { value = advance_number_lem a.state.now a.n d.value c.in-Ok.is; state_after = d.s_after }

pub returns-in-Err : goal.returns-in-Err
returns-in-Err c =
    let a = c.args in
    let d = c.advance.ensures in
    record { value = c.number.ensures ∙ advance_number_lem a.state.now a.n d.value c.in-Err.is; state_after = d.s_after }
