-- `player::take_loaded` meets its contract: by the answer.
use Rattle.std.specs.Prelude.{Ok}
use mathlib.Core.Path.{sym, ap, ◌∙◌}
use Rattle.player.specs.Save.{loaded_number, loaded_state, loaded_clock}
use Rattle.player.proofs.take_loaded.Goals as goal

pub returns-in-Some : goal.returns-in-Some
returns-in-Some c =
    let a = c.args in
    let g = sym (c.in-Ok.is ∙ ap Ok c.in-Some.is) in
    record {
      value = ap loaded_number g;
      state_after = c.encode.ensures ∙ ap (loaded_state a.state.now) g;
      clock_after = ap (loaded_clock a.clock.now) g;
    }

pub returns-in-None : goal.returns-in-None
returns-in-None c =
    let a = c.args in
    let g = sym (c.in-Ok.is ∙ ap Ok c.in-None.is) in
    record {
      value = ap loaded_number g;
      state_after = ap (loaded_state a.state.now) g;
      clock_after = ap (loaded_clock a.clock.now) g;
    }

pub returns-in-Err : goal.returns-in-Err
returns-in-Err c =
    let g = sym c.in-Err.is in
    let a = c.args in
    record {
      value = c.number.ensures ∙ ap loaded_number g;
      state_after = ap (loaded_state a.state.now) g;
      clock_after = ap (loaded_clock a.clock.now) g;
    }
