-- `player::imf_mount` meets its contract: the mounting, by its answer.
use mathlib.Core.Path.{sym, ap, ◌∙◌}
use Rattle.player.specs.Bus.{mount_number, mount_state, mount_of, state_mounted}
use Rattle.player.proofs.imf_mount.Goals as goal

pub returns-in-Ok : goal.returns-in-Ok
unfolding mount_of state_mounted
returns-in-Ok c =
    let m = c.mount.ensures in
    let a = c.args in
    let g = sym c.in-Ok.is ∙ m.value in
    record {
      value = ap mount_number g;
      state_after = c.encode.ensures ∙ ap (mount_state a.state.now) g;
      ram_after = m.ram_after;
    }

pub returns-in-Err : goal.returns-in-Err
unfolding mount_of state_mounted
returns-in-Err c =
    let m = c.mount.ensures in
    let a = c.args in
    let g = sym c.in-Err.is ∙ m.value in
    record {
      value = c.number.ensures ∙ ap mount_number g;
      state_after = ap (mount_state a.state.now) g;
      ram_after = m.ram_after;
    }
