-- `player::imf_write` meets its contract: the write to the bytes, its answer as a number.
use mathlib.Core.Path.{◌∙◌}
use Rattle.player.proofs.Laws.{write_number_lem}
use Rattle.player.proofs.imf_write.Goals as goal

pub returns-in-Ok : goal.returns-in-Ok
returns-in-Ok c =
    let a = c.args in
    record {
      value = write_number_lem a.state.now a.ram.now a.addr a.byte c.write.ensures.value c.in-Ok.is;
      state_after = c.write.ensures.s_after;
      ram_after = c.write.ensures.ram_after;
    }

pub returns-in-Err : goal.returns-in-Err
returns-in-Err c =
    let a = c.args in
    record {
      value = c.number.ensures
          ∙ write_number_lem a.state.now a.ram.now a.addr a.byte c.write.ensures.value c.in-Err.is;
      state_after = c.write.ensures.s_after;
      ram_after = c.write.ensures.ram_after;
    }
