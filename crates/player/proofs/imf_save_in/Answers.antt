-- `player::imf_save_in` meets its contract: the load, of what the bytes are.
use mathlib.Core.Path.{ap, ◌∙◌}
use lib.ListN.{length}
use Rattle.save_file.specs.Load as below
use Rattle.player.specs.Save.{loaded_number, loaded_state, loaded_clock, load_of, state_loaded, area_loaded, clock_loaded}
use Rattle.player.proofs.Laws.{on_cartridge, on_none}
use Rattle.player.proofs.imf_save_in.Goals as goal

pub returns-in-Some : goal.returns-in-Some
unfolding load_of state_loaded area_loaded clock_loaded
returns-in-Some c =
    let a = c.args in
    let s = a.state.now in
    let r = a.ram.now in
    let b = a.save.now in
    let e = c.decode.ensures in
    let g = c.in-Some.is in
    let w = c.load.ensures in
    let t = c.take_loaded.ensures in
    record {
      value = t.value ∙ ap loaded_number w.value
          ∙ on_cartridge (λ k. loaded_number (below.load_of k (length r) b a.wall)) 13 s e g;
      state_after = t.state_after ∙ ap (loaded_state s) w.value
          ∙ on_cartridge (λ k. loaded_state s (below.load_of k (length r) b a.wall)) s s e g;
      ram_after = w.ram_after ∙ on_cartridge (λ k. below.area_after k r b a.wall) r s e g;
      clock_after = t.clock_after ∙ ap (loaded_clock a.clock.now) w.value
          ∙ on_cartridge (λ k. loaded_clock a.clock.now (below.load_of k (length r) b a.wall)) a.clock.now s e g;
    }

pub returns-in-None : goal.returns-in-None
unfolding load_of state_loaded area_loaded clock_loaded
returns-in-None c =
    let a = c.args in
    let s = a.state.now in
    let r = a.ram.now in
    let b = a.save.now in
    let e = c.decode.ensures in
    let g = c.in-None.is in
    record {
      value = on_none (λ k. loaded_number (below.load_of k (length r) b a.wall)) 13 s e g;
      state_after = on_none (λ k. loaded_state s (below.load_of k (length r) b a.wall)) s s e g;
      ram_after = on_none (λ k. below.area_after k r b a.wall) r s e g;
      clock_after = on_none (λ k. loaded_clock a.clock.now (below.load_of k (length r) b a.wall)) a.clock.now s e g;
    }
