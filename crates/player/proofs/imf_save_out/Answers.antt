-- `player::imf_save_out` meets its contract: the save, of what the bytes are.
use mathlib.Core.Path.{ap, ◌∙◌}
use lib.ListN.{length}
use Rattle.save_file.specs.Save as below
use Rattle.player.specs.Save.{size_number, size_told, save_of, size_saved, room_saved}
use Rattle.player.proofs.Laws.{on_cartridge, on_none}
use Rattle.player.proofs.imf_save_out.Goals as goal

pub returns-in-Some : goal.returns-in-Some
unfolding save_of size_saved room_saved
returns-in-Some c =
    let a = c.args in
    let s = a.state.now in
    let r = a.ram.now in
    let room = a.room.now in
    let n = a.size.now in
    let e = c.decode.ensures in
    let g = c.in-Some.is in
    let w = c.save.ensures in
    record {
      value = c.take_size.ensures.value ∙ ap size_number w.value
          ∙ on_cartridge (λ k. size_number (below.save_of k r (length room) a.wall)) 13 s e g;
      room_after = w.room_after ∙ on_cartridge (λ k. below.room_after k r room a.wall) room s e g;
      size_after = c.take_size.ensures.size_after ∙ ap (size_told n) w.value
          ∙ on_cartridge (λ k. size_told n (below.save_of k r (length room) a.wall)) n s e g;
    }

pub returns-in-None : goal.returns-in-None
unfolding save_of size_saved room_saved
returns-in-None c =
    let a = c.args in
    let s = a.state.now in
    let r = a.ram.now in
    let room = a.room.now in
    let n = a.size.now in
    let e = c.decode.ensures in
    let g = c.in-None.is in
    record {
      value = on_none (λ k. size_number (below.save_of k r (length room) a.wall)) 13 s e g;
      room_after = on_none (λ k. below.room_after k r room a.wall) room s e g;
      size_after = on_none (λ k. size_told n (below.save_of k r (length room) a.wall)) n s e g;
    }
