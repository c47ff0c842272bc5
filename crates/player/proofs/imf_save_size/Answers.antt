-- `player::imf_save_size` meets its contract: the room that is asked for, of what the bytes are.
use mathlib.Core.Path.{ap, ◌∙◌}
use Rattle.save_file.specs.Save as below
use Rattle.player.specs.Save.{size_number, size_told, size_of, size_asked}
use Rattle.player.proofs.Laws.{on_cartridge, on_none}
use Rattle.player.proofs.imf_save_size.Goals as goal

pub returns-in-Some : goal.returns-in-Some
unfolding size_of size_asked
returns-in-Some c =
    let a = c.args in
    let s = a.state.now in
    let n = a.size.now in
    let e = c.decode.ensures in
    let g = c.in-Some.is in
    record {
      value = c.take_size.ensures.value ∙ ap size_number c.ask_room.ensures
          ∙ on_cartridge (λ k. size_number (below.room_for k)) 13 s e g;
      size_after = c.take_size.ensures.size_after ∙ ap (size_told n) c.ask_room.ensures
          ∙ on_cartridge (λ k. size_told n (below.room_for k)) n s e g;
    }

pub returns-in-None : goal.returns-in-None
unfolding size_of size_asked
returns-in-None c =
    let a = c.args in
    let s = a.state.now in
    let n = a.size.now in
    let e = c.decode.ensures in
    let g = c.in-None.is in
    record {
      value = on_none (λ k. size_number (below.room_for k)) 13 s e g;
      size_after = on_none (λ k. size_told n (below.room_for k)) n s e g;
    }
