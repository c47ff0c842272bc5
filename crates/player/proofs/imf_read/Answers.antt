-- `player::imf_read` meets its contract: the read of the bytes, as a number.
use Rattle.std.specs.Prelude.{Err}
use mathlib.Core.Path.{ap, ◌∙◌}
use Rattle.access.specs.declared.BusRefusal.TheVariants.{Unfit}
use Rattle.bus.specs.Bus as below
use Rattle.states.specs.Reading.{decode_of}
use Rattle.player.specs.Bus.{read_number, read_of}
use Rattle.player.proofs.Laws.{on_number}
use Rattle.player.proofs.imf_read.Goals as goal

pub returns : goal.returns
unfolding read_of
returns c =
    let a = c.args in
    c.read_number.ensures ∙ ap read_number c.read.ensures
    ∙ on_number read_number (λ k. below.read_of k a.image.now a.ram.now a.addr) (Err Unfit) (decode_of a.state.now)
