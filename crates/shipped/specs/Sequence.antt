-- An exported call on a state's bytes, an image and a RAM area: what it answers and leaves, by the definitions that the contracts of
-- `imf_read`, `imf_write` and `imf_advance` cite; and a list of them.
use Rattle.std.specs.Prelude.{List, ℕ}
use Rattle.bus.specs.Run.{Access, reads, writes, clocks}
use Rattle.flat_write.specs.Calls.{state_written, area_written, state_advanced}
use Rattle.player.specs.Bus.{read_of, write_of, advance_of}
use Rattle.shipped.specs.Along.{Out, Outs, out, along}

-- what a player keeps between two calls: the bytes of the state, and the RAM area
pub record Kept : Type 0 where
  pub state : List ℕ
  pub area : List ℕ

abbrev pub kept : List ℕ → List ℕ → Kept
kept state area = record { state = state; area = area }

abbrev pub call_of : List ℕ → Kept → Access → Out ℕ Kept
call_of image k (reads addr) = out (read_of k.state image k.area addr) k
call_of image k (writes addr byte) =
    out (write_of k.state k.area addr byte)
    (kept (state_written k.state k.area addr byte) (area_written k.state k.area addr byte))
call_of image k (clocks n) = out (advance_of k.state n) (kept (state_advanced k.state n) k.area)

abbrev pub calls_of : List ℕ → Kept → List Access → Outs ℕ Kept
calls_of image = along (call_of image)
