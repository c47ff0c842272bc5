-- `player::facts_of` meets its contract: each a number of 32 bits.
use native.Mathlib.Omega.{arith}
use Rattle.facts.proofs.BitLaws.{flag_byte}
use Rattle.mapper.proofs.Laws.{area_le}
use Rattle.mount.specs.Mount.{start_of}
use mathlib.Core.Bool.{false}
use Rattle.player.proofs.facts_of.Goals as goal

pub overflow_cast-area : goal.overflow_cast-area
overflow_cast-area c =
    omega
    (arith, c.area_of-area.ensures, area_le (start_of c.args.found.kind false 0) c.args.found.size, c.requires.size)

pub returns : goal.returns
returns c =
    let f = c.args.found in
    rw (
      c.kind_number-number.ensures,
      c.area_of-area.ensures,
      flag_byte f.battery,
      flag_byte c.has_timer-timer.result,
      flag_byte c.has_rumble-rumble.result,
      flag_byte f.colour,
      c.has_timer-timer.ensures,
      c.has_rumble-rumble.ensures,
    )
