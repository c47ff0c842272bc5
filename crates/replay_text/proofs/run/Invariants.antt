-- `replay_text::run` meets its contract: at each turn, what is still to be done gives the whole.
use Prim.Native.Nat.{◌-◌}
use lib.ListN.{length}
use Rattle.replay_step.specs.Step.{machine}
use Rattle.replay_text.specs.Replay.{text_of, left_of}
use Rattle.replay_text.proofs.Going.{Going}
use Rattle.replay_text.proofs.run.Given as goal

abbrev pub invariant-loop-asked : goal.invariant-loop-asked
invariant-loop-asked l = let m = machine l.initial.cart l.initial.ram in
    Going l.rom l.trace l.initial.room (text_of l.rom m l.trace) (left_of l.rom m l.trace) (length l.initial.ram) (machine l.cart l.ram) l.room l.at l.end l.count

abbrev pub decreases-loop-asked : goal.decreases-loop-asked
decreases-loop-asked l = length l.trace - l.at
