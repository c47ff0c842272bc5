-- `state_fields::are_clock_flags` meets its contract: the latch, and the registers that run and the frozen ones.
use mathlib.Core.List.{[], ◌∷◌, ◌++◌}
use Rattle.state_fields.specs.ClockFields.{register_flags}
use Rattle.state_fields.proofs.Laws.{flags_one, flags_both}
use Rattle.state_fields.proofs.are_clock_flags.Goals as goal

pub returns : goal.returns
returns c =
    let s = c.args.s.now in
    flags_both s (44 ∷ []) (register_flags 45 ++ register_flags 52) (flags_one s 44 c.is_flag.ensures)
    (flags_both s (register_flags 45) (register_flags 52) c.are_register_flags.ensures
    c.are_register_flags-2.ensures
    c.both.ensures)
    c.both-2.ensures
