-- `state_fields::fit_clock_registers` meets its contract: the mask is that of the four numbers.
use mathlib.Core.Path.{refl, ◌∙◌}
use Rattle.state_fields.specs.Limits.{span, mask_of}
use Rattle.state_fields.proofs.LimitLaws.{register_parts, registers_within}
use Rattle.state_fields.proofs.fit_clock_registers.Goals as goal

pub returns : goal.returns
unfolding span mask_of
returns c =
    let a = c.args in
    c.is_within.ensures register_parts refl refl ∙ registers_within a.s.now a.at
