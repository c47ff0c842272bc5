-- `state_fields::are_register_flags` meets its contract: the mask is that of halt and carry.
use mathlib.Core.Path.{refl, ◌∙◌}
use Rattle.state_fields.specs.Limits.{span, mask_of}
use Rattle.state_fields.proofs.LimitLaws.{flag_parts, register_flags_lem}
use Rattle.state_fields.proofs.are_register_flags.Goals as goal

pub returns : goal.returns
unfolding span mask_of
returns c =
    let a = c.args in
    c.is_within.ensures flag_parts refl refl ∙ register_flags_lem a.s.now a.at
