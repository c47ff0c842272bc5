-- `NoMapper::put_fields` meets its contract: there is no register.
use mathlib.Core.Path.{refl}
use Rattle.state_fields.specs.Fields.{stored}
use Rattle.states.proofs.NoMapperKept.put_fields.Goals as goal

pub returns : goal.returns
unfolding stored
returns c = refl
