-- `state_fields::is_within` meets its contract: by one mask over all the fields.
use mathlib.Core.Path.{refl}
use native.Mathlib.Omega.{arith}
use Rattle.state_fields.proofs.LimitLaws.{word_within}
use Rattle.state_fields.proofs.is_within.Goals as goal

pub returns : goal.returns
returns c =
    let a = c.args in
    word_within a.s.now a.at (λ i. omega (arith, c.shared_slice_known-1.given i)) c.requires c.read.ensures refl
