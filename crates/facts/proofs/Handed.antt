-- What a `?` hands on where it met a refusal: that refusal, as the caller's.
use Rattle.std.specs.Prelude.{Ok, Err, Result, IsErr, IsErrAnd}
use mathlib.Core.Path.{◌≡◌, ap}

pub handed_on : {T E : Type 0} {w : E} (r : Result T E) → IsErr r × IsErrAnd r (λ e. e ≡ w) → r ≡ Err w
handed_on (Ok x) p = absurd p.1
handed_on (Err e) p = ap Err p.1
