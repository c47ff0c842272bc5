-- `access::judge` meets its contract: decided by its fitness.
use mathlib.Core.Path.{ap, ◌∙◌}
use mathlib.Core.Bool.{Bool}
use Rattle.access.specs.Verdict.{noes_by, verdict_by, noes, verdict_of}
use Rattle.access.proofs.judge.Goals as goal

pub returns : goal.returns
unfolding verdict_of noes
returns c =
    let a = c.args in
    c.decide.ensures ∙ ap (λ (t : Bool). verdict_by a.addr (noes_by t a.lent a.addr a.bad)) c.fit.ensures
