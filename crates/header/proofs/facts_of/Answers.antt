-- `header::facts_of` meets its contract: field by field.
use Rattle.header.specs.Check.{facts_of}
use Rattle.header.proofs.facts_of.Goals as goal

pub returns : goal.returns
unfolding facts_of
returns c =
    let p = c.requires in
    rw (c.is_multicart-multicart.ensures, c.is_colour-colour.ensures, c.title-title.ensures.result_value, p.0, p.1)
