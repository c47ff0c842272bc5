-- `image::title_end` meets its contract: the first zero ends the title, and else its 15 bytes or the image.
use Rattle.std.proofs.Common.{eqb, sym, ◌∙◌, rules}
use Rattle.std.proofs.lemmas.Iterator.{YieldsList-from_slice}
use Rattle.std.proofs.lemmas.Iterator.Search.{position_from_yields_List}
use borrow.Author.Tests.{tests}
use Rattle.image.proofs.ImageLaws.{ends_at_zero, ends_whole}
use Rattle.image.proofs.title_end.Goals as goal

pub returns-in-Some : goal.returns-in-Some
returns-in-Some c =
    let place =
    position_from_yields_List (λ x. eqb x 0) _ _ c.position.result c.position.ensures.ran
    (YieldsList-from_slice _ c.iter.ensures.rest) (λ x b q k. search (rules, tests)) in
    ends_at_zero _ _ _ c.requires c.min-end.ensures (sym c.in-Some.is ∙ place)

pub returns-in-None : goal.returns-in-None
returns-in-None c =
    let place =
    position_from_yields_List (λ x. eqb x 0) _ _ c.position.result c.position.ensures.ran
    (YieldsList-from_slice _ c.iter.ensures.rest) (λ x b q k. search (rules, tests)) in
    ends_whole _ _ c.requires c.min-end.ensures (sym c.in-None.is ∙ place)
