-- `player::imf_header` meets its contract: the verdict, by its answer.
use mathlib.Core.Path.{sym, ap, ◌∙◌}
use Rattle.player.specs.Header.{header_by, facts_by, header_of, facts_after}
use Rattle.player.proofs.Laws.{accepted_small}
use Rattle.player.proofs.imf_header.Goals as goal

pub facts_of-requires : goal.facts_of-requires
facts_of-requires c =
    accepted_small c.args.image.now c.check.ensures c.in-Ok.is

pub returns-in-Ok : goal.returns-in-Ok
unfolding header_of facts_after
returns-in-Ok c =
    let a = c.args in
    let g = sym c.in-Ok.is ∙ c.check.ensures in
    record {
      value = ap header_by g;
      facts_after = c.facts_of.ensures ∙ ap (facts_by a.facts.now) g;
    }

pub returns-in-Err : goal.returns-in-Err
unfolding header_of facts_after
returns-in-Err c =
    let a = c.args in
    let g = sym c.in-Err.is ∙ c.check.ensures in
    record {
      value = c.number.ensures ∙ ap header_by g;
      facts_after = ap (facts_by a.facts.now) g;
    }
