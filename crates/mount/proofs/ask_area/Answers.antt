-- `mount::ask_area` meets its contract: by the header's verdict.
use Rattle.facts.proofs.Handed.{handed_on}
use Rattle.std.specs.Prelude.{Ok}
use mathlib.Core.Path.{sym, ap, ◌∙◌}
use Rattle.mount.proofs.Laws.{area_small, asked_by_lem}
use Rattle.mount.proofs.ask_area.Goals as goal

pub returns-in_err-facts : goal.returns-in_err-facts
returns-in_err-facts c =
    handed_on _ c.from_residual.ensures ∙ asked_by_lem c.args.image.now c.check.ensures c.in_err-facts.was

pub area_of-requires : goal.area_of-requires
area_of-requires c =
    area_small c.args.image.now (sym c.check.ensures ∙ c.in_ok-facts.was)

pub returns : goal.returns
returns c =
    ap Ok c.area_of.ensures ∙ asked_by_lem c.args.image.now c.check.ensures c.in_ok-facts.was
