-- `mount::mount` meets its contract: the header's numbers, then the area's length.
use mathlib.Core.Path.{◌∙◌}
use lib.ListN.{length}
use Rattle.facts.proofs.Handed.{handed_on}
use Rattle.mount.proofs.Laws.{by_area, by_check, area_by_lem}
use Rattle.mount.proofs.mount.Goals as goal

pub returns-then-not-is_area : goal.returns-then-not-is_area
returns-then-not-is_area c =
    let a = c.args in
    let e = by_area _ (length a.image.now) (length a.ram.now) a.wall c.started-cart.ensures
    c.is_area.ensures c.if-not-is_area.true ∙ by_check a.image.now a.ram.now a.wall
    c.check.ensures c.in_ok-facts.was in
    record {
      value = e;
      ram_after = area_by_lem a.image.now a.ram.now a.wall e;
    }

pub returns : goal.returns
returns c =
    let a = c.args in
    let e = by_area _ (length a.image.now) (length a.ram.now) a.wall c.started-cart.ensures
    c.is_area.ensures c.if-not-is_area.false ∙ by_check a.image.now
    a.ram.now a.wall c.check.ensures c.in_ok-facts.was in
    record {
      value = e;
      ram_after = c.fill.ensures.after (λ y e. e) ∙ area_by_lem a.image.now a.ram.now a.wall e;
    }

pub returns-in_err-facts : goal.returns-in_err-facts
returns-in_err-facts c =
    let a = c.args in
    let e = by_check a.image.now a.ram.now a.wall c.check.ensures c.in_err-facts.was in
    record {
      value = handed_on _ c.from_residual.ensures ∙ e;
      ram_after = area_by_lem a.image.now a.ram.now a.wall e;
    }
