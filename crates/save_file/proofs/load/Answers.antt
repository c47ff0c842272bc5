-- `save_file::load` meets its contract: what both directions ask first, and then the bytes.
use lib.ListN.{length}
use mathlib.Core.Path.{◌∙◌}
use Rattle.facts.proofs.Handed.{handed_on}
use Rattle.save_file.proofs.Laws.{load_by, area_by_lem}
use Rattle.save_file.proofs.load.Goals as goal

pub returns : goal.returns
returns c =
    let a = c.args in
    let e = c.load_admitted.ensures.value
    ∙ load_by a.cart (length a.ram.now) a.save.now a.wall c.admit.ensures c.in_ok-admit.was in
    record {
      value = e;
      ram_after = c.load_admitted.ensures.ram_after ∙ area_by_lem a.cart a.ram.now a.save.now a.wall e;
    }

pub returns-in_err-admit : goal.returns-in_err-admit
returns-in_err-admit c =
    let a = c.args in
    let e = load_by a.cart (length a.ram.now) a.save.now a.wall c.admit.ensures
    c.in_err-admit.was in
    record {
      value = handed_on _ c.from_residual.ensures ∙ e;
      ram_after = area_by_lem a.cart a.ram.now a.save.now a.wall e;
    }
