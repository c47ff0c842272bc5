-- `save_file::load_admitted` meets its contract: too short, or by what stands behind the RAM.
use lib.ListN.{length}
use Rattle.std.specs.Prelude.{Ok}
use mathlib.Core.Path.{refl, sym, ap, ◌∙◌}
use Rattle.facts.proofs.Handed.{handed_on}
use Rattle.save_file.specs.Load.{area_by}
use Rattle.save_file.proofs.Laws.{loaded_short, loaded_long}
use Rattle.save_file.proofs.load_admitted.Goals as goal

pub returns-then-save-ram : goal.returns-then-save-ram
returns-then-save-ram c =
    let a = c.args in
    record {
      value = loaded_short a.cart (length a.ram.now) a.save.now a.wall c.if-save-ram.true;
      ram_after = refl;
    }

pub returns-in-Some : goal.returns-in-Some
returns-in-Some c =
    let a = c.args in
    record {
      value = loaded_long a.cart (length a.ram.now) a.save.now a.wall c.if-save-ram.false c.load_battery.ensures
          (c.in_ok-woken.was ∙ ap Ok c.in-Some.is);
      ram_after = c.restore.ensures;
    }

pub returns-in-None : goal.returns-in-None
returns-in-None c =
    let a = c.args in
    record {
      value = loaded_long a.cart (length a.ram.now) a.save.now a.wall c.if-save-ram.false c.load_battery.ensures
          (c.in_ok-woken.was ∙ ap Ok c.in-None.is);
      ram_after = c.restore.ensures;
    }

pub returns-in_err-woken : goal.returns-in_err-woken
returns-in_err-woken c =
    let a = c.args in
    let e = handed_on _ c.from_residual.ensures in
    record {
      value = e
          ∙ loaded_long a.cart (length a.ram.now) a.save.now a.wall c.if-save-ram.false c.load_battery.ensures
          c.in_err-woken.was;
      ram_after = sym (ap (area_by a.ram.now a.save.now) e);
    }
