-- `flat_write::write_fit` meets its contract: by the verdict.
use Rattle.facts.proofs.Handed.{handed_on}
use Rattle.std.specs.Prelude.{Ok}
use mathlib.Core.Path.{ap, ◌∙◌}
use Rattle.flat_write.proofs.Laws.{area_lent, rom_left, ram_left, refused_left}
use Rattle.flat_write.proofs.write_fit.Goals as goal

pub write-requires : goal.write-requires
write-requires c =
    let a = c.args in
    let s = a.s.now in
    area_lent s a.ram.now a.addr a.byte a.kind c.requires c.is_area-lent.ensures (c.bad_selection.ensures s)
    c.decide.ensures (c.in_ok-target.was ∙ ap Ok c.in-Ram.is) c.mapper_in-m.ensures
    c.read-size.ensures

pub returns-in-Rom : goal.returns-in-Rom
returns-in-Rom c =
    let a = c.args in
    let s = a.s.now in
    let said = rom_left s a.ram.now a.addr a.byte a.kind c.requires c.is_area-lent.ensures (c.bad_selection.ensures s)
    c.decide.ensures (c.in_ok-target.was ∙ ap Ok c.in-Rom.is) c.write_register.ensures in
    record { value = said.0; s_after = said.1.0; ram_after = said.1.1 }

pub returns-in-Ram : goal.returns-in-Ram
returns-in-Ram c =
    let a = c.args in
    let s = a.s.now in
    let w = c.write.ensures in
    let said = ram_left s a.ram.now a.addr a.byte a.kind c.requires c.is_area-lent.ensures (c.bad_selection.ensures s)
    c.decide.ensures (c.in_ok-target.was ∙ ap Ok c.in-Ram.is)
    c.mapper_in-m.ensures c.read-size.ensures w.value c.put.ensures w.ram_after in
    record { value = said.0; s_after = said.1.0; ram_after = said.1.1 }

pub returns-in_err-target : goal.returns-in_err-target
returns-in_err-target c =
    let a = c.args in
    let s = a.s.now in
    let said = refused_left s a.ram.now a.addr a.byte a.kind c.requires c.is_area-lent.ensures (c.bad_selection.ensures s)
    c.decide.ensures c.in_err-target.was in
    record { value = handed_on _ c.from_residual.ensures ∙ said.0; s_after = said.1.0; ram_after = said.1.1 }
