-- `bus::write` meets its contract: by the verdict.
use Rattle.facts.proofs.Handed.{handed_on}
use Rattle.std.specs.Prelude.{Ok}
use mathlib.Core.Path.{ap, ◌∙◌}
use Rattle.cartridge.specs.With.{with_mapper}
use Rattle.bus.proofs.Laws.{write_answered, area_answered, write_area}
use Rattle.bus.proofs.write.Goals as goal

pub write-requires : goal.write-requires
write-requires c =
    let a = c.args in
    write_area a.cart a.addr a.byte a.ram.now c.is_area.ensures
    c.bad_selection-bad.ensures c.judge.ensures (c.in_ok-target.was ∙ ap Ok c.in-Ram.is)

pub returns-in-Rom : goal.returns-in-Rom
returns-in-Rom c =
    let a = c.args in
    let k = c.is_area.ensures in
    let b = c.bad_selection-bad.ensures in
    record {
      value = ap (λ m. Ok (with_mapper a.cart m)) c.write_register.ensures
          ∙ write_answered a.cart a.addr a.byte a.ram.now k b c.judge.ensures (c.in_ok-target.was ∙ ap Ok c.in-Rom.is);
      ram_after = area_answered a.cart a.addr a.byte a.ram.now k b c.judge.ensures (c.in_ok-target.was ∙ ap Ok c.in-Rom.is);
    }

pub returns-in-Ram : goal.returns-in-Ram
returns-in-Ram c =
    let a = c.args in
    let k = c.is_area.ensures in
    let b = c.bad_selection-bad.ensures in
    record {
      value = ap (λ m. Ok (with_mapper a.cart m)) c.write.ensures.value
          ∙ write_answered a.cart a.addr a.byte a.ram.now k b c.judge.ensures
          (c.in_ok-target.was ∙ ap Ok c.in-Ram.is);
      ram_after = c.write.ensures.ram_after
          ∙ area_answered a.cart a.addr a.byte a.ram.now k b c.judge.ensures
          (c.in_ok-target.was ∙ ap Ok c.in-Ram.is);
    }

pub returns-in_err-target : goal.returns-in_err-target
returns-in_err-target c =
    let a = c.args in
    let k = c.is_area.ensures in
    let b = c.bad_selection-bad.ensures in
    record {
      value = handed_on _ c.from_residual.ensures ∙ write_answered a.cart a.addr a.byte a.ram.now k b c.judge.ensures c.in_err-target.was;
      ram_after = area_answered a.cart a.addr a.byte a.ram.now k b c.judge.ensures c.in_err-target.was;
    }
