-- `bus::read` meets its contract: by the verdict.
use Rattle.facts.proofs.Handed.{handed_on}
use Rattle.std.specs.Prelude.{Ok}
use mathlib.Core.Path.{ap, ◌∙◌}
use Rattle.bus.proofs.Laws.{read_answered, read_fit, read_area}
use Rattle.bus.proofs.read.Goals as goal

pub rom_byte-requires : goal.rom_byte-requires
rom_byte-requires c =
    let a = c.args in
    read_fit a.cart a.addr a.rom.now a.ram.now c.is_area.ensures
    c.both-lent.ensures c.judge.ensures (c.in_ok-target.was ∙ ap Ok c.in-Rom.is)

pub read-requires : goal.read-requires
read-requires c =
    let a = c.args in
    read_area a.cart a.addr a.rom.now a.ram.now c.is_area.ensures
    c.both-lent.ensures c.judge.ensures (c.in_ok-target.was ∙ ap Ok c.in-Ram.is)

pub returns-in-Rom : goal.returns-in-Rom
returns-in-Rom c =
    let a = c.args in
    ap Ok c.rom_byte.ensures
    ∙ read_answered a.cart a.addr a.rom.now a.ram.now c.is_area.ensures
    c.both-lent.ensures c.judge.ensures (c.in_ok-target.was ∙ ap Ok c.in-Rom.is)

pub returns-in-Ram : goal.returns-in-Ram
returns-in-Ram c =
    let a = c.args in
    ap Ok c.read.ensures
    ∙ read_answered a.cart a.addr a.rom.now a.ram.now c.is_area.ensures
    c.both-lent.ensures c.judge.ensures (c.in_ok-target.was ∙ ap Ok c.in-Ram.is)

pub returns-in_err-target : goal.returns-in_err-target
returns-in_err-target c =
    let a = c.args in
    handed_on _ c.from_residual.ensures
    ∙ read_answered a.cart a.addr a.rom.now a.ram.now c.is_area.ensures
    c.both-lent.ensures c.judge.ensures c.in_err-target.was
