-- `windows::write` meets its contract: by the window.
use mathlib.Core.Path.{◌∙◌}
use Rattle.windows.proofs.Laws.{put_low, put_ram, put_outside}
use Rattle.access.proofs.Laws.{below_ram, above_ram}
use Rattle.windows.proofs.write.Goals as goal

pub returns-in-0-to-32767 : goal.returns-in-0-to-32767
returns-in-0-to-32767 c =
    let a = c.args in
    let said = put_low a.w a.ram.now a.addr a.byte c.in-0-to-32767.if-addr-lt32768-own.true in
    record { value = said.0; ram_after = said.1 }

pub returns-in-40960-to-49151 : goal.returns-in-40960-to-49151
returns-in-40960-to-49151 c =
    let a = c.args in
    let p = put_ram a.w a.ram.now a.addr a.byte c.in-40960-to-49151.if-addr-lt40960-own.false c.in-40960-to-49151.if-addr-lt49152-own.true in
    record {
      value = c.ram_put.ensures.value ∙ p.0;
      ram_after = c.ram_put.ensures.ram_after ∙ p.1;
    }

pub returns-in_default : goal.returns-in_default
returns-in_default c =
    let a = c.args in
    let said = put_outside a.w a.ram.now a.addr a.byte c.in_default.if-addr-lt32768-own.false (below_ram a.addr c.in_default.if-addr-lt40960-own.true) in
    record { value = said.0; ram_after = said.1 }

pub returns-in_default-2 : goal.returns-in_default-2
returns-in_default-2 c =
    let a = c.args in
    let said = put_outside a.w a.ram.now a.addr a.byte c.in_default.if-addr-lt32768-own.false (above_ram a.addr c.in_default.if-addr-lt49152-own.false) in
    record { value = said.0; ram_after = said.1 }
