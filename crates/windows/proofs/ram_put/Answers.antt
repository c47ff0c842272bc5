-- `windows::ram_put` meets its contract: by how the RAM is mapped.
use native.Mathlib.Omega.{arith}
use lib.Bits.{and_mask}
use Rattle.windows.proofs.Laws.{stores_none, stores_byte, stores_half, stores_ask}
use Rattle.windows.proofs.ram_put.Goals as goal

pub returns-in-0 : goal.returns-in-0
returns-in-0 c =
    let a = c.args in
    let said = stores_none a.w a.ram.now a.addr a.byte c.in-0.is in
    record { value = said.0; ram_after = said.1 }

pub returns-in-1 : goal.returns-in-1
returns-in-1 c =
    let a = c.args in
    let said = stores_byte a.w a.ram.now a.addr a.byte c.in-1.is c.place_in.ensures c.set_in.ensures in
    record { value = said.0; ram_after = said.1 }

pub returns-in-2 : goal.returns-in-2
returns-in-2 c =
    let a = c.args in
    let said = stores_half a.w a.ram.now a.addr a.byte c.in-2.is c.place_in-in-2.ensures (and_mask a.byte 4) c.set_in-in-2.ensures in
    record { value = said.0; ram_after = said.1 }

pub returns-in_default : goal.returns-in_default
returns-in_default c =
    let a = c.args in
    let said = stores_ask a.w a.ram.now a.addr a.byte (omega arith) in
    record { value = said.0; ram_after = said.1 }
