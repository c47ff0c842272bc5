-- `windows::ram_seen` meets its contract: by how the RAM is mapped.
use native.Mathlib.Omega.{arith}
use Rattle.mbc2.proofs.Laws.{high_nibble}
use Rattle.windows.specs.Through.{ram_seen}
use Rattle.windows.proofs.Laws.{sees_ask}
use Rattle.windows.proofs.ram_seen.Goals as goal

pub returns-in-0 : goal.returns-in-0
unfolding ram_seen
returns-in-0 c =
    rw c.in-0.is

pub returns-in-1 : goal.returns-in-1
unfolding ram_seen
returns-in-1 c =
    rw (c.in-1.is, c.byte_in.ensures, c.place_in.ensures)

pub returns-in-2 : goal.returns-in-2
unfolding ram_seen
returns-in-2 c =
    rw (c.in-2.is, high_nibble c.byte_in-in-2.result (omega arith), c.byte_in-in-2.ensures, c.place_in-in-2.ensures)

pub returns-in_default : goal.returns-in_default
returns-in_default c =
    let a = c.args in
    sees_ask a.w a.ram.now a.addr 0 (omega arith)
