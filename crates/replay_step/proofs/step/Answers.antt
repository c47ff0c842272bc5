-- `replay_step::step` meets its contract, by the record's kind.
use native.Mathlib.Omega.{arith}
use Rattle.replay_step.specs.Step.{machine}
use Rattle.replay_step.proofs.Laws.{stepped}
use Rattle.replay_step.proofs.step.Goals as goal

pub returns-in-Read : goal.returns-in-Read
returns-in-Read c =
    let a = c.args in
    let p = c.read.ensures in
    let said = stepped a.rom.now (machine a.cart a.ram.now) 10
    c.in-Read.is p.did p.upper_bound (omega arith) in
    record { did = said.0; end_bound = said.1 }

pub returns-in-Write : goal.returns-in-Write
returns-in-Write c =
    let a = c.args in
    let p = c.write.ensures in
    let said = stepped a.rom.now (machine a.cart a.ram.now) 10
    c.in-Write.is p.did p.end_bound (omega arith) in
    record { did = said.0; end_bound = said.1 }

pub returns-in-Clocks : goal.returns-in-Clocks
returns-in-Clocks c =
    let a = c.args in
    let p = c.advance.ensures in
    let said = stepped a.rom.now (machine a.cart a.ram.now) 13 c.in-Clocks.is
    (p.by_index a.ram.now) p.end_bound (omega arith) in
    record { did = said.0; end_bound = said.1 }
