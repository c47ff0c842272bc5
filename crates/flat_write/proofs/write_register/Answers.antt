-- `flat_write::write_register` meets its contract: kind by kind.
use mathlib.Core.Path.{refl, ap}
use Rattle.mapper.specs.declared.Mapper.TheVariants as by
use Rattle.states.proofs.Laws.{past_last, no_mapper_at}
use Rattle.states.specs.Reading.{mapper_at}
use Rattle.flat_write.proofs.Laws.{register_at}
use Rattle.flat_write.proofs.write_register.Goals as goal

pub returns-in-0 : goal.returns-in-0
unfolding mapper_at
returns-in-0 c =
    let a = c.args in
    register_at a.s.now a.addr a.byte c.in-0.is refl (ap by.NoMapper c.new.ensures) c.put.ensures

pub returns-in-1 : goal.returns-in-1
unfolding mapper_at
returns-in-1 c =
    let a = c.args in
    register_at a.s.now a.addr a.byte c.in-1.is (ap by.Mbc1 c.mbc1_in-m.ensures)
    (ap by.Mbc1 c.write_register.ensures) c.put-in-1.ensures

pub returns-in-2 : goal.returns-in-2
unfolding mapper_at
returns-in-2 c =
    let a = c.args in
    register_at a.s.now a.addr a.byte c.in-2.is (ap by.Mbc1 c.mbc1_in-m-in-2.ensures)
    (ap by.Mbc1 c.write_register-in-2.ensures) c.put-in-2.ensures

pub returns-in-3 : goal.returns-in-3
unfolding mapper_at
returns-in-3 c =
    let a = c.args in
    register_at a.s.now a.addr a.byte c.in-3.is (ap by.Mbc2 c.mbc2_in-m.ensures)
    (ap by.Mbc2 c.write_register-in-3.ensures) c.put-in-3.ensures

pub returns-in-4 : goal.returns-in-4
unfolding mapper_at
returns-in-4 c =
    let a = c.args in
    register_at a.s.now a.addr a.byte c.in-4.is (ap by.Mbc3 c.untimed_in-m.ensures)
    (ap by.Mbc3 c.write_register-in-4.ensures) c.put-in-4.ensures

pub returns-in-5 : goal.returns-in-5
unfolding mapper_at
returns-in-5 c =
    let a = c.args in
    register_at a.s.now a.addr a.byte c.in-5.is (ap by.Mbc3 c.timed_in-m.ensures)
    (ap by.Mbc3 c.write_register-in-5.ensures) c.put-in-5.ensures

pub returns-in-6 : goal.returns-in-6
unfolding mapper_at
returns-in-6 c =
    let a = c.args in
    register_at a.s.now a.addr a.byte c.in-6.is (ap by.Mbc5 c.mbc5_in-m.ensures)
    (ap by.Mbc5 c.write_register-in-6.ensures) c.put-in-6.ensures

pub returns-in_default : goal.returns-in_default
returns-in_default c =
    let a = c.args in
    let m = c.in_default.in_default-own.rest in
    register_at a.s.now a.addr a.byte refl
    (no_mapper_at a.s.now a.kind
    (past_last _ m.0.0.0.0.0.0.1 m.0.0.0.0.0.1 m.0.0.0.0.1 m.0.0.0.1 m.0.0.1 m.0.1 m.1))
    (ap by.NoMapper c.new-in_default.ensures) c.put-in_default.ensures
