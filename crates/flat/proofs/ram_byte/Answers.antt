-- `flat::ram_byte` meets its contract: kind by kind.
use mathlib.Core.Path.{refl, ap, ◌∙◌}
use Rattle.mbc3.specs.declared.Mbc3 as mbc3-state
use Rattle.mapper.specs.declared.Mapper.TheVariants.{NoMapper, Mbc1, Mbc2, Mbc3, Mbc5}
use Rattle.window.specs.Window as window
use Rattle.window.specs.Window.{loaded}
use Rattle.window.specs.declared.Way.TheVariants.{Bytes}
use Rattle.window.proofs.Laws.{lent_within}
use Rattle.states.proofs.Laws.{past_last, no_mapper_at}
use Rattle.states.specs.Reading.{mapper_at}
use Rattle.flat.proofs.Laws.{area_at, read_at}
use Rattle.flat.proofs.ram_byte.Goals as goal

pub load-requires : goal.load-requires
unfolding mapper_at
load-requires c =
    lent_within (NoMapper c.new.result) _ c.args.addr (ap Bytes c.ram_at.ensures)
    (area_at c.args.s.now c.in-0.is (ap NoMapper c.new.ensures) c.read-size.ensures c.requires)

pub load-requires-in-1 : goal.load-requires-in-1
unfolding mapper_at
load-requires-in-1 c =
    lent_within (Mbc1 c.mbc1_in.result) _ c.args.addr (ap Bytes c.ram_at-in-1.ensures)
    (area_at c.args.s.now c.in-1.is (ap Mbc1 c.mbc1_in.ensures) c.read-size.ensures c.requires)

pub load-requires-in-2 : goal.load-requires-in-2
unfolding mapper_at
load-requires-in-2 c =
    lent_within (Mbc1 c.mbc1_in-in-2.result) _ c.args.addr (ap Bytes c.ram_at-in-2.ensures)
    (area_at c.args.s.now c.in-2.is (ap Mbc1 c.mbc1_in-in-2.ensures) c.read-size.ensures c.requires)

pub half_byte-requires : goal.half_byte-requires
unfolding mapper_at
half_byte-requires c =
    area_at c.args.s.now c.in-3.is (ap Mbc2 c.mbc2_in.ensures) c.read-size.ensures c.requires

pub untimed_byte-requires : goal.untimed_byte-requires
unfolding mapper_at
untimed_byte-requires c =
    record {
      ram_len = area_at c.args.s.now c.in-4.is (ap Mbc3 c.untimed_in.ensures) c.read-size.ensures c.requires;
      timer_value = ap (λ (m : mbc3-state.Mbc3). m.timer) c.untimed_in.ensures;
    }

pub timed_byte-requires : goal.timed_byte-requires
unfolding mapper_at
timed_byte-requires c =
    area_at c.args.s.now c.in-5.is (ap Mbc3 c.timed_in.ensures) c.read-size.ensures c.requires

pub load-requires-in-6 : goal.load-requires-in-6
unfolding mapper_at
load-requires-in-6 c =
    lent_within (Mbc5 c.mbc5_in.result) _ c.args.addr (ap Bytes c.ram_at-in-6.ensures)
    (area_at c.args.s.now c.in-6.is (ap Mbc5 c.mbc5_in.ensures) c.read-size.ensures c.requires)

pub load-requires-in_default : goal.load-requires-in_default
load-requires-in_default c =
    let m = c.in_default.in_default-own.rest in
    lent_within (NoMapper c.new-in_default.result) _ c.args.addr (ap Bytes c.ram_at-in_default.ensures)
    (area_at c.args.s.now refl
    (ap NoMapper c.new-in_default.ensures
    ∙ no_mapper_at c.args.s.now c.args.kind
    (past_last _ m.0.0.0.0.0.0.1 m.0.0.0.0.0.1 m.0.0.0.0.1 m.0.0.0.1 m.0.0.1 m.0.1 m.1))
    c.read-size.ensures c.requires)

pub returns-in-0 : goal.returns-in-0
unfolding mapper_at window.read_of
returns-in-0 c =
    let a = c.args in
    read_at a.s.now a.ram.now a.addr c.in-0.is (ap NoMapper c.new.ensures) c.read-size.ensures
    (c.load.ensures ∙ ap (loaded a.ram.now) c.ram_at.ensures)

pub returns-in-1 : goal.returns-in-1
unfolding mapper_at window.read_of
returns-in-1 c =
    let a = c.args in
    read_at a.s.now a.ram.now a.addr c.in-1.is (ap Mbc1 c.mbc1_in.ensures) c.read-size.ensures
    (c.load-in-1.ensures ∙ ap (loaded a.ram.now) c.ram_at-in-1.ensures)

pub returns-in-2 : goal.returns-in-2
unfolding mapper_at window.read_of
returns-in-2 c =
    let a = c.args in
    read_at a.s.now a.ram.now a.addr c.in-2.is (ap Mbc1 c.mbc1_in-in-2.ensures) c.read-size.ensures
    (c.load-in-2.ensures ∙ ap (loaded a.ram.now) c.ram_at-in-2.ensures)

pub returns-in-3 : goal.returns-in-3
unfolding mapper_at
returns-in-3 c =
    let a = c.args in
    read_at a.s.now a.ram.now a.addr c.in-3.is (ap Mbc2 c.mbc2_in.ensures) c.read-size.ensures c.half_byte.ensures

pub returns-in-4 : goal.returns-in-4
unfolding mapper_at
returns-in-4 c =
    let a = c.args in
    read_at a.s.now a.ram.now a.addr c.in-4.is (ap Mbc3 c.untimed_in.ensures) c.read-size.ensures c.untimed_byte.ensures

pub returns-in-5 : goal.returns-in-5
unfolding mapper_at
returns-in-5 c =
    let a = c.args in
    read_at a.s.now a.ram.now a.addr c.in-5.is (ap Mbc3 c.timed_in.ensures) c.read-size.ensures c.timed_byte.ensures

pub returns-in-6 : goal.returns-in-6
unfolding mapper_at window.read_of
returns-in-6 c =
    let a = c.args in
    read_at a.s.now a.ram.now a.addr c.in-6.is (ap Mbc5 c.mbc5_in.ensures) c.read-size.ensures
    (c.load-in-6.ensures ∙ ap (loaded a.ram.now) c.ram_at-in-6.ensures)

pub returns-in_default : goal.returns-in_default
unfolding window.read_of
returns-in_default c =
    let a = c.args in
    let m = c.in_default.in_default-own.rest in
    read_at a.s.now a.ram.now a.addr refl
    (ap NoMapper c.new-in_default.ensures
    ∙ no_mapper_at a.s.now a.kind
    (past_last _ m.0.0.0.0.0.0.1 m.0.0.0.0.0.1 m.0.0.0.0.1 m.0.0.0.1 m.0.0.1 m.0.1 m.1))
    c.read-size.ensures (c.load-in_default.ensures ∙ ap (loaded a.ram.now) c.ram_at-in_default.ensures)
