-- `flat::bank_x` meets its contract: kind by kind.
use mathlib.Core.Path.{refl, ap, ◌∙◌}
use Rattle.mapper.specs.Mappers.{fit_registers, bank_x}
use Rattle.mapper.specs.declared.Mapper.TheVariants.{NoMapper, Mbc1, Mbc2, Mbc3, Mbc5}
use Rattle.states.proofs.Laws.{past_last, of_kind, no_mapper_at}
use Rattle.states.specs.Reading.{mapper_at}
use Rattle.flat.proofs.bank_x.Goals as goal

pub bank_x-requires-in-1 : goal.bank_x-requires-in-1
unfolding mapper_at
bank_x-requires-in-1 c =
    of_kind fit_registers c.args.s.now c.in-1.is (ap Mbc1 c.mbc1_in.ensures) refl ∙ c.requires.kind_value

pub bank_x-requires-in-2 : goal.bank_x-requires-in-2
unfolding mapper_at
bank_x-requires-in-2 c =
    of_kind fit_registers c.args.s.now c.in-2.is (ap Mbc1 c.mbc1_in-in-2.ensures) refl ∙ c.requires.kind_value

pub returns-in-0 : goal.returns-in-0
unfolding mapper_at
returns-in-0 c =
    of_kind bank_x c.args.s.now c.in-0.is (ap NoMapper c.new.ensures) c.bank_x.ensures

pub returns-in-1 : goal.returns-in-1
unfolding mapper_at
returns-in-1 c =
    of_kind bank_x c.args.s.now c.in-1.is (ap Mbc1 c.mbc1_in.ensures) c.bank_x-in-1.ensures

pub returns-in-2 : goal.returns-in-2
unfolding mapper_at
returns-in-2 c =
    of_kind bank_x c.args.s.now c.in-2.is (ap Mbc1 c.mbc1_in-in-2.ensures) c.bank_x-in-2.ensures

pub returns-in-3 : goal.returns-in-3
unfolding mapper_at
returns-in-3 c =
    of_kind bank_x c.args.s.now c.in-3.is (ap Mbc2 c.mbc2_in.ensures) c.bank_x-in-3.ensures

pub returns-in-4 : goal.returns-in-4
unfolding mapper_at
returns-in-4 c =
    of_kind bank_x c.args.s.now c.in-4.is (ap Mbc3 c.untimed_in.ensures) c.bank_x-in-4.ensures

pub returns-in-5 : goal.returns-in-5
unfolding mapper_at
returns-in-5 c =
    of_kind bank_x c.args.s.now c.in-5.is (ap Mbc3 c.timed_in.ensures) c.bank_x-in-5.ensures

pub returns-in-6 : goal.returns-in-6
unfolding mapper_at
returns-in-6 c =
    of_kind bank_x c.args.s.now c.in-6.is (ap Mbc5 c.mbc5_in.ensures) c.bank_x-in-6.ensures

pub returns-in_default : goal.returns-in_default
returns-in_default c =
    let a = c.args in
    let m = c.in_default.in_default-own.rest in
    of_kind bank_x a.s.now refl
    (ap NoMapper c.new-in_default.ensures
    ∙ no_mapper_at a.s.now a.kind
    (past_last _ m.0.0.0.0.0.0.1 m.0.0.0.0.0.1 m.0.0.0.0.1 m.0.0.0.1 m.0.0.1 m.0.1 m.1))
    c.bank_x-in_default.ensures
