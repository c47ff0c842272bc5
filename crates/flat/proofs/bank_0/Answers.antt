-- `flat::bank_0` meets its contract: an MBC1's, and 0 of any other.
use mathlib.Core.Path.{refl, ap, ◌∙◌}
use Rattle.mapper.specs.Mappers.{fit_registers, bank0}
use Rattle.mapper.specs.declared.Mapper.TheVariants.{Mbc1}
use Rattle.states.specs.Reading.{mapper_at}
use Rattle.states.proofs.Laws.{of_kind}
use Rattle.flat.proofs.Laws.{low_bank_0}
use Rattle.flat.proofs.bank_0.Goals as goal

pub bank_0-requires : goal.bank_0-requires
unfolding mapper_at
bank_0-requires c =
    of_kind fit_registers c.args.s.now c.in-1.is (ap Mbc1 c.mbc1_in.ensures) refl ∙ c.requires.kind_value

pub bank_0-requires-in-2 : goal.bank_0-requires-in-2
unfolding mapper_at
bank_0-requires-in-2 c =
    of_kind fit_registers c.args.s.now c.in-2.is (ap Mbc1 c.mbc1_in-in-2.ensures) refl ∙ c.requires.kind_value

pub returns-in-1 : goal.returns-in-1
unfolding mapper_at
returns-in-1 c =
    of_kind bank0 c.args.s.now c.in-1.is (ap Mbc1 c.mbc1_in.ensures) c.bank_0.ensures

pub returns-in-2 : goal.returns-in-2
unfolding mapper_at
returns-in-2 c =
    of_kind bank0 c.args.s.now c.in-2.is (ap Mbc1 c.mbc1_in-in-2.ensures) c.bank_0-in-2.ensures

pub returns-in_default : goal.returns-in_default
returns-in_default c =
    low_bank_0 c.args.s.now c.args.kind c.in_default.in_default-own.rest.0.1 c.in_default.in_default-own.rest.1
