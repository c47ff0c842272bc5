-- `flat_windows::ram_at` meets its contract: kind by kind.
use mathlib.Core.Path.{refl, ap, ◌∙◌}
use Rattle.mapper.specs.declared.Mapper.{Mapper}
use Rattle.mapper.specs.declared.Mapper.TheVariants.{NoMapper, Mbc1, Mbc2, Mbc3, Mbc5}
use Rattle.window.specs.declared.Way.TheVariants.{Bytes}
use Rattle.states.proofs.Laws.{past_last, of_kind, no_mapper_at}
use Rattle.states.specs.Reading.{mapper_at}
use Rattle.windows.specs.Windows.{ram_at}
use Rattle.windows.proofs.Laws.{way_small}
use Rattle.flat_windows.proofs.Laws.{kind_shown}
use Rattle.flat_windows.proofs.ram_at.Goals as goal

pub bytes_at-requires : goal.bytes_at-requires
bytes_at-requires c =
    way_small (NoMapper c.new.result) c.args.size 0xA000 c.requires (ap Bytes c.ram_at.ensures)

pub bytes_at-requires-in-1 : goal.bytes_at-requires-in-1
bytes_at-requires-in-1 c =
    way_small (Mbc1 c.mbc1_in.result) c.args.size 0xA000 c.requires (ap Bytes c.ram_at-in-1.ensures)

pub bytes_at-requires-in-2 : goal.bytes_at-requires-in-2
bytes_at-requires-in-2 c =
    way_small (Mbc1 c.mbc1_in-in-2.result) c.args.size 0xA000 c.requires (ap Bytes c.ram_at-in-2.ensures)

pub bytes_at-requires-in-6 : goal.bytes_at-requires-in-6
bytes_at-requires-in-6 c =
    way_small (Mbc5 c.mbc5_in.result) c.args.size 0xA000 c.requires (ap Bytes c.ram_at-in-6.ensures)

pub bytes_at-requires-in_default : goal.bytes_at-requires-in_default
bytes_at-requires-in_default c =
    way_small (NoMapper c.new-in_default.result) c.args.size 0xA000 c.requires (ap Bytes c.ram_at-in_default.ensures)

pub returns-in-0 : goal.returns-in-0
unfolding mapper_at
returns-in-0 c =
    let a = c.args in
    kind_shown a.s.now a.size c.in-0.is (ap NoMapper c.new.ensures)
    (ap Bytes c.ram_at.ensures) c.bytes_at.ensures

pub returns-in-1 : goal.returns-in-1
unfolding mapper_at
returns-in-1 c =
    let a = c.args in
    kind_shown a.s.now a.size c.in-1.is (ap Mbc1 c.mbc1_in.ensures)
    (ap Bytes c.ram_at-in-1.ensures) c.bytes_at-in-1.ensures

pub returns-in-2 : goal.returns-in-2
unfolding mapper_at
returns-in-2 c =
    let a = c.args in
    kind_shown a.s.now a.size c.in-2.is (ap Mbc1 c.mbc1_in-in-2.ensures)
    (ap Bytes c.ram_at-in-2.ensures) c.bytes_at-in-2.ensures

pub returns-in-3 : goal.returns-in-3
unfolding mapper_at
returns-in-3 c =
    let a = c.args in
    kind_shown a.s.now a.size c.in-3.is (ap Mbc2 c.mbc2_in.ensures) refl c.halves_at.ensures

pub returns-in-4 : goal.returns-in-4
unfolding mapper_at
returns-in-4 c =
    let a = c.args in
    of_kind (λ (m : Mapper). ram_at m a.size) a.s.now c.in-4.is (ap Mbc3 c.untimed_in.ensures) c.mbc3_at.ensures

pub returns-in-5 : goal.returns-in-5
unfolding mapper_at
returns-in-5 c =
    let a = c.args in
    of_kind (λ (m : Mapper). ram_at m a.size) a.s.now c.in-5.is (ap Mbc3 c.timed_in.ensures) c.mbc3_at-in-5.ensures

pub returns-in-6 : goal.returns-in-6
unfolding mapper_at
returns-in-6 c =
    let a = c.args in
    kind_shown a.s.now a.size c.in-6.is (ap Mbc5 c.mbc5_in.ensures)
    (ap Bytes c.ram_at-in-6.ensures) c.bytes_at-in-6.ensures

pub returns-in_default : goal.returns-in_default
returns-in_default c =
    let a = c.args in
    let m = c.in_default.in_default-own.rest in
    kind_shown a.s.now a.size refl
    (ap NoMapper c.new-in_default.ensures
    ∙ no_mapper_at a.s.now a.kind
    (past_last _ m.0.0.0.0.0.0.1 m.0.0.0.0.0.1 m.0.0.0.0.1 m.0.0.0.1 m.0.0.1 m.0.1 m.1))
    (ap Bytes c.ram_at-in_default.ensures) c.bytes_at-in_default.ensures
