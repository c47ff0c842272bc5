-- `flat::fit_kind` meets its contract: kind by kind.
use mathlib.Core.Bool.{true, false}
use mathlib.Core.Path.{refl, ap, ◌∙◌}
use Rattle.no_mapper.specs.Registers as none
use Rattle.mbc1.specs.Registers as mbc1
use Rattle.mbc2.specs.Registers as mbc2
use Rattle.mbc3.specs.Registers as mbc3
use Rattle.mbc5.specs.Registers as mbc5
use Rattle.mapper.specs.declared.Mapper.TheVariants.{NoMapper, Mbc1, Mbc2, Mbc3, Mbc5}
use Rattle.states.specs.Reading.{mbc1_in, mbc2_in, untimed_in, timed_in, mbc5_in, mapper_at}
use Rattle.states.proofs.Laws.{past_last}
use Rattle.flat.proofs.Laws.{kind_fits, unknown_unfit}
use Rattle.flat.proofs.fit_kind.Goals as goal

pub returns-in-0 : goal.returns-in-0
unfolding mapper_at
returns-in-0 c =
    let s = c.args.s.now in
    kind_fits s 0 {m = NoMapper none.start} c.in-0.is refl refl refl refl c.fits.ensures

pub returns-in-1 : goal.returns-in-1
unfolding mapper_at
returns-in-1 c =
    let s = c.args.s.now in
    kind_fits s 1 {m = Mbc1 (mbc1_in s false)} c.in-1.is refl refl refl
    (c.fit.ensures ∙ ap mbc1.fit_registers c.mbc1_in.ensures) c.fits-in-1.ensures

pub returns-in-2 : goal.returns-in-2
unfolding mapper_at
returns-in-2 c =
    let s = c.args.s.now in
    kind_fits s 2 {m = Mbc1 (mbc1_in s true)} c.in-2.is refl refl refl c.fit_multicart.ensures c.fits-in-2.ensures

pub returns-in-3 : goal.returns-in-3
unfolding mapper_at
returns-in-3 c =
    let s = c.args.s.now in
    kind_fits s 3 {m = Mbc2 (mbc2_in s)} c.in-3.is refl refl refl
    (c.fit-in-3.ensures ∙ ap mbc2.fit_registers c.mbc2_in.ensures) c.fits-in-3.ensures

pub returns-in-4 : goal.returns-in-4
unfolding mapper_at
returns-in-4 c =
    let s = c.args.s.now in
    kind_fits s 4 {m = Mbc3 (untimed_in s)} c.in-4.is refl refl refl
    (c.fit-in-4.ensures ∙ ap mbc3.fit_registers c.untimed_in.ensures) c.fits-in-4.ensures

pub returns-in-5 : goal.returns-in-5
unfolding mapper_at
returns-in-5 c =
    let s = c.args.s.now in
    kind_fits s 5 {m = Mbc3 (timed_in s)} c.in-5.is refl refl refl c.fit_timed.ensures c.fits-in-5.ensures

pub returns-in-6 : goal.returns-in-6
unfolding mapper_at
returns-in-6 c =
    let s = c.args.s.now in
    kind_fits s 6 {m = Mbc5 (mbc5_in s)} c.in-6.is refl refl refl
    (c.fit-in-6.ensures ∙ ap mbc5.fit_registers c.mbc5_in.ensures) c.fits-in-6.ensures

pub returns-in_default : goal.returns-in_default
returns-in_default c =
    let m = c.in_default.in_default-own.rest in
    unknown_unfit c.args.s.now c.args.kind
    (past_last _ m.0.0.0.0.0.0.1 m.0.0.0.0.0.1 m.0.0.0.0.1 m.0.0.0.1 m.0.0.1 m.0.1 m.1)
