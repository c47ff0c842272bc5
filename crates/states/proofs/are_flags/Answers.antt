-- `states::are_flags` meets its contract, kind by kind.
use mathlib.Core.List.{[], ◌∷◌}
use Rattle.state_fields.specs.ClockFields.{clock_flags}
use Rattle.states.specs.Reading.{flags_of}
use Rattle.state_fields.proofs.Laws.{flags_one, flags_both}
use Rattle.states.proofs.Laws.{two_flags, three_flags, flags_unknown, kind_flags, past_last}
use Rattle.states.proofs.are_flags.Goals as goal

pub returns-in-0 : goal.returns-in-0
unfolding flags_of
returns-in-0 c =
    let s = c.args.s.now in
    kind_flags s c.in-0.is (flags_one s 1 c.is_flag-one.ensures)

pub returns-in-1 : goal.returns-in-1
unfolding flags_of
returns-in-1 c =
    let s = c.args.s.now in
    kind_flags s c.in-1.is (three_flags s c.is_flag-one.ensures c.is_flag.ensures c.both-two.ensures c.is_flag-2.ensures
    c.both-three.ensures)

pub returns-in-2 : goal.returns-in-2
unfolding flags_of
returns-in-2 c =
    let s = c.args.s.now in
    kind_flags s c.in-2.is (three_flags s c.is_flag-one.ensures c.is_flag.ensures c.both-two.ensures c.is_flag-2.ensures
    c.both-three.ensures)

pub returns-in-3 : goal.returns-in-3
unfolding flags_of
returns-in-3 c =
    let s = c.args.s.now in
    kind_flags s c.in-3.is (two_flags s c.is_flag-one.ensures c.is_flag.ensures c.both-two.ensures)

pub returns-in-4 : goal.returns-in-4
unfolding flags_of
returns-in-4 c =
    let s = c.args.s.now in
    kind_flags s c.in-4.is (three_flags s c.is_flag-one.ensures c.is_flag.ensures c.both-two.ensures c.is_flag-2.ensures
    c.both-three.ensures)

pub returns-in-5 : goal.returns-in-5
unfolding flags_of
returns-in-5 c =
    let s = c.args.s.now in
    kind_flags s c.in-5.is
    (flags_both s (1 ∷ 2 ∷ 3 ∷ []) clock_flags
    (three_flags s c.is_flag-one.ensures c.is_flag.ensures c.both-two.ensures c.is_flag-2.ensures
    c.both-three.ensures)
    c.are_clock_flags.ensures c.both.ensures)

pub returns-in-6 : goal.returns-in-6
unfolding flags_of
returns-in-6 c =
    let s = c.args.s.now in
    kind_flags s c.in-6.is (two_flags s c.is_flag-one.ensures c.is_flag.ensures c.both-two.ensures)

pub returns-in_default : goal.returns-in_default
returns-in_default c =
    let m = c.in_default.in_default-own.rest in
    flags_unknown c.args.s.now c.args.kind
    (past_last _ m.0.0.0.0.0.0.1 m.0.0.0.0.0.1 m.0.0.0.0.1 m.0.0.0.1 m.0.0.1 m.0.1 m.1)
