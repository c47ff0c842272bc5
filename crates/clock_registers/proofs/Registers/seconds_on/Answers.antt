-- `clock_registers::Registers::seconds_on` meets its contract: a run for each place.
use native.Mathlib.Omega.{arith}
use Rattle.clock_registers.proofs.FitLaws.{fit_bounds}
use Rattle.clock_registers.proofs.SecondLaws.{four_runs}
use Rattle.clock_registers.proofs.Registers.seconds_on.Goals as goal

pub run-second-requires : goal.run-second-requires
run-second-requires c =
    let f = fit_bounds c.args.self c.requires in
    omega arith

pub run-minute-requires : goal.run-minute-requires
run-minute-requires c =
    let f = fit_bounds c.args.self c.requires in
    omega arith

pub run-hour-requires : goal.run-hour-requires
run-hour-requires c =
    let f = fit_bounds c.args.self c.requires in
    omega arith

pub from_below-day-requires : goal.from_below-day-requires
from_below-day-requires c =
    let f = fit_bounds c.args.self c.requires in
    omega arith

pub returns : goal.returns
returns c =
    four_runs c.args.n c.args.self (fit_bounds c.args.self c.requires)
    c.run-second.ensures.0
    c.run-minute.ensures.0
    c.run-hour.ensures.0
    c.from_below-day.ensures.0
    c.from_below-day.ensures.1
    c.either.ensures
