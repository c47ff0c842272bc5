-- `utf8::first` meets its contract: a run of bytes at each answer, which antt computes.
use mathlib.Core.Path.{refl}
use native.Mathlib.Omega.{arith}
use Rattle.utf8.proofs.ReaderLaws.{run, segment}
use Rattle.utf8.proofs.first.Goals as goal

pub returns-in-224 : goal.returns-in-224
unfolding run
returns-in-224 c =
    segment _ 0xE0 1 refl c.args.b (omega arith) (omega arith)

pub returns-in-237 : goal.returns-in-237
unfolding run
returns-in-237 c =
    segment _ 0xED 1 refl c.args.b (omega arith) (omega arith)

pub returns-in-240 : goal.returns-in-240
unfolding run
returns-in-240 c =
    segment _ 0xF0 1 refl c.args.b (omega arith) (omega arith)

pub returns-in-244 : goal.returns-in-244
unfolding run
returns-in-244 c =
    segment _ 0xF4 1 refl c.args.b (omega arith) (omega arith)

pub returns-in-0-to-127 : goal.returns-in-0-to-127
unfolding run
returns-in-0-to-127 c =
    segment _ 0x00 128 refl c.args.b (omega arith) (omega arith)

pub returns-in-194-to-223 : goal.returns-in-194-to-223
unfolding run
returns-in-194-to-223 c =
    segment _ 0xC2 30 refl c.args.b (omega arith) (omega arith)

pub returns-in-225-to-236 : goal.returns-in-225-to-236
unfolding run
returns-in-225-to-236 c =
    segment _ 0xE1 12 refl c.args.b (omega (arith, c.in-225-to-236.in_default-own.rest.0.0.0.1)) (omega arith)

pub returns-in-238-to-239 : goal.returns-in-238-to-239
unfolding run
returns-in-238-to-239 c =
    segment _ 0xEE 2 refl c.args.b (omega (arith, c.in-238-to-239.in_default-own.rest.0.0.1)) (omega arith)

pub returns-in-241-to-243 : goal.returns-in-241-to-243
unfolding run
returns-in-241-to-243 c =
    segment _ 0xF1 3 refl c.args.b (omega (arith, c.in-241-to-243.in_default-own.rest.0.1)) (omega arith)

pub returns-in_default : goal.returns-in_default
unfolding run
returns-in_default c =
    segment _ 0x80 66 refl c.args.b (omega arith) (omega arith)

pub returns-in_default-2 : goal.returns-in_default-2
unfolding run
returns-in_default-2 c =
    segment _ 0xF5 11 refl c.args.b (omega (arith, c.in_default.in_default-own.rest.1)) (omega arith)
