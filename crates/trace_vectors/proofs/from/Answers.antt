use Rattle.std.specs.Prelude.{Ok}
use Rattle.std.proofs.Common.{arith, sym, ap}
use mathlib.Core.Path.{◌∙◌}
use Rattle.trace.proofs.Records.{progress}
use Rattle.trace_vectors.proofs.from.Goals as goal

pub loop-r-smaller : goal.loop-r-smaller
loop-r-smaller g c =
    let p = progress c.args.bytes.now c.loop-r.at (sym c.in-Ok-Some.ensures ∙ ap Ok c.in-Ok-Some.field-0-is) in
    omega (arith, p.0, p.1)
