-- `lines::put_numbered` meets its contract: three texts, one behind the other.
use native.Mathlib.Omega.{arith}
use Rattle.digits.proofs.PutLaws.{put_length, put_then}
use Rattle.lines.specs.Lines.{numbered}
use Rattle.lines.proofs.Laws.{length_numbered}
use Rattle.lines.proofs.put_numbered.Goals as goal

pub put_text-named-requires : goal.put_text-named-requires
put_text-named-requires c =
    omega (arith, c.requires, length_numbered c.args.letter c.args.n)

pub put_decimal-told-requires : goal.put_decimal-told-requires
put_decimal-told-requires c =
    let p = c.put_text-named.ensures in
    omega (arith, c.requires, length_numbered c.args.letter c.args.n, p.behind, put_length p)

pub put_text-requires : goal.put_text-requires
put_text-requires c =
    let p = c.put_text-named.ensures in
    let q = c.put_decimal-told.ensures in
    omega (arith, c.requires, length_numbered c.args.letter c.args.n, p.behind, put_length p, q.behind, put_length q)

pub returns : goal.returns
unfolding numbered
returns c =
    put_then c.put_text-named.ensures (put_then c.put_decimal-told.ensures c.put_text.ensures)
