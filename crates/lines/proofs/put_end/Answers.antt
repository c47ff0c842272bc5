-- `lines::put_end` meets its contract: three texts, one behind the other.
use native.Mathlib.Omega.{arith}
use Rattle.digits.proofs.PutLaws.{put_length, put_then}
use Rattle.lines.specs.Lines.{end_line}
use Rattle.lines.proofs.Laws.{length_end}
use Rattle.lines.proofs.put_end.Goals as goal

pub put_text-named-requires : goal.put_text-named-requires
put_text-named-requires c =
    omega (arith, c.requires, length_end c.args.count)

pub put_decimal-counted-requires : goal.put_decimal-counted-requires
put_decimal-counted-requires c =
    let p = c.put_text-named.ensures in
    omega (arith, c.requires, length_end c.args.count, p.behind, put_length p)

pub put_text-requires : goal.put_text-requires
put_text-requires c =
    let p = c.put_text-named.ensures in
    let q = c.put_decimal-counted.ensures in
    omega (arith, c.requires, length_end c.args.count, p.behind, put_length p, q.behind, put_length q)

pub returns : goal.returns
unfolding end_line
returns c =
    put_then c.put_text-named.ensures (put_then c.put_decimal-counted.ensures c.put_text.ensures)
