-- `lines::put_addressed` meets its contract: five texts, one behind the other.
use native.Mathlib.Omega.{arith}
use Rattle.digits.proofs.Laws.{length_hex}
use Rattle.digits.proofs.PutLaws.{put_length, put_then}
use Rattle.lines.specs.Lines.{addressed}
use Rattle.lines.proofs.Laws.{behind_of}
use Rattle.lines.proofs.put_addressed.Goals as goal

pub put_text-parted-requires : goal.put_text-parted-requires
put_text-parted-requires c =
    let p = c.put_text-lettered.ensures in
    let q = c.put_hex-placed.ensures in
    omega (arith, c.requires, p.behind, put_length p, behind_of q (length_hex 4 _), put_length q)

pub put_hex-shown-requires : goal.put_hex-shown-requires
put_hex-shown-requires c =
    let p = c.put_text-lettered.ensures in
    let q = c.put_hex-placed.ensures in
    let v = c.put_text-parted.ensures in
    omega (arith, c.requires, p.behind, put_length p, behind_of q (length_hex 4 _), put_length q, v.behind, put_length v)

pub put_text-requires : goal.put_text-requires
put_text-requires c =
    let p = c.put_text-lettered.ensures in
    let q = c.put_hex-placed.ensures in
    let v = c.put_text-parted.ensures in
    let w = c.put_hex-shown.ensures in
    omega (
      arith,
      c.requires,
      p.behind,
      put_length p,
      behind_of q (length_hex 4 _),
      put_length q,
      v.behind,
      put_length v,
      behind_of w (length_hex 2 _),
      put_length w,
    )

pub returns : goal.returns
unfolding addressed
returns c =
    put_then c.put_text-lettered.ensures
    (put_then c.put_hex-placed.ensures
    (put_then c.put_text-parted.ensures (put_then c.put_hex-shown.ensures c.put_text.ensures)))
