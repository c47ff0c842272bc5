-- `u16::write` meets its contract: two of half the width.
use mathlib.Core.Path.{ap, ◌∙◌}
use mathlib.Core.List.{List}
use Prim.Native.Nat.{ℕ, ◌+◌, ◌/◌}
use Rattle.bytes_le.specs.Little.{put_at}
use Rattle.bytes_le.proofs.Laws.{put_join}
use Rattle.bytes_le.proofs.U16Field.write.Goals as goal

pub returns : goal.returns
returns c =
    let a = c.args in
    c.write-2.ensures
    ∙ ap (λ (x : List ℕ). put_at 1 x (a.at + 1) (a.n / 256))
    c.write.ensures
    ∙ put_join 1 1 a.bytes.now a.at a.n
