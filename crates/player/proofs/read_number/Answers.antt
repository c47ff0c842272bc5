-- `player::read_number` meets its contract: by the answer.
use mathlib.Core.Path.{sym, ap, ◌∙◌}
use Prim.Native.Nat.{ℕ, ◌+◌}
use Rattle.player.specs.Bus.{read_number}
use Rattle.player.proofs.read_number.Goals as goal

pub returns-in-Err : goal.returns-in-Err
returns-in-Err c =
    ap (λ (n : ℕ). 0x100 + n) c.number.ensures ∙ ap read_number (sym c.in-Err.is)
