-- `windows::halves_at` meets its contract.
use Rattle.windows.proofs.halves_at.Goals as goal

pub returns-then-m : goal.returns-then-m
returns-then-m c =
    rw c.if-m.true
