-- `windows::bytes_at` meets its contract: by the place.
use Rattle.std.specs.Prelude.{Option}
use mathlib.Core.Path.{sym, ap, ◌∙◌}
use Prim.Native.Nat.{ℕ}
use native.Mathlib.Omega.{arith}
use Rattle.banking.specs.Banks.{Inside}
use Rattle.windows.specs.Windows.{window, bytes_at}
use mathlib.Core.Path.{sym, ap, ◌∙◌, subst}
use Rattle.windows.proofs.bytes_at.Goals as goal

pub overflow_cast-result : goal.overflow_cast-result
overflow_cast-result c =
    let i = subst (λ (p : Option ℕ). Inside p 0x20200) c.in-Some.is c.requires in
    omega arith

pub returns-in-Some : goal.returns-in-Some
returns-in-Some c =
    ap (λ (m : ℕ). window c.in-Some.i m 1) c.mask_of.ensures
    ∙ ap (λ (p : Option ℕ). bytes_at p c.args.size) (sym c.in-Some.is)
