-- `windows::place_in` meets its contract: two numbers of 32 bits.
use native.Mathlib.Omega.{arith}
use lib.Bits.{and_le_l}
use Rattle.windows.proofs.place_in.Goals as goal

pub overflow_cast-result-3 : goal.overflow_cast-result-3
overflow_cast-result-3 c =
    omega (arith, and_le_l c.args.addr c.args.w.mask)

pub overflow_add-result : goal.overflow_add-result
overflow_add-result c =
    omega (arith, and_le_l c.args.addr c.args.w.mask)
