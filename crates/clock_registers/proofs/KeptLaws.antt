-- Registers that fit stay fit.
use Rattle.std.specs.Prelude.{Some}
use mathlib.Core.Bool.{true}
use mathlib.Core.Path.{◌≡◌, ap, ◌∙◌}
use Prim.Native.Nat.{ℕ, zero, suc, ◌<◌}
use native.Mathlib.Omega.{arith}
use lib.ListN.{get_or}
use Rattle.clock_registers.specs.Fit.{fit_registers, Fit}
use Rattle.clock_registers.specs.Seconds.{forward_of}
use Rattle.clock_registers.specs.Access.{writings}
use Rattle.clock_registers.specs.declared.Registers.{Registers}
use Rattle.clock_registers.proofs.FitLaws.{fit_bounds, bounds_fit}
use Rattle.clock_registers.proofs.SecondLaws.{seconds_fit, stepped_only}

pub forward_fit : (r q : Registers) (n : ℕ) → forward_of r n ≡ Some q → fit_registers q ≡ true
forward_fit r q n e = let s = stepped_only r q n e in ap fit_registers s.1 ∙ seconds_fit n r s.0

-- each of the five registers as written
writings_fit : (r : Registers) (b n : ℕ) → Fit r → b < 256 → Fit (get_or (writings r b) n r)
writings_fit r b zero f l = record { second = omega arith; minute = f.minute; hour = f.hour; day = f.day }
writings_fit r b (suc zero) f l = record { second = f.second; minute = omega arith; hour = f.hour; day = f.day }
writings_fit r b (suc (suc zero)) f l = record { second = f.second; minute = f.minute; hour = omega arith; day = f.day }
writings_fit r b (suc (suc (suc zero))) f l = record { second = f.second; minute = f.minute; hour = f.hour; day = omega arith }
writings_fit r b (suc (suc (suc (suc zero)))) f l =
    record { second = f.second; minute = f.minute; hour = f.hour; day = omega arith }
writings_fit r b (suc (suc (suc (suc (suc n))))) f l = f

pub written_fit : (r : Registers) (b n : ℕ) → fit_registers r ≡ true → b < 256 → fit_registers (get_or (writings r b) n r) ≡ true
written_fit r b n f l = bounds_fit (get_or (writings r b) n r) (writings_fit r b n (fit_bounds r f) l)
