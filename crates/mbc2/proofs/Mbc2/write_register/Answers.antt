-- `mbc2::Mbc2::write_register` meets its contract: by the address range and its bit 8.
use mathlib.Core.Path.{◌≡◌}
use Prim.Native.Nat.{◌/◌, ◌%◌}
use native.Mathlib.Omega.{arith}
use lib.Bits.{and_mask, and_high}
use borrow.Author.Tests.{eq-eqb, ne_eqb, lt-ltb, le-ltb}
use Rattle.mbc2.specs.Registers.{written}
use Rattle.mbc2.proofs.Mbc2.write_register.Goals as goal

pub returns-then-addr-eq0 : goal.returns-then-addr-eq0
unfolding written
returns-then-addr-eq0 c =
    let a = c.args in
    let z : a.addr / 256 % 2 ≡ 0 = omega (arith, and_high a.addr 1 8) in
    simp (lt-ltb _ _ c.in-0-to-16383.if-addr-lt16384-own.true, eq-eqb _ _ z, and_mask a.byte 4)

pub returns-else-addr-eq0 : goal.returns-else-addr-eq0
unfolding written
returns-else-addr-eq0 c =
    let a = c.args in
    let z : (a.addr / 256 % 2 ≡ 0 → ⊥) = λ q. c.if-addr-eq0.false (omega (arith, and_high a.addr 1 8)) in
    simp (lt-ltb _ _ c.in-0-to-16383.if-addr-lt16384-own.true, ne_eqb _ _ z, c.or_one.ensures, and_mask a.byte 4)

pub returns-in_default : goal.returns-in_default
unfolding written
returns-in_default c =
    simp (le-ltb _ _ c.in_default.if-addr-lt16384-own.false)
