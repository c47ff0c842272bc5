-- `banking::banked_place` meets its contract: no whole bank, or a bank modulo their number.
use borrow.Author.Tests.{lt-ltb, le-ltb}
use Prim.Native.Nat.{◌/◌}
use native.Mathlib.Omega.{arith}
use native.Mathlib.Nat.{mod-le}
use lib.Bits.{and_mask, and_le_l}
use Rattle.facts.specs.Banking.{place_of}
use Rattle.banking.specs.Banks.{banked_place}
use Rattle.banking.proofs.banked_place.Goals as goal

pub returns-then-size-lt8192 : goal.returns-then-size-lt8192
unfolding banked_place
returns-then-size-lt8192 c =
    simp (lt-ltb _ _ c.if-size-lt8192.true)

pub overflow_mul-result : goal.overflow_mul-result
overflow_mul-result c =
    let a = c.args in
    omega (arith, mod-le a.bank (a.size / 0x2000))

pub overflow_cast-result : goal.overflow_cast-result
overflow_cast-result c =
    omega (arith, and_le_l c.args.addr 0x1FFF)

pub overflow_add-result : goal.overflow_add-result
overflow_add-result c =
    let a = c.args in
    omega (arith, mod-le a.bank (a.size / 0x2000), and_le_l a.addr 0x1FFF)

pub returns : goal.returns
unfolding banked_place place_of
returns c =
    simp (le-ltb _ _ c.if-size-lt8192.false, and_mask c.args.addr 13)
