-- `mbc5::Mbc5::write_register` meets its contract: by the address range.
use borrow.Author.Rules.{rules}
use native.Mathlib.Omega.{arith}
use lib.Bits.{and_mask, and_le_l}
use borrow.Author.Tests.{lt-ltb, le-ltb}
use Rattle.mbc5.specs.Registers.{written}
use Rattle.mbc5.proofs.Laws.{low_joined, high_joined}
use Rattle.mbc5.proofs.Mbc5.write_register.Goals as goal

pub overflow_cast-high : goal.overflow_cast-high
overflow_cast-high c =
    omega (arith, and_le_l c.args.byte 1)

pub returns-in-0-to-8191 : goal.returns-in-0-to-8191
unfolding written
returns-in-0-to-8191 c =
    simp (lt-ltb _ _ c.in-0-to-8191.if-addr-lt8192-own.true)

pub returns-in-8192-to-12287 : goal.returns-in-8192-to-12287
unfolding written
returns-in-8192-to-12287 c =
    let a = c.args in
    simp (le-ltb _ _ c.in-8192-to-12287.if-addr-lt8192-own.false, lt-ltb _ _ c.in-8192-to-12287.if-addr-lt12288-own.true, low_joined a.self.bank a.byte (search rules))

pub returns-in-12288-to-16383 : goal.returns-in-12288-to-16383
unfolding written
returns-in-12288-to-16383 c =
    let a = c.args in
    simp (le-ltb _ _ c.in-12288-to-16383.if-addr-lt8192-own.false, le-ltb _ _ c.in-12288-to-16383.if-addr-lt12288-own.false, lt-ltb _ _ c.in-12288-to-16383.if-addr-lt16384-own.true, high_joined a.self.bank a.byte)

pub returns-in-16384-to-24575 : goal.returns-in-16384-to-24575
unfolding written
returns-in-16384-to-24575 c =
    simp
    (le-ltb _ _ c.in-16384-to-24575.if-addr-lt8192-own.false, le-ltb _ _ c.in-16384-to-24575.if-addr-lt12288-own.false, le-ltb _ _ c.in-16384-to-24575.if-addr-lt16384-own.false, lt-ltb _ _ c.in-16384-to-24575.if-addr-lt24576-own.true, and_mask c.args.byte 4)

pub returns-in_default : goal.returns-in_default
unfolding written
returns-in_default c =
    simp
    (le-ltb _ _ c.in_default.if-addr-lt8192-own.false, le-ltb _ _ c.in_default.if-addr-lt12288-own.false, le-ltb _ _ c.in_default.if-addr-lt16384-own.false, le-ltb _ _ c.in_default.if-addr-lt24576-own.false)
