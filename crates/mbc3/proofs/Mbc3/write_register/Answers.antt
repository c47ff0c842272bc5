-- `mbc3::Mbc3::write_register` meets its contract: by the address range.
use lib.Bits.{and_mask}
use borrow.Author.Tests.{lt-ltb, le-ltb}
use Rattle.mbc3.specs.Registers.{written}
use Rattle.mbc3.proofs.Mbc3.write_register.Goals as goal

pub returns-in-0-to-8191 : goal.returns-in-0-to-8191
unfolding written
returns-in-0-to-8191 c =
    simp (lt-ltb _ _ c.in-0-to-8191.if-addr-lt8192-own.true, and_mask c.args.byte 4)

pub returns-in-8192-to-16383 : goal.returns-in-8192-to-16383
unfolding written
returns-in-8192-to-16383 c =
    simp
    (le-ltb _ _ c.in-8192-to-16383.if-addr-lt8192-own.false, lt-ltb _ _ c.in-8192-to-16383.if-addr-lt16384-own.true, c.or_one.ensures)

pub returns-in-16384-to-24575 : goal.returns-in-16384-to-24575
unfolding written
returns-in-16384-to-24575 c =
    simp
    (le-ltb _ _ c.in-16384-to-24575.if-addr-lt8192-own.false, le-ltb _ _ c.in-16384-to-24575.if-addr-lt16384-own.false, lt-ltb _ _ c.in-16384-to-24575.if-addr-lt24576-own.true, c.select.ensures)

pub returns-in-24576-to-32767 : goal.returns-in-24576-to-32767
unfolding written
returns-in-24576-to-32767 c =
    simp
    (le-ltb _ _ c.in-24576-to-32767.if-addr-lt8192-own.false, le-ltb _ _ c.in-24576-to-32767.if-addr-lt16384-own.false, le-ltb _ _ c.in-24576-to-32767.if-addr-lt24576-own.false, lt-ltb _ _ c.in-24576-to-32767.if-addr-lt32768-own.true, c.latch.ensures)

pub returns-in_default : goal.returns-in_default
unfolding written
returns-in_default c =
    simp
    (le-ltb _ _ c.in_default.if-addr-lt8192-own.false, le-ltb _ _ c.in_default.if-addr-lt16384-own.false, le-ltb _ _ c.in_default.if-addr-lt24576-own.false, le-ltb _ _ c.in_default.if-addr-lt32768-own.false)
