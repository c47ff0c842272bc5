-- `windows::rom_start` meets its contract.
use borrow.Author.Tests.{lt-ltb, le-ltb}
use Rattle.windows.proofs.rom_start.Goals as goal

pub returns-then-addr-lt16384 : goal.returns-then-addr-lt16384
returns-then-addr-lt16384 c =
    rw (lt-ltb _ 0x4000 c.if-addr-lt16384.true)

pub returns-else-addr-lt16384 : goal.returns-else-addr-lt16384
returns-else-addr-lt16384 c =
    rw (le-ltb _ 0x4000 c.if-addr-lt16384.false)
