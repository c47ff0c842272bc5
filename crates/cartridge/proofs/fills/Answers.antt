-- `cartridge::fills` meets its contract: up to 0x8000 bytes and beyond.
use Rattle.cartridge.proofs.Laws.{fills_short, fills_long}
use Rattle.cartridge.proofs.fills.Goals as goal

pub returns-then-length-le32768 : goal.returns-then-length-le32768
returns-then-length-le32768 c =
    let a = c.args in
    fills_short a.length a.banks c.if-length-le32768.true

pub returns : goal.returns
returns c =
    let a = c.args in
    fills_long a.length a.banks c.if-length-le32768.false
