-- `access::decide` meets its contract: the four tests in their order.
use mathlib.Core.Path.{refl}
use Rattle.access.proofs.Laws.{decided, rom_window, above_rom, ram_window, below_ram, above_ram}
use Rattle.access.proofs.decide.Goals as goal

pub returns-then-not-fit : goal.returns-then-not-fit
returns-then-not-fit c =
    let a = c.args in
    decided a.fit a.lent a.addr a.bad c.if-not-fit.true refl refl
    refl refl

pub returns-then-not-lent : goal.returns-then-not-lent
returns-then-not-lent c =
    let a = c.args in
    decided a.fit a.lent a.addr a.bad
    c.if-not-fit.false c.if-not-lent.true refl refl refl

pub returns-then-bad : goal.returns-then-bad
returns-then-bad c =
    let a = c.args in
    decided a.fit a.lent a.addr a.bad
    c.if-not-fit.false c.if-not-lent.false
    (rom_window a.addr c.in-0-to-32767.if-addr-lt32768-own.true) refl c.if-bad.true

pub returns-then-bad-2 : goal.returns-then-bad-2
returns-then-bad-2 c =
    let a = c.args in
    decided a.fit a.lent a.addr a.bad
    c.if-not-fit.false c.if-not-lent.false
    (above_rom a.addr c.in-40960-to-49151.if-addr-lt32768-own.false)
    (ram_window a.addr c.in-40960-to-49151.if-addr-lt40960-own.false c.in-40960-to-49151.if-addr-lt49152-own.true) c.if-bad-2.true

pub returns-else-bad : goal.returns-else-bad
returns-else-bad c =
    let a = c.args in
    decided a.fit a.lent a.addr a.bad
    c.if-not-fit.false c.if-not-lent.false
    (rom_window a.addr c.in-0-to-32767.if-addr-lt32768-own.true) refl c.if-bad.false

pub returns-else-bad-2 : goal.returns-else-bad-2
returns-else-bad-2 c =
    let a = c.args in
    decided a.fit a.lent a.addr a.bad
    c.if-not-fit.false c.if-not-lent.false
    (above_rom a.addr c.in-40960-to-49151.if-addr-lt32768-own.false)
    (ram_window a.addr c.in-40960-to-49151.if-addr-lt40960-own.false c.in-40960-to-49151.if-addr-lt49152-own.true) c.if-bad-2.false

pub returns-in_default : goal.returns-in_default
returns-in_default c =
    let a = c.args in
    decided a.fit a.lent a.addr a.bad
    c.if-not-fit.false c.if-not-lent.false
    (above_rom a.addr c.in_default.if-addr-lt32768-own.false) (below_ram a.addr c.in_default.if-addr-lt40960-own.true) refl

pub returns-in_default-2 : goal.returns-in_default-2
returns-in_default-2 c =
    let a = c.args in
    decided a.fit a.lent a.addr a.bad
    c.if-not-fit.false c.if-not-lent.false
    (above_rom a.addr c.in_default.if-addr-lt32768-own.false) (above_ram a.addr c.in_default.if-addr-lt49152-own.false) refl
