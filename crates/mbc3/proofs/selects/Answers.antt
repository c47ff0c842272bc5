-- `mbc3::selects` meets its contract: by the nibble's range.
use Rattle.mbc3.specs.Registers.{selectable}
use Rattle.mbc3.proofs.Laws.{for_ram_lem, not_for_ram, for_clock_lem, below_clock, above_clock}
use Rattle.mbc3.proofs.selects.Goals as goal

pub returns-in-0-to-3 : goal.returns-in-0-to-3
unfolding selectable
returns-in-0-to-3 c =
    simp (for_ram_lem c.args.byte c.in-0-to-3.if-nibble-lt4-own.true)

pub returns-in-8-to-12 : goal.returns-in-8-to-12
unfolding selectable
returns-in-8-to-12 c =
    let b = c.args.byte in
    simp (not_for_ram b c.in-8-to-12.if-nibble-lt4-own.false, for_clock_lem b c.in-8-to-12.if-nibble-lt8-own.false c.in-8-to-12.if-nibble-lt13-own.true)

pub returns-in_default : goal.returns-in_default
unfolding selectable
returns-in_default c =
    let b = c.args.byte in
    simp (not_for_ram b c.in_default.if-nibble-lt4-own.false, below_clock b c.in_default.if-nibble-lt8-own.true)

pub returns-in_default-2 : goal.returns-in_default-2
unfolding selectable
returns-in_default-2 c =
    let b = c.args.byte in
    simp (not_for_ram b c.in_default.if-nibble-lt4-own.false, above_clock b c.in_default.if-nibble-lt13-own.false)
