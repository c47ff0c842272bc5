-- `clock_block::passes` meets its contract.
use Rattle.std.proofs.Common.{◌+◌, ◌-◌, arith}
use Rattle.facts.proofs.ChoiceLaws.{ltb_iff}
use Rattle.clock_block.proofs.passes.Goals as goal

pub returns : goal.returns
returns c =
    let h = c.ranges.wall in
    ltb_iff (18446744073709551615 - c.args.wall) c.args.offset 18446744073709551615 (c.args.wall + c.args.offset)
    (λ l. omega arith) (λ l. omega arith)
