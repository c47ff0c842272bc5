-- `windows::byte_in` meets its contract: past the end stands 0xFF.
use mathlib.Core.Path.{sym}
use lib.ListN.{get_or-eq_default}
use Rattle.facts.proofs.ListLaws.{other_default}
use Rattle.windows.proofs.byte_in.Goals as goal

pub returns-then-at-ram : goal.returns-then-at-ram
returns-then-at-ram c =
    other_default c.args.ram.now c.args.at 0 0xFF c.if-at-ram.true

pub returns-else-at-ram : goal.returns-else-at-ram
returns-else-at-ram c =
    sym (get_or-eq_default c.args.ram.now 0xFF c.if-at-ram.false)
