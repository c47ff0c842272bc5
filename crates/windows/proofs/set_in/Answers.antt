-- `windows::set_in` meets its contract: past the end nothing is stored.
use mathlib.Core.Path.{sym}
use lib.Seq.{set_out}
use Rattle.windows.proofs.set_in.Goals as goal

pub returns-else-at-ram : goal.returns-else-at-ram
returns-else-at-ram c =
    sym (set_out c.args.ram.now c.args.at c.args.byte c.if-at-ram.false)
