-- `cartridge::is_ram_size` meets its contract: the six sizes, one by one.
use Rattle.facts.proofs.ListLaws.{keys_in, keys_out}
use mathlib.Core.Path.{◌∙◌}
use Rattle.cartridge.proofs.Laws.{ascending, same_sizes}
use Rattle.cartridge.proofs.is_ram_size.Goals as goal

pub returns-in-0 : goal.returns-in-0
returns-in-0 c =
    keys_in c.args.size ascending c.in-0.is ∙ same_sizes c.args.size

pub returns-in_default : goal.returns-in_default
returns-in_default c =
    keys_out c.args.size ascending c.in_default.in_default-own.rest.1 ∙ same_sizes c.args.size
