-- `cartridge::is_bank_count` meets its contract: the powers of two, one by one.
use Rattle.facts.proofs.ListLaws.{keys_in, keys_out}
use Rattle.cartridge.specs.Fit.{bank_counts}
use Rattle.cartridge.proofs.is_bank_count.Goals as goal

pub returns-in-2 : goal.returns-in-2
returns-in-2 c =
    keys_in c.args.banks bank_counts c.in-2.is

pub returns-in_default : goal.returns-in_default
returns-in_default c =
    keys_out c.args.banks bank_counts c.in_default.in_default-own.rest.1
