-- `types::find` meets its contract: the search of the whole table is the search of its rest.
use mathlib.Core.Path.{◌≡◌}
use lib.ListN.{drop}
use Rattle.types.specs.Types.{types, find_row, type_of}
use Rattle.types.proofs.find.Given as goal

abbrev pub invariant-loop-row : goal.invariant-loop-row
invariant-loop-row l = type_of l.b ≡ find_row (drop l.row-index types) l.b
