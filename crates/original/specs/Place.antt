-- A place in the RAM, in the original's words.
use Rattle.std.specs.Prelude.{Some, None, Option, ℕ}
use Rattle.original.specs.MappingResult.{MappingResult, Addr, NotMapped}

abbrev pub result_of : Option ℕ → MappingResult
result_of (Some i) = Addr i
result_of None = NotMapped
