-- Modulo banking: where an offset falls, in a bank taken modulo the number of banks.
use Rattle.std.specs.Prelude.{ℕ, ◌+◌, ◌*◌, ◌%◌}

-- size bytes to a bank, count banks
unfoldable pub place_of : ℕ → ℕ → ℕ → ℕ → ℕ
place_of size count bank off = bank % count * size + off
