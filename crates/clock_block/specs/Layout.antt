-- Where the fields of the block stand (Save 2).
use Rattle.std.specs.Prelude.{ℕ, List, ◌++◌, drop}
use Rattle.bytes_le.specs.Little.{bytes_of, field_at}
use Rattle.clock_block.specs.declared.Block.{Block}

abbrev pub block : ℕ → ℕ → ℕ → ℕ → ℕ → ℕ → Block
block second minute hour day time offset =
    record { second = second; minute = minute; hour = hour; day = day; time = time; offset = offset }

-- Save 1: "a block of 21 bytes"
abbrev pub block_size : ℕ
block_size = 21

-- Save 2: "the running second, minute and hour, a byte each, the day of two bytes, the clock's time of eight, the offset of
-- eight; little-endian"
unfoldable pub block_bytes : Block → List ℕ
block_bytes b =
    bytes_of 1 b.second
    ++ (bytes_of 1 b.minute
    ++ (bytes_of 1 b.hour ++ (bytes_of 2 b.day ++ (bytes_of 8 b.time ++ bytes_of 8 b.offset))))

-- Save 4: "what the room has behind it stays"
unfoldable pub put_block : Block → List ℕ → List ℕ
put_block b room = block_bytes b ++ drop block_size room

-- the same fields read, Save 2: "at 0, 1, 2, 3, 5 and 13"; Save 5: "Bytes behind the RAM and the block are ignored"
unfoldable pub block_in : List ℕ → Block
block_in s = block (field_at 1 s 0) (field_at 1 s 1) (field_at 1 s 2) (field_at 2 s 3) (field_at 8 s 5) (field_at 8 s 13)
