-- What a save holds behind the RAM, and what is made of it (Save 1, Save 4, Save 9).
use Rattle.std.specs.Prelude.{Bool, true, false, List, [], ◌++◌, ℕ, leb, length, drop, Ok, Err, Some, None, Result, Option}
use Rattle.facts.specs.Choice.{pick, both}
use Rattle.clock.specs.declared.Clock as clock
use Rattle.clock.specs.declared.Clock.{Clock}
use Rattle.clock_block.specs.Layout.{block_size, block_bytes, block_in}
use Rattle.clock_block.specs.Waking.{block_of, wake_of}
use Rattle.clock_block.specs.declared.BlockRefusal.{BlockRefusal}
use Rattle.mbc3.specs.Registers as mbc3
use Rattle.mbc3.specs.declared.Mbc3 as declared
use Rattle.mapper.specs.declared.Mapper.{Mapper}
use Rattle.mapper.specs.declared.Mapper.TheVariants.{NoMapper, Mbc1, Mbc2, Mbc3, Mbc5}

abbrev pub timer_of : declared.Mbc3 → Option Clock
timer_of m = pick m.timer (Some m.clock) None

-- only an MBC3 can have a timer
abbrev pub clock_in : Mapper → Option Clock
clock_in (NoMapper m) = None
clock_in (Mbc1 m) = None
clock_in (Mbc2 m) = None
clock_in (Mbc3 m) = timer_of m
clock_in (Mbc5 m) = None

abbrev pub has_clock : Option Clock → Bool
has_clock (Some c) = true
has_clock None = false

-- the clock alone changed
abbrev pub with_clock : Mapper → clock.Clock → Mapper
with_clock (NoMapper m) c = NoMapper m
with_clock (Mbc1 m) c = Mbc1 m
with_clock (Mbc2 m) c = Mbc2 m
with_clock (Mbc3 m) c = Mbc3 (mbc3.with_clock m c)
with_clock (Mbc5 m) c = Mbc5 m

-- Save 1: "with a timer a block of 21 bytes follows", and without one none
abbrev pub battery_bytes : Option Clock → ℕ → List ℕ
battery_bytes (Some c) wall = block_bytes (block_of c wall)
battery_bytes None wall = []

abbrev pub battery_size : Option Clock → ℕ
battery_size (Some c) = block_size
battery_size None = 0

-- Save 4: "what the room has behind it stays"
unfoldable pub put_battery : Option Clock → ℕ → List ℕ → List ℕ
put_battery t wall room = battery_bytes t wall ++ drop (battery_size t) room

-- Save 9: "Where there is no timer, or the bytes behind the RAM are fewer than 21, only the RAM is read: the answer says so,
-- and the clock stays as it was"
abbrev pub has_block : Mapper → List ℕ → Bool
has_block m bytes = both (has_clock (clock_in m)) (leb block_size (length bytes))

abbrev pub loaded_by : Mapper → Result Clock BlockRefusal → Result (Option Mapper) BlockRefusal
loaded_by m (Ok c) = Ok (Some (with_clock m c))
loaded_by m (Err w) = Err w

unfoldable pub load_of : Mapper → List ℕ → ℕ → Result (Option Mapper) BlockRefusal
load_of m bytes wall = pick (has_block m bytes) (loaded_by m (wake_of (block_in bytes) wall)) (Ok None)
