-- The save file (Save 4 and Save 10): what is written comes back. The theorems speak of `save_of`, `room_after`, `load_of` and
-- `area_after`: the contracts of `save_file::save` and `save_file::load` say that the code's answers, every byte of the lent room
-- and every byte of the lent RAM area equal these on all inputs. Which calls are refused stands in Demand1.
use Rattle.std.specs.Prelude.{Ok, Some}
use mathlib.Core.Bool.{false}
use mathlib.Core.List.{List, ◌++◌}
use mathlib.Core.Path.{◌≡◌, refl, ap}
use Prim.Native.Nat.{ℕ, ◌+◌, ◌^◌, ◌<◌, ◌≤◌}
use lib.ListN.{length, take, drop}
use Rattle.facts.specs.Counter.{step, carries}
use Rattle.bytes_le.specs.Little.{Octets}
use Rattle.clock_registers.specs.Seconds.{second_on, seconds_on}
use Rattle.clock.specs.declared.Clock.{Clock}
use Rattle.clock_block.specs.Layout.{block_in}
use Rattle.clock_block.specs.Waking.{block_of, taken_of, time_of, woken_of}
use Rattle.mapper.specs.declared.Mapper.{Mapper}
use Rattle.battery.specs.Battery.{clock_in, has_clock}
use Rattle.cartridge.specs.Fit.{area_of}
use Rattle.cartridge.specs.declared.Cartridge.{Cartridge}
use Rattle.save_file.specs.Save.{bytes_of, save_of, room_by, room_after}
use Rattle.save_file.specs.Load.{load_of, area_after}
use Rattle.runs.specs.Saves.{Kept, Back}
use Rattle.runs.specs.Game.{Accepted}
use Rattle.runs.proofs.SaveLaws as laws
use Rattle.promises.specs.WaysBack.{Shows, behind, later}

-- 1. Save 4: "A save is written to the start of the room, and what the room has behind it stays."
pub saved_stands_first : (c : Cartridge) (ram room : List ℕ) (wall n : ℕ) → save_of c ram (length room) wall ≡ Ok n
    → room_after c ram room wall ≡ bytes_of c.mapper ram wall ++ drop n room
unfolding room_after
saved_stands_first c ram room wall n e = ap (room_by (bytes_of c.mapper ram wall) room) e

-- 2. Save 10: "a save written and read at one and the same wall time gives back second, minute, hour and day, if the clock's time was
-- then that wall time or later." From any fit cartridge with a clock k to any with one, and whatever bytes follow;
pub way_back : (c d : Cartridge) (k j : Clock) (ram rest : List ℕ) (wall : ℕ) → Kept c k (length ram) → Kept d j (length ram)
    → wall ≤ k.time → k.time < 2 ^ 64 → Back k (load_of d (length ram) (bytes_of c.mapper ram wall ++ rest) wall)
way_back = laws.way_back

-- the RAM area comes back at any wall time, with a timer or without one.
pub ram_comes_back : (m : Mapper) (d : Cartridge) (ram area rest : List ℕ) (wall later : ℕ) → length area ≡ length ram
    → Accepted (load_of d (length area) (bytes_of m ram wall ++ rest) later)
    → area_after d area (bytes_of m ram wall ++ rest) later ≡ ram
ram_comes_back = laws.ram_back

-- Neither premise can go. A clock at time 0, ten seconds behind the wall time on saving, comes back with second 10;
pub behind_the_wall_time : Shows behind
unfolding woken_of block_of taken_of seconds_on second_on step carries
behind_the_wall_time = refl

-- one at time 10, saved at wall time 10 and read at 11, with second 1.
pub another_wall_time : Shows later
unfolding woken_of block_of taken_of seconds_on second_on step carries
another_wall_time = refl

-- 3. Read and written again at the same wall time, a save with a block is the same bytes, but for those that were ignored,
-- exactly where the stored time is the wall time plus the offset;
pub again_where : (c d : Cartridge) (ram save : List ℕ) (wall : ℕ) → load_of c (length ram) save wall ≡ Ok (Some d) → Octets save
    → (block_in (drop (length ram) save)).time ≡ time_of (block_in (drop (length ram) save)) wall
    → bytes_of d.mapper (area_after c ram save wall) wall ≡ take (length ram + 21) save
again_where = laws.again_if

pub again_only_where : (c d : Cartridge) (ram save : List ℕ) (wall : ℕ) → load_of c (length ram) save wall ≡ Ok (Some d)
    → bytes_of d.mapper (area_after c ram save wall) wall ≡ take (length ram + 21) save
    → (block_in (drop (length ram) save)).time ≡ time_of (block_in (drop (length ram) save)) wall
again_only_where = laws.again_only

-- without a timer always, at any wall time.
pub again_without_timer : (c : Cartridge) (ram save : List ℕ) (wall later : ℕ) → has_clock (clock_in c.mapper) ≡ false
    → Accepted (load_of c (length ram) save wall)
    → bytes_of c.mapper (area_after c ram save wall) later ≡ take (length ram) save
again_without_timer = laws.again_ram

-- 4. A save read into a cartridge leaves it the same area to lend; that it leaves it fit stands in Demand1.
pub loaded_area_stays : (c d : Cartridge) (area : ℕ) (save : List ℕ) (wall : ℕ) → load_of c area save wall ≡ Ok (Some d)
    → area_of d ≡ area_of c
loaded_area_stays = laws.load_area_stays
