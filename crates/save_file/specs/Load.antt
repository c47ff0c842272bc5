-- The save file read (Order 6, Save 5 to 9).
use Rattle.std.specs.Prelude.{Bool, List, [], ◌∷◌, ◌++◌, ℕ, ltb, length, take, drop, Ok, Err, Some, None, Result, Option}
use Rattle.facts.specs.Choice.{pick, both}
use Rattle.facts.specs.Refusals.{No, no, first_no, in_words}
use Rattle.clock_block.specs.Layout.{block_in}
use Rattle.clock_block.specs.Waking.{block_noes, woken_of}
use Rattle.mapper.specs.declared.Mapper.{Mapper}
use Rattle.battery.specs.Battery.{has_block, with_clock}
use Rattle.cartridge.specs.With.{with_mapper}
use Rattle.cartridge.specs.declared.Cartridge.{Cartridge}
use Rattle.save_file.specs.Admit.{admit_noes}
use Rattle.save_file.specs.declared.SaveRefusal.{SaveRefusal}
use Rattle.save_file.specs.declared.SaveRefusal.TheVariants.{ShortSave, Block}

-- the same tests, none of which holds where t does not
abbrev pub only_where : {R : Type 0} → Bool → List (No R) → List (No R)
only_where t [] = []
only_where t (x ∷ xs) = no (both t x.holds) x.why ∷ only_where t xs

-- 20 and 17, Order 6: "only where a block is read"
abbrev pub behind_noes : Mapper → List ℕ → ℕ → List (No SaveRefusal)
behind_noes m behind wall = only_where (has_block m behind) (in_words Block (block_noes (block_in behind) wall))

-- Numbers 19: "the save is shorter than the RAM area", then 20 and 17
abbrev pub bytes_noes : Mapper → ℕ → List ℕ → ℕ → List (No SaveRefusal)
bytes_noes m area save wall = no (ltb (length save) area) ShortSave ∷ behind_noes m (drop area save) wall

-- the clock by the block, Save 8: "all else of the cartridge stays"; Save 9: "Where there is no timer, or the bytes behind the
-- RAM are fewer than 21, only the RAM is read: the answer says so, and the clock stays as it was"
unfoldable pub accepted_of : Cartridge → List ℕ → ℕ → Result (Option Cartridge) SaveRefusal
accepted_of c behind wall =
    pick (has_block c.mapper behind)
    (Ok (Some (with_mapper c (with_clock c.mapper (woken_of (block_in behind) wall)))))
    (Ok None)

unfoldable pub loaded_of : Cartridge → ℕ → List ℕ → ℕ → Result (Option Cartridge) SaveRefusal
loaded_of c area save wall = first_no Err (bytes_noes c.mapper area save wall) (accepted_of c (drop area save) wall)

-- Save 5: "Reading takes the RAM area from the save's first bytes"; Order 1: "every byte that was lent stay as they were",
-- where it is refused
abbrev pub area_by : List ℕ → List ℕ → Result (Option Cartridge) SaveRefusal → List ℕ
area_by ram save (Ok (Some c)) = take (length ram) save
area_by ram save (Ok None) = take (length ram) save
area_by ram save (Err w) = ram

-- Order 6: "Reading a save asks 13, 14 of the RAM area, 18, 19, 20, 17, in this order"
unfoldable pub load_noes : Cartridge → ℕ → List ℕ → ℕ → List (No SaveRefusal)
load_noes c area save wall = admit_noes c area ++ bytes_noes c.mapper area save wall

unfoldable pub load_of : Cartridge → ℕ → List ℕ → ℕ → Result (Option Cartridge) SaveRefusal
load_of c area save wall = first_no Err (load_noes c area save wall) (accepted_of c (drop area save) wall)

unfoldable pub area_after : Cartridge → List ℕ → List ℕ → ℕ → List ℕ
area_after c ram save wall = area_by ram save (load_of c (length ram) save wall)
