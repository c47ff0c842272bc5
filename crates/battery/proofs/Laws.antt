-- The bytes behind the RAM, and the answer by whether there is a block.
use Rattle.std.specs.Prelude.{Ok, Some, None, Result, Option}
use mathlib.Core.Bool.{Bool, true, false}
use mathlib.Core.List.{List, ◌++◌}
use mathlib.Core.Path.{◌≡◌, refl, sym, ap, ◌∙◌}
use Prim.Native.Nat.{ℕ, ◌≤◌}
use native.Mathlib.Omega.{arith}
use lib.Dec.{leb}
use lib.ListN.{length, drop}
use borrow.Author.Tests.{leb-true}
use Rattle.facts.specs.Choice.{pick, both}
use Rattle.facts.proofs.ChoiceLaws.{both_right}
use Rattle.clock_block.specs.Layout.{block_in}
use Rattle.clock_block.specs.Waking.{block_of, wake_of}
use Rattle.clock_block.specs.declared.Block.{Block}
use Rattle.clock_block.proofs.Laws.{length_block}
use Rattle.clock_block.specs.declared.BlockRefusal.{BlockRefusal}
use Rattle.mapper.specs.declared.Mapper.{Mapper}
use Rattle.battery.specs.Battery.{clock_in, has_clock, has_block, battery_bytes, battery_size, put_battery, loaded_by, load_of}
use Rattle.clock.specs.declared.Clock.{Clock}

pub battery_length : (t : Option Clock) (wall : ℕ) → length (battery_bytes t wall) ≡ battery_size t
battery_length (Some c) wall = length_block (block_of c wall)
battery_length None wall = refl

pub size_by : (t : Option Clock) {b : Bool} → has_clock t ≡ b → pick b 21 0 ≡ battery_size t
size_by (Some c) e = ap (λ (b : Bool). pick b 21 0) (sym e)
size_by None e = ap (λ (b : Bool). pick b 21 0) (sym e)

pub size_le : (t : Option Clock) → battery_size t ≤ 21
size_le (Some c) = omega arith
size_le None = omega arith

pub put_by_lem : (m : Mapper) (wall : ℕ) (room : List ℕ) {t u : Option Clock} → t ≡ clock_in m → t ≡ u
    → battery_bytes u wall ++ drop (battery_size u) room ≡ put_battery (clock_in m) wall room
unfolding put_battery
put_by_lem m wall room p g = ap (λ (t : Option Clock). battery_bytes t wall ++ drop (battery_size t) room) (sym g ∙ p)

module _ (m : Mapper) (bytes : List ℕ) (wall : ℕ) {h t : Bool} (p : h ≡ has_clock (clock_in m))
    (q : t ≡ both h (leb 21 (length bytes))) where
  told : t ≡ has_block m bytes
  told = q ∙ ap (λ (x : Bool). both x (leb 21 (length bytes))) p

  pub load_none_lem : t ≡ false → Ok None ≡ load_of m bytes wall
  unfolding load_of
  load_none_lem e = ap (λ (x : Bool). pick x (loaded_by m (wake_of (block_in bytes) wall)) (Ok None)) (sym e ∙ told)

  pub block_inside : t ≡ true → 21 ≤ length bytes
  block_inside e = leb-true 21 (length bytes) (both_right h (leb 21 (length bytes)) (sym q ∙ e))

  pub load_block : {b : Block} {w : Result Clock BlockRefusal} {x : Result (Option Mapper) BlockRefusal} → t ≡ true → b ≡ block_in bytes → w ≡ wake_of b wall → x ≡ loaded_by m w
      → x ≡ load_of m bytes wall
  unfolding load_of
  load_block e f g k =
      k ∙ ap (loaded_by m) (g ∙ ap (λ (z : Block). wake_of z wall) f)
      ∙ ap (λ (z : Bool). pick z (loaded_by m (wake_of (block_in bytes) wall)) (Ok None)) (sym e ∙ told)
