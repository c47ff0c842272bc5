-- Saves that we refuse, by the number that we give, and what the Rust makes of them.
use Rattle.std.specs.Prelude.{Err, Result, Option}
use mathlib.Core.Bool.{Bool, true, false, not}
use mathlib.Core.List.{List, [], ◌∷◌}
use mathlib.Core.Logic.{◌⊎◌, inl, inr}
use mathlib.Core.Option.{some}
use mathlib.Core.Path.{◌≡◌, refl, ap, ◌∙◌, subst}
use Prim.Native.Nat.{ℕ, ◌<◌, ◌≤◌}
use native.Mathlib.Omega.{arith}
use lib.Dec.{eqb, ltb}
use lib.ListN.{length, take, drop}
use borrow.Author.Tests.{ltb-true, ltb-false, eq-eqb}
use Rattle.facts.specs.Choice.{both}
use Rattle.facts.specs.Refusals.{No, no, first_no}
use Rattle.facts.proofs.ChoiceLaws.{false≢true, both_left, both_right, not_true, not_false, pick_has}
use Rattle.clock_block.specs.Layout.{block_in}
use Rattle.clock_block.specs.Waking.{beyond, late, block_noes}
use Rattle.clock_block.specs.declared.BlockRefusal.TheVariants as block
use Rattle.mbc2.specs.declared.Mbc2 as our2
use Rattle.mapper.specs.Mappers as mapper
use Rattle.mapper.specs.declared.Mapper.{Mapper}
use Rattle.mapper.specs.declared.Mapper.TheVariants.{NoMapper, Mbc1, Mbc2, Mbc3, Mbc5}
use Rattle.battery.specs.Battery.{clock_in, has_clock, has_block}
use Rattle.cartridge.specs.Fit.{fit_cart, area_of}
use Rattle.cartridge.specs.declared.Cartridge as our
use Rattle.save_file.specs.Admit.{admit_noes}
use Rattle.save_file.specs.Load.{load_noes, accepted_of, load_of}
use Rattle.save_file.specs.declared.SaveRefusal.{SaveRefusal}
use Rattle.save_file.specs.declared.SaveRefusal.TheVariants.{Unfit, WrongLength, NoBattery, ShortSave, Block, ShortRoom}
use Rattle.runs.specs.Game.{Game, mounted_machine, answer_to}
use Rattle.runs.proofs.RunLaws.{mount_ready}
use Rattle.original.specs.Machine.{ok, panic, bind, assert}
use Rattle.original.specs.Mapper as original
use Rattle.original.specs.Mapper.{boxed}
use Rattle.original.specs.Cartridge.{Cartridge, taken, from_file, with_ram}
use Rattle.original.specs.Domain.{since}
use Rattle.original.specs.Same.{SameMapper, mbc2_of}
use Rattle.original.proofs.StartLaws.{start_same}
use Rattle.original_saves.specs.Battery.{mbc2_load, load_battery, save_battery_size}
use Rattle.original_saves.specs.SramFile.{buffer, from_file_with}
use Rattle.original_saves.proofs.BufferLaws.{buffer_length, buffer_full}
use Rattle.original_saves.proofs.ReadInLaws.{into, mounted_rust, with_read, battery_is, room}
use Rattle.original_saves.proofs.StopLaws.{no_battery_unread, short_save_unread, late_save_stops, timer_area}

-- ---- which test gave the number

-- 13, 14, 18, 19, 20 and 17, by whether each holds
abbrev six : Bool → Bool → Bool → Bool → Bool → Bool → List (No SaveRefusal)
six f l n s y t =
    no f Unfit ∷ no l WrongLength ∷ no n NoBattery ∷ no s ShortSave ∷ no y (Block block.Beyond) ∷ no t (Block block.Late) ∷ []

-- where a number is given its test holds, and those before it that matter here do not
abbrev Held : Bool → Bool → Bool → Bool → Bool → Bool → SaveRefusal → Type 0
Held f l n s y t Unfit = f ≡ true
Held f l n s y t WrongLength = l ≡ true
Held f l n s y t NoBattery = n ≡ true
Held f l n s y t ShortSave = (n ≡ false) × (s ≡ true)
Held f l n s y t (Block block.Beyond) = (n ≡ false) × (s ≡ false) × (y ≡ true)
Held f l n s y t (Block block.Late) = (n ≡ false) × (s ≡ false) × (t ≡ true)
Held f l n s y t ShortRoom = Unit {0}

held : (f l n s y t : Bool) (a : Result (Option our.Cartridge) SaveRefusal) (w : SaveRefusal) → (a ≡ Err w → ⊥) → first_no Err (six f l n s y t) a ≡ Err w
    → Held f l n s y t w
held true l n s y t a w h e = let q : Unfit ≡ w = cc in subst (Held true l n s y t) q refl
held false true n s y t a w h e = let q : WrongLength ≡ w = cc in subst (Held false true n s y t) q refl
held false false true s y t a w h e = let q : NoBattery ≡ w = cc in subst (Held false false true s y t) q refl
held false false false true y t a w h e = let q : ShortSave ≡ w = cc in subst (Held false false false true y t) q (refl, refl)
held false false false false true t a w h e =
    let q : Block block.Beyond ≡ w = cc in subst (Held false false false false true t) q (refl, refl, refl)
held false false false false false true a w h e =
    let q : Block block.Late ≡ w = cc in subst (Held false false false false false true) q (refl, refl, refl)
held false false false false false false a w h e = absurd (h e)

accepted_one : (c : our.Cartridge) (behind : List ℕ) (wall : ℕ) (w : SaveRefusal) → accepted_of c behind wall ≡ Err w → ⊥
unfolding accepted_of
accepted_one c behind wall w =
    pick_has (λ (x : Result (Option our.Cartridge) SaveRefusal). x ≡ Err w → ⊥) (has_block c.mapper behind) (λ e. false≢true cc) (λ e. false≢true cc)

-- ---- what the Rust makes of them

module _ (g : Game) (save : List ℕ) where
  abbrev area : ℕ
  area = length (mounted_machine g).area

  abbrev stands : List ℕ
  stands = drop area save

  abbrev has : Bool → Bool
  has t = both (has_block g.cart.mapper stands) t

  given : (w : SaveRefusal) → answer_to (mounted_machine g) save g.wall ≡ Err w
      → Held (not (fit_cart g.cart)) (not (eqb area (area_of g.cart))) (not g.cart.battery) (ltb (length save) area)
      (has (beyond (block_in stands))) (has (late (block_in stands) g.wall)) w
  unfolding load_of load_noes admit_noes block_noes
  given w e = held _ _ _ _ _ _ (accepted_of g.cart stands g.wall) w (accepted_one g.cart stands g.wall w) e

  -- Numbers 18: "the type has no battery". It reads none
  pub rust_at_18 : answer_to (mounted_machine g) save g.wall ≡ Err NoBattery
      → from_file_with g.image g.wall (some save) ≡ from_file g.image g.wall
  rust_at_18 e = no_battery_unread g (not_true _ (given NoBattery e)) (some save)

  -- an area is the header's RAM, but for MBC2's half-bytes
  lent : area ≡ area_of g.cart
  lent = (mount_ready g.image g.area g.wall g.cart g.mounts).area

  -- Numbers 19: "the save is shorter than the RAM area". It reads none that is shorter than the header's RAM; of the others, which are
  -- MBC2's, `half_bytes_filled` speaks
  pub rust_at_19 : answer_to (mounted_machine g) save g.wall ≡ Err ShortSave
      → (from_file_with g.image g.wall (some save) ≡ from_file g.image g.wall)
      ⊎ ((k : our2.Mbc2) × (g.cart.mapper ≡ Mbc2 k) × (g.cart.battery ≡ true) × (g.cart.size ≤ length save))
  rust_at_19 e = go g.cart.mapper refl (ltb (length save) g.cart.size) refl
    where
      short : length save < area
      short = ltb-true (length save) area (given ShortSave e).1

      bare : {k : Mapper} → g.cart.mapper ≡ k → mapper.area_of k g.cart.size ≡ g.cart.size
          → from_file_with g.image g.wall (some save) ≡ from_file g.image g.wall
      bare p q =
          let z = lent ∙ ap (λ (x : Mapper). mapper.area_of x g.cart.size) p ∙ q in
          short_save_unread g save (omega (arith, short, z))

      go : (k : Mapper) → g.cart.mapper ≡ k → (t : Bool) → ltb (length save) g.cart.size ≡ t
          → (from_file_with g.image g.wall (some save) ≡ from_file g.image g.wall)
          ⊎ ((k : our2.Mbc2) × (g.cart.mapper ≡ Mbc2 k) × (g.cart.battery ≡ true) × (g.cart.size ≤ length save))
      go (NoMapper k) p t q = inl (bare p refl)
      go (Mbc1 k) p t q = inl (bare p refl)
      go (Mbc2 k) p true q = inl (short_save_unread g save (ltb-true (length save) g.cart.size q))
      go (Mbc2 k) p false q = inr (k, p, not_false _ (given ShortSave e).0, ltb-false (length save) g.cart.size q)
      go (Mbc3 k) p t q = inl (bare p refl)
      go (Mbc5 k) p t q = inl (bare p refl)

  -- Numbers 17: "the clock's time would pass 2^64 - 1 seconds". It panics
  pub rust_at_17 : answer_to (mounted_machine g) save g.wall ≡ Err (Block block.Late)
      → from_file_with g.image g.wall (some save) ≡ panic
  rust_at_17 e =
      let h = given (Block block.Late) e in
      let timed = both_left (has_clock (clock_in g.cart.mapper)) _ (both_left (has_block g.cart.mapper stands) _ h.2) in
      let long : area ≡ g.cart.size = lent ∙ timer_area g.cart.mapper g.cart.size timed in
      let l = ltb-false (length save) area h.1 in
      late_save_stops g (not_false _ h.0) timed save (omega (arith, l, long))
      (subst (λ (n : ℕ). late (block_in (drop n save)) g.wall ≡ true) long (both_right (has_block g.cart.mapper stands) _ h.2))

  -- MBC2: a file that has the header's RAM is taken, with zeros for the half-bytes that are missing
  pub half_bytes_filled : (k : our2.Mbc2) → g.cart.mapper ≡ Mbc2 k → g.cart.battery ≡ true → g.cart.size ≤ length save
      → (o : Cartridge) × (from_file g.image g.wall ≡ ok (taken o))
      × (from_file_with g.image g.wall (some save)
      ≡ ok (taken (with_ram o (original.Mbc2 (mbc2_of g.cart.banks (buffer 512 (drop g.cart.size save)) k)) (take g.cart.size save))))
  unfolding mbc2_load
  half_bytes_filled k p b l =
      let size = g.cart.size in
      let o = mounted_rust g in
      let m : o.mapper ≡ original.Mbc2 (mbc2_of g.cart.banks (drop size (mounted_machine g).area) k) =
      subst (λ (x : Mapper). SameMapper g.cart.banks size (mounted_machine g).area (since 0 0) x o.mapper) p (start_same g).same.mapper in
      let half = buffer 512 (drop size save) in (
        o,
        (start_same g).is,
        with_read g (some save)
            ∙ into o size save (battery_is g ∙ b) (room g) l
            ∙ ap (λ (x : original.Mapper).
            bind (load_battery x (buffer (save_battery_size x) (drop size save))) (λ y. ok (taken (with_ram o y (buffer size save))))) m
            ∙ ap (λ (t : Bool).
            bind (boxed original.Mbc2 (assert t (ok (mbc2_of g.cart.banks half k)))) (λ y. ok (taken (with_ram o y (buffer size save)))))
            (eq-eqb (length half) 512 (buffer_length 512 (drop size save)))
            ∙ ap (λ (r : List ℕ). ok (taken (with_ram o (original.Mbc2 (mbc2_of g.cart.banks half k)) r))) (buffer_full size save l),
      )
