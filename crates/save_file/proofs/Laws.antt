-- Saving and loading by the tests they begin with, by the room, and by what stands behind the RAM.
use Rattle.std.specs.Prelude.{Ok, Err, Some, None, Result, Option}
use mathlib.Core.Bool.{Bool, true, false, not}
use mathlib.Core.List.{List, [], ◌∷◌, ◌++◌, append_assoc, append-nil}
use mathlib.Core.Path.{◌≡◌, refl, sym, ap, ◌∙◌}
use Prim.Native.Nat.{ℕ, ◌+◌, ◌-◌, ◌<◌, ◌≤◌}
use native.Mathlib.Omega.{arith}
use lib.Dec.{eqb, ltb}
use lib.ListN.{length, take, drop, length-append, drop_of_length-le}
use lib.Seq.{take_all, length-take-le, take_at, drop_at, drop-drop}
use borrow.Author.Tests.{lt-ltb, le-ltb}
use borrow.Rule.Slice.PartMut.{put_mid}
use Rattle.facts.specs.Choice.{pick, both}
use Rattle.facts.specs.Refusals.{no, first_no, in_words}
use Rattle.facts.proofs.ListLaws.{part_from, part_back}
use Rattle.facts.proofs.RefusalLaws.{first_map, first_append, first_said}
use Rattle.clock_block.specs.Layout.{block_in}
use Rattle.clock_block.specs.Waking.{block_noes, woken_of, wake_of}
use Rattle.clock_block.specs.declared.BlockRefusal.{BlockRefusal}
use Rattle.mapper.specs.declared.Mapper.{Mapper}
use Rattle.battery.specs.Battery as battery
use Rattle.battery.specs.Battery.{clock_in, has_block, battery_bytes, battery_size, put_battery, with_clock, loaded_by}
use Rattle.battery.proofs.Laws.{battery_length}
use Rattle.cartridge.specs.Fit.{fit_cart, area_of}
use Rattle.cartridge.specs.With.{with_mapper}
use Rattle.cartridge.specs.declared.Cartridge.{Cartridge}
use Rattle.save_file.specs.Admit.{admit_noes, admit_of}
use Rattle.save_file.specs.Save.{bytes_of, room_noes, saved_of, room_by, save_noes, save_of, room_after, room_for}
use Rattle.save_file.specs.Load.{only_where, behind_noes, bytes_noes, accepted_of, loaded_of, area_by, load_noes, load_of, area_after}
use Rattle.save_file.specs.declared.SaveRefusal.{SaveRefusal}
use Rattle.save_file.specs.declared.SaveRefusal.TheVariants.{Unfit, WrongLength, NoBattery, ShortSave, Block, ShortRoom}

-- ---- the tests that both begin with

module _ (c : Cartridge) (area : ℕ) where
  abbrev by : Bool → Bool → Bool → Result (Unit {0}) SaveRefusal
  by x y z =
      first_no Err (no (not x) Unfit ∷ no (not y) WrongLength ∷ no (not z) NoBattery ∷ []) (Ok tt)

  split : {x y z : Bool} → fit_cart c ≡ x → eqb area (area_of c) ≡ y → c.battery ≡ z → by x y z ≡ admit_of c area
  unfolding admit_of admit_noes
  split {x} {y} q r s =
      ap (by x y) (sym s) ∙ ap (λ (t : Bool). by x t c.battery) (sym r)
      ∙ ap (λ (t : Bool). by t (eqb area (area_of c)) c.battery) (sym q)

  pub admit_unfit : {f : Bool} → f ≡ fit_cart c → f ≡ false → Err Unfit ≡ admit_of c area
  admit_unfit p e = split (sym p ∙ e) refl refl

  pub admit_length : {f a : Bool} → f ≡ fit_cart c → f ≡ true → a ≡ eqb area (area_of c) → a ≡ false
      → Err WrongLength ≡ admit_of c area
  admit_length p e q g = split (sym p ∙ e) (sym q ∙ g) refl

  pub admit_battery : {f a b : Bool} → f ≡ fit_cart c → f ≡ true → a ≡ eqb area (area_of c) → a ≡ true → c.battery ≡ b
      → by true true b ≡ admit_of c area
  admit_battery p e q g h = split (sym p ∙ e) (sym q ∙ g) h

-- what follows where they were passed
abbrev pub then_by : {A : Type 0} → (SaveRefusal → A) → A → Result (Unit {0}) SaveRefusal → A
then_by refuse a (Ok tt) = a
then_by refuse a (Err w) = refuse w

then_first : {A : Type 0} (refuse : SaveRefusal → A) (a : A) (c : Cartridge) (area : ℕ) {o u : Result (Unit {0}) SaveRefusal} → o ≡ admit_of c area
    → o ≡ u → then_by refuse a u ≡ first_no refuse (admit_noes c area) a
unfolding admit_of
then_first refuse a c area e g =
    ap (then_by refuse a) (sym g ∙ e) ∙ first_map (then_by refuse a) Err (admit_noes c area) (Ok tt)

-- ---- saving

pub save_by : (c : Cartridge) (ram : List ℕ) (room wall : ℕ) {o u : Result (Unit {0}) SaveRefusal} → o ≡ admit_of c (length ram) → o ≡ u
    → then_by Err (saved_of (bytes_of c.mapper ram wall) room) u ≡ save_of c ram room wall
unfolding saved_of save_of save_noes
save_by c ram room wall e g =
    let bytes = bytes_of c.mapper ram wall in
    then_first Err (saved_of bytes room) c (length ram) e g
    ∙ first_append Err (admit_noes c (length ram)) (room_noes bytes room) (Ok (length bytes))

pub room_by_lem : (c : Cartridge) (ram room : List ℕ) (wall : ℕ) {x : Result ℕ SaveRefusal} → x ≡ save_of c ram (length room) wall
    → room_by (bytes_of c.mapper ram wall) room x ≡ room_after c ram room wall
unfolding room_after
room_by_lem c ram room wall e = ap (room_by (bytes_of c.mapper ram wall) room) e

module _ (m : Mapper) (ram : List ℕ) (wall room : ℕ) {kept : ℕ} (z : kept ≡ battery_size (clock_in m)) where
  bytes_length : length ram + kept ≡ length (bytes_of m ram wall)
  unfolding bytes_of
  bytes_length =
      ap (λ (k : ℕ). length ram + k) (z ∙ sym (battery_length (clock_in m) wall))
      ∙ sym (length-append ram (battery_bytes (clock_in m) wall))

  by_room : {t : Bool} → ltb room (length (bytes_of m ram wall)) ≡ t
      → pick t (Err ShortRoom) (Ok (length (bytes_of m ram wall))) ≡ saved_of (bytes_of m ram wall) room
  unfolding saved_of
  by_room e = ap (λ (t : Bool). pick t (Err ShortRoom) (Ok (length (bytes_of m ram wall)))) (sym e)

  pub saved_short : room < length ram + kept → Err ShortRoom ≡ saved_of (bytes_of m ram wall) room
  saved_short h = by_room (lt-ltb room (length (bytes_of m ram wall)) (omega (arith, bytes_length)))

  pub saved_wrote : {start : ℕ} → start ≡ length ram → length ram + kept ≤ room
      → Ok (start + kept) ≡ saved_of (bytes_of m ram wall) room
  saved_wrote {start} e h =
      ap Ok (ap (λ (k : ℕ). k + kept) e ∙ bytes_length)
      ∙ by_room (le-ltb room (length (bytes_of m ram wall)) (omega (arith, bytes_length)))

-- the RAM copied to the room, and the battery's bytes put behind it
pub put_save : (m : Mapper) (ram room : List ℕ) (wall : ℕ) {k kept : ℕ} {r p : List ℕ} → k ≡ length ram
    → kept ≡ battery_size (clock_in m) → r ≡ take (length ram) ram ++ drop (length ram) room
    → p ≡ put_battery (clock_in m) wall (take (length r - k) (drop k r))
    → put_mid k (length r - k) r p ≡ bytes_of m ram wall ++ drop (k + kept) room
unfolding bytes_of put_battery
put_save m ram room wall {k} {kept} {r} {p} e f g h =
    let tail = battery_bytes (clock_in m) wall in
    let whole : r ≡ ram ++ drop k room =
    g ∙ ap (λ (x : List ℕ). x ++ drop (length ram) room) (take_all (length ram) ram (omega arith))
    ∙ ap (λ (i : ℕ). ram ++ drop i room) (sym e) in
    let low : take k r ≡ ram = ap (take k) whole ∙ take_at ram (drop k room) k (sym e) in
    let high : drop k r ≡ drop k room = ap (drop k) whole ∙ drop_at ram (drop k room) k (sym e) in
    let put : p ≡ tail ++ drop (k + kept) room =
    h ∙ ap (λ (x : List ℕ). tail ++ drop (battery_size (clock_in m)) x) (part_from k r ∙ high)
    ∙ ap (λ (x : List ℕ). tail ++ x)
    (drop-drop (battery_size (clock_in m)) k room ∙ ap (λ (i : ℕ). drop (k + i) room) (sym f)) in
    part_back k r p ∙ ap (λ (x : List ℕ). x ++ p) low ∙ ap (λ (x : List ℕ). ram ++ x) put
    ∙ sym (append_assoc ram tail (drop (k + kept) room))

-- ---- loading

pub load_by : (c : Cartridge) (area : ℕ) (save : List ℕ) (wall : ℕ) {o u : Result (Unit {0}) SaveRefusal} → o ≡ admit_of c area → o ≡ u
    → then_by Err (loaded_of c area save wall) u ≡ load_of c area save wall
unfolding loaded_of load_of load_noes
load_by c area save wall e g =
    then_first Err (loaded_of c area save wall) c area e g
    ∙ first_append Err (admit_noes c area) (bytes_noes c.mapper area save wall) (accepted_of c (drop area save) wall)

pub area_by_lem : (c : Cartridge) (ram save : List ℕ) (wall : ℕ) {x : Result (Option Cartridge) SaveRefusal} → x ≡ load_of c (length ram) save wall
    → area_by ram save x ≡ area_after c ram save wall
unfolding area_after
area_by_lem c ram save wall e = ap (area_by ram save) e

-- the area filled from the save's first bytes
pub copied : (ram save : List ℕ) → length ram ≤ length save
    → take (length (take (length ram - 0) save)) (take (length ram - 0) save) ++ drop (length (take (length ram - 0) save)) ram
    ≡ take (length ram) save
copied ram save h =
    let z : length ram - 0 ≡ length ram = omega arith in
    let part = take (length ram - 0) save in
    let n : length part ≡ length ram = ap (λ (k : ℕ). length (take k save)) z ∙ length-take-le (length ram) save h in
    ap (λ (k : ℕ). take k part ++ drop k ram) n
    ∙ ap (λ (x : List ℕ). x ++ drop (length ram) ram) (take_all (length ram) part (omega (arith, n)))
    ∙ ap (λ (x : List ℕ). part ++ x) (drop_of_length-le ram {i = length ram} (omega arith))
    ∙ append-nil part
    ∙ ap (λ (k : ℕ). take k save) z

-- a test held only where t is, there
pub only_held : {t b : Bool} → t ≡ true → both t b ≡ false → b ≡ false
only_held {b = b} h e = sym (ap (λ (t : Bool). both t b) h) ∙ e

-- the battery's answer, as the cartridge's
abbrev pub from_battery : Cartridge → Result (Option Mapper) BlockRefusal → Result (Option Cartridge) SaveRefusal
from_battery c (Ok (Some m)) = Ok (Some (with_mapper c m))
from_battery c (Ok None) = Ok None
from_battery c (Err w) = Err (Block w)

module _ (c : Cartridge) (bytes : List ℕ) (wall : ℕ) where
  abbrev whole : Result (Option Cartridge) SaveRefusal
  whole = Ok (Some (with_mapper c (with_clock c.mapper (woken_of (block_in bytes) wall))))

  from_battery_lem : from_battery c (battery.load_of c.mapper bytes wall)
      ≡ first_no Err (behind_noes c.mapper bytes wall) (accepted_of c bytes wall)
  unfolding battery.load_of accepted_of wake_of block_noes
  from_battery_lem = go (has_block c.mapper bytes)
    where
      go : (t : Bool) → from_battery c (pick t (loaded_by c.mapper (wake_of (block_in bytes) wall)) (Ok None))
          ≡ first_no Err (only_where t (in_words Block (block_noes (block_in bytes) wall))) (pick t whole (Ok None))
      go true =
          first_map (λ w. from_battery c (loaded_by c.mapper w)) Err (block_noes (block_in bytes) wall)
          (Ok (woken_of (block_in bytes) wall))
          ∙ first_said Block Err (block_noes (block_in bytes) wall) whole
      go false = refl

module _ (c : Cartridge) (area : ℕ) (save : List ℕ) (wall : ℕ) where
  by_short : {t : Bool} → ltb (length save) area ≡ t
      → pick t (Err ShortSave)
      (first_no Err (behind_noes c.mapper (drop area save) wall) (accepted_of c (drop area save) wall))
      ≡ loaded_of c area save wall
  unfolding loaded_of
  by_short e =
      ap
      (λ (t : Bool). pick t (Err ShortSave)
      (first_no Err (behind_noes c.mapper (drop area save) wall) (accepted_of c (drop area save) wall)))
      (sym e)

  pub loaded_short : length save < area → Err ShortSave ≡ loaded_of c area save wall
  loaded_short h = by_short (lt-ltb (length save) area h)

  -- what the battery is lent is the part of the save from the area's length on
  pub loaded_long : {x y : Result (Option Mapper) BlockRefusal} → area ≤ length save
      → x ≡ battery.load_of c.mapper (take (length save - area) (drop area save)) wall → x ≡ y
      → from_battery c y ≡ loaded_of c area save wall
  loaded_long h e g =
      ap (from_battery c) (sym g ∙ e ∙ ap (λ (s : List ℕ). battery.load_of c.mapper s wall) (part_from area save))
      ∙ from_battery_lem c (drop area save) wall ∙ by_short (le-ltb (length save) area h)

-- ---- the room that is asked for, by the two tests

pub room_tested : (c : Cartridge) {f b : Bool} → f ≡ fit_cart c → b ≡ c.battery
    → first_no Err (no (not f) Unfit ∷ no (not b) NoBattery ∷ []) (Ok (area_of c + battery_size (clock_in c.mapper)))
    ≡ room_for c
unfolding room_for
room_tested c {f} p q =
    let asked = Ok (area_of c + battery_size (clock_in c.mapper)) in
    ap (λ (t : Bool). first_no Err (no (not f) Unfit ∷ no (not t) NoBattery ∷ []) asked) q
    ∙ ap (λ (t : Bool). first_no Err (no (not t) Unfit ∷ no (not c.battery) NoBattery ∷ []) asked) p

-- and it is as long as the save will be
pub room_length : (c : Cartridge) (ram : List ℕ) (wall : ℕ) → length ram ≡ area_of c
    → area_of c + battery_size (clock_in c.mapper) ≡ length (bytes_of c.mapper ram wall)
unfolding bytes_of
room_length c ram wall e =
    ap (λ (n : ℕ). n + battery_size (clock_in c.mapper)) (sym e)
    ∙ ap (λ (n : ℕ). length ram + n) (sym (battery_length (clock_in c.mapper) wall))
    ∙ sym (length-append ram (battery_bytes (clock_in c.mapper) wall))
