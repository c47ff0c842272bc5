-- Saves of a cartridge and of its plain one: answered alike, and what they leave has the same bytes.
use Rattle.std.specs.Prelude.{Ok, Err, Some, None, Result, Option}
use mathlib.Core.Bool.{Bool, true, false, not}
use mathlib.Core.List.{List, [], ◌∷◌, ◌++◌}
use mathlib.Core.Path.{◌≡◌, refl, ap, ◌∙◌}
use Prim.Native.Nat.{ℕ, ◌+◌}
use lib.Dec.{eqb, ltb, leb}
use lib.ListN.{length, drop}
use Rattle.facts.specs.Choice.{pick, both}
use Rattle.facts.specs.Refusals.{No, no, first_no, in_words}
use Rattle.clock.specs.declared.Clock.{Clock}
use Rattle.clock_block.specs.Layout.{block_in, block_size}
use Rattle.clock_block.specs.Waking.{block_noes, woken_of}
use Rattle.mbc3.specs.declared.Mbc3 as mbc3-state
use Rattle.mapper.specs.declared.Mapper.{Mapper}
use Rattle.mapper.specs.declared.Mapper.TheVariants.{NoMapper, Mbc1, Mbc2, Mbc3, Mbc5}
use Rattle.battery.specs.Battery.{clock_in, has_clock, with_clock, battery_bytes, battery_size}
use Rattle.cartridge.specs.Fit.{fit_cart, area_of}
use Rattle.cartridge.specs.With.{with_mapper}
use Rattle.cartridge.specs.declared.Cartridge.{Cartridge}
use Rattle.save_file.specs.Admit.{admit_noes}
use Rattle.save_file.specs.Save as save
use Rattle.save_file.specs.Load as load
use Rattle.save_file.specs.declared.SaveRefusal.{SaveRefusal}
use Rattle.save_file.specs.declared.SaveRefusal.TheVariants.{Unfit, WrongLength, NoBattery, ShortSave, Block, ShortRoom}
use Rattle.states.specs.Layout.{encode_of}
use Rattle.states.specs.Plain.{plain_mbc3, plain_mapper, plain}
use Rattle.states.proofs.Back.{fit_plain}
use Rattle.states.proofs.PlainLaws.{by_timer}
use Rattle.player.specs.Save.{loaded_number, loaded_state, loaded_clock}
use Rattle.shipped.proofs.PlainLaws.{area_plain, same_bytes}

clock_plain : (m : Mapper) → clock_in (plain_mapper m) ≡ clock_in m
clock_plain (NoMapper m) = refl
clock_plain (Mbc1 m) = refl
clock_plain (Mbc2 m) = refl
clock_plain (Mbc3 m) = by_timer (λ (x : mbc3-state.Mbc3). clock_in (Mbc3 (plain_mbc3 x)) ≡ clock_in (Mbc3 x)) m refl refl
clock_plain (Mbc5 m) = refl

with_clock_plain : (m : Mapper) (k : Clock) → plain_mapper (with_clock (plain_mapper m) k) ≡ plain_mapper (with_clock m k)
with_clock_plain (NoMapper m) k = refl
with_clock_plain (Mbc1 m) k = refl
with_clock_plain (Mbc2 m) k = refl
with_clock_plain (Mbc3 m) k =
    by_timer (λ (x : mbc3-state.Mbc3). plain_mapper (with_clock (Mbc3 (plain_mbc3 x)) k) ≡ plain_mapper (with_clock (Mbc3 x) k)) m refl refl
with_clock_plain (Mbc5 m) k = refl

-- what three tests of a cartridge decide is the same of its plain one
by_three : {A : Type 0} (f : Bool → ℕ → Option Clock → A) (c : Cartridge)
    → f (fit_cart (plain c)) (area_of (plain c)) (clock_in (plain c).mapper) ≡ f (fit_cart c) (area_of c) (clock_in c.mapper)
unfolding plain
by_three f c =
    ap (λ (b : Bool). f b (area_of (plain c)) (clock_in (plain c).mapper)) (fit_plain c)
    ∙ ap (λ (n : ℕ). f (fit_cart c) n (clock_in (plain c).mapper)) (area_plain c.mapper c.size)
    ∙ ap (f (fit_cart c) (area_of c)) (clock_plain c.mapper)

-- ---- out

pub room_plain : (c : Cartridge) → save.room_for (plain c) ≡ save.room_for c
unfolding save.room_for plain
room_plain c =
    by_three (λ (f : Bool) (n : ℕ) (t : Option Clock). first_no Err (no (not f) Unfit ∷ no (not c.battery) NoBattery ∷ [])
    (Ok (n + battery_size t))) c

pub save_plain : (c : Cartridge) (ram : List ℕ) (room wall : ℕ) → save.save_of (plain c) ram room wall ≡ save.save_of c ram room wall
unfolding save.save_of save.save_noes admit_noes save.bytes_of plain
save_plain c ram room wall =
    by_three (λ (f : Bool) (n : ℕ) (t : Option Clock). first_no Err
    (no (not f) Unfit
    ∷ no (not (eqb (length ram) n)) WrongLength
    ∷ no (not c.battery) NoBattery
    ∷ no (ltb room (length (ram ++ battery_bytes t wall))) ShortRoom
    ∷ []) (Ok (length (ram ++ battery_bytes t wall)))) c

pub room_after_plain : (c : Cartridge) (ram room : List ℕ) (wall : ℕ) → save.room_after (plain c) ram room wall ≡ save.room_after c ram room wall
unfolding save.room_after save.bytes_of plain
room_after_plain c ram room wall =
    ap (save.room_by (ram ++ battery_bytes (clock_in (plain c).mapper) wall) room) (save_plain c ram (length room) wall)
    ∙ ap (λ (t : Option Clock). save.room_by (ram ++ battery_bytes t wall) room (save.save_of c ram (length room) wall)) (clock_plain c.mapper)

-- ---- in

-- two answers that a player cannot tell apart
pub record SameLoad (x y : Result (Option Cartridge) SaveRefusal) : Type 0 where
  pub number : loaded_number x ≡ loaded_number y
  pub state : (s : List ℕ) → loaded_state s x ≡ loaded_state s y
  pub clock : (k : ℕ) → loaded_clock k x ≡ loaded_clock k y
  pub area : (ram bytes : List ℕ) → load.area_by ram bytes x ≡ load.area_by ram bytes y

same_load : {x : Result (Option Cartridge) SaveRefusal} → SameLoad x x
same_load = record { number = refl; state = λ s. refl; clock = λ k. refl; area = λ r b. refl }

same_whole : {d e : Cartridge} → encode_of d ≡ encode_of e → SameLoad (Ok (Some d)) (Ok (Some e))
same_whole p = record { number = refl; state = λ s. p; clock = λ k. refl; area = λ r b. refl }

same_pick : (t : Bool) {a b x y : Result (Option Cartridge) SaveRefusal} → SameLoad a x → SameLoad b y → SameLoad (pick t a b) (pick t x y)
same_pick true p q = p
same_pick false p q = q

same_first : (ts : List (No SaveRefusal)) {x y : Result (Option Cartridge) SaveRefusal} → SameLoad x y
    → SameLoad (first_no Err ts x) (first_no Err ts y)
same_first [] h = h
same_first (t ∷ ts) h = same_pick t.holds same_load (same_first ts h)

same_told : {x y z : Result (Option Cartridge) SaveRefusal} → x ≡ y → SameLoad y z → SameLoad x z
same_told {z = z} e h =
    record {
      number = ap loaded_number e ∙ h.number;
      state = λ s. ap (loaded_state s) e ∙ h.state s;
      clock = λ k. ap (loaded_clock k) e ∙ h.clock k;
      area = λ ram bytes. ap (load.area_by ram bytes) e ∙ h.area ram bytes;
    }

pub load_plain : (c : Cartridge) (area : ℕ) (bytes : List ℕ) (wall : ℕ)
    → SameLoad (load.load_of (plain c) area bytes wall) (load.load_of c area bytes wall)
unfolding load.load_of load.load_noes admit_noes load.accepted_of plain
load_plain c area bytes wall =
    let behind = drop area bytes in
    let block : Option Clock → Bool = λ t. both (has_clock t) (leb block_size (length behind)) in
    let tests : Bool → ℕ → Option Clock → List (No SaveRefusal) = λ f n t.
    no (not f) Unfit
    ∷ no (not (eqb area n)) WrongLength
    ∷ no (not c.battery) NoBattery
    ∷ no (ltb (length bytes) area) ShortSave
    ∷ load.only_where (block t) (in_words Block (block_noes (block_in behind) wall)) in
    let woken : Mapper → (Result (Option Cartridge) SaveRefusal) = λ m. Ok (Some (with_mapper c (with_clock m (woken_of (block_in behind) wall)))) in
    same_told
    (by_three (λ (f : Bool) (n : ℕ) (t : Option Clock). first_no Err (tests f n t) (pick (block t) (woken (plain_mapper c.mapper)) (Ok None))) c)
    (same_first (tests (fit_cart c) (area_of c) (clock_in c.mapper))
    (same_pick (block (clock_in c.mapper)) (same_whole (same_bytes c _ _ (with_clock_plain c.mapper (woken_of (block_in behind) wall)))) same_load))
