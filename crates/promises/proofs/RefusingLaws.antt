-- A call whose answer is the first refusal that holds, where no refusal is the accepted answer and no two are one, is what demand 1
-- asks; and what that takes of each call.
use Rattle.std.specs.Prelude.{Ok, Err, Some, Result, Option}
use native.Mathlib.Omega.{arith}
use mathlib.Core.Bool.{Bool, true, false, not}
use mathlib.Core.List.{List, [], ◌∷◌, map}
use mathlib.Core.Logic.{◌⊎◌, inl, inr}
use mathlib.Core.Path.{◌≡◌, refl, sym, ap, ◌∙◌}
use Prim.Native.Nat.{ℕ, ◌+◌, ◌≤◌}
use lib.Dec.{eqb, ltb}
use lib.ListN.{length, replicate}
use borrow.Author.Tests.{ltb-true, ltb-false, le-ltb}
use Rattle.facts.specs.Choice.{pick}
use Rattle.facts.specs.Refusals.{No, no, first_no, any_no, in_words, First}
use Rattle.facts.proofs.ChoiceLaws.{false≢true, pick_has, not_false}
use Rattle.facts.proofs.RefusalLaws.{none_or_first, first_answers, none_accepts, given_first, first_map, first_append, first_said, none_if, none_at}
use Rattle.header.specs.Check.{check_of}
use Rattle.header.specs.Accepted.{tests_of}
use Rattle.header.specs.declared.Facts.{Facts}
use Rattle.header.specs.declared.HeaderRefusal.{HeaderRefusal}
use Rattle.battery.specs.Battery.{has_block, clock_in, battery_size}
use Rattle.cartridge.specs.Fit.{area_of, fit_cart}
use Rattle.cartridge.specs.declared.Cartridge.{Cartridge}
use Rattle.save_file.specs.Admit.{admit_noes}
use Rattle.save_file.specs.Save.{bytes_of, save_noes, save_of, ask_noes, room_for}
use Rattle.save_file.specs.Load.{accepted_of}
use Rattle.save_file.proofs.Laws.{room_length}
use Rattle.save_file.specs.declared.SaveRefusal.{SaveRefusal}
use Rattle.save_file.specs.declared.SaveRefusal.TheVariants.{NoBattery, ShortRoom}
use Rattle.mount.specs.Mount.{cart_of, mount_by, mount_of}
use Rattle.mount.specs.declared.MountRefusal.TheVariants.{Header, WrongArea}
use Rattle.access.specs.Verdict.{in_rom}
use Rattle.access.specs.declared.BusRefusal.{BusRefusal}
use Rattle.access.specs.declared.Target.{Target}
use Rattle.access.specs.declared.Target.TheVariants.{Rom, Ram}
use Rattle.bus.specs.Bus.{read_by, write_by}
use Rattle.replay_step.specs.Step.{machine}
use Rattle.replay_text.specs.Replay.{text_of}
use Rattle.replay_program.specs.Written.{written_of}
use Rattle.replay_program.proofs.Theorems.{header_refused, area_too_large, mounted_replays}
use Rattle.runs.proofs.SaveLaws as saves
use Rattle.promises.specs.Refusing.{Call, Refusing}
use Rattle.promises.specs.PublicCalls.{
  facts_in,
  area_noes,
  mount_noes,
  asked_in,
  large_noes,
  program_noes,
  mount_line,
}

pub by_first : {R A : Type 0} {numbers : List ℕ} (c : Call R A) → c.answer ≡ first_no c.refuse c.tests c.accepted
    → ((v w : R) → c.refuse v ≡ c.refuse w → v ≡ w) → ((w : R) → c.accepted ≡ c.refuse w → false ≡ true)
    → map (λ (t : No R). c.number_of t.why) c.tests ≡ numbers
    → ((w : R) → c.answer ≡ c.refuse w → c.after ≡ c.before) → Refusing numbers c
by_first c is one apart order stays =
    record {
      order = order;
      first = λ f. is ∙ first_answers c.refuse c.accepted c.tests f;
      given = λ w e. given_first c.refuse c.tests c.accepted one (λ v p. false≢true (apart v p)) w (sym is ∙ e);
      none = λ n. is ∙ none_accepts c.refuse c.accepted c.tests n;
      only = λ e. go e (none_or_first c.tests);
      stays = stays;
    }
  where
    go : c.answer ≡ c.accepted → (any_no c.tests ≡ false) ⊎ First c.tests → any_no c.tests ≡ false
    go e (inl n) = n
    go e (inr f) = false≢true (apart f.test.why (sym e ∙ is ∙ first_answers c.refuse c.accepted c.tests f))

-- ---- mounting: the header's tests, and one more

one_more : (t : Bool) (c : Cartridge)
    → pick t (Ok c) (Err WrongArea) ≡ first_no Err (no (not t) WrongArea ∷ []) (Ok c)
one_more true c = refl
one_more false c = refl

pub mount_is_first : (image ram : List ℕ) (wall : ℕ)
    → mount_of image ram wall
    ≡ first_no Err (mount_noes image (length ram) wall) (Ok (cart_of (facts_in image) (length image) wall))
unfolding mount_of check_of mount_noes
mount_is_first image ram wall =
    let c = cart_of (facts_in image) (length image) wall in
    first_map (λ (x : Result Facts HeaderRefusal). mount_by x (length image) (length ram) wall) Err (tests_of image) (Ok (facts_in image))
    ∙ ap (first_no (λ w. Err (Header w)) (tests_of image)) (one_more (eqb (length ram) (area_of c)) c)
    ∙ first_said Header Err (tests_of image) _
    ∙ first_append Err (in_words Header (tests_of image)) (area_noes image (length ram) wall) (Ok c)

-- ---- accepted answers are no refusals

pub read_taken : (c : Cartridge) (rom ram : List ℕ) (addr : ℕ) (w : BusRefusal)
    → read_by c rom ram addr (pick (in_rom addr) (Ok Rom) (Ok Ram)) ≡ Err w → false ≡ true
read_taken c rom ram addr w =
    pick_has (λ (v : Result Target BusRefusal). read_by c rom ram addr v ≡ Err w → false ≡ true) (in_rom addr) (λ e. cc) (λ e. cc)

pub write_taken : (c : Cartridge) (addr byte : ℕ) (w : BusRefusal)
    → write_by c addr byte (pick (in_rom addr) (Ok Rom) (Ok Ram)) ≡ Err w → false ≡ true
write_taken c addr byte w =
    pick_has (λ (v : Result Target BusRefusal). write_by c addr byte v ≡ Err w → false ≡ true) (in_rom addr) (λ e. cc) (λ e. cc)

pub load_taken : (c : Cartridge) (behind : List ℕ) (wall : ℕ) (w : SaveRefusal) → accepted_of c behind wall ≡ Err w → false ≡ true
unfolding accepted_of
load_taken c behind wall w =
    pick_has (λ (x : Result (Option Cartridge) SaveRefusal). x ≡ Err w → false ≡ true) (has_block c.mapper behind) (λ e. cc) (λ e. cc)

-- ---- the replay program, where both files were read

module _ (image s : List ℕ) (h : length image ≤ 32768) (l : length s ≤ 16384) where
  abbrev text : List ℕ
  text = text_of image (machine (cart_of (facts_in image) (length image) 0) (replicate (asked_in image) 0)) s

  abbrev last : List ℕ
  last = first_no mount_line (large_noes image) text

  joined : first_no (λ w. mount_line (Header w)) (tests_of image) last ≡ first_no mount_line (program_noes image) text
  unfolding program_noes
  joined =
      first_said Header mount_line (tests_of image) last
      ∙ first_append mount_line (in_words Header (tests_of image)) (large_noes image) text

  by_area : check_of image ≡ Ok (facts_in image) → written_of (Some image) (Some s) ≡ last
  by_area e = go (ltb 8192 (asked_in image)) refl
    where
      go : (t : Bool) → ltb 8192 (asked_in image) ≡ t
          → written_of (Some image) (Some s) ≡ first_no mount_line (no t WrongArea ∷ []) text
      go true g = area_too_large image s h l e (ltb-true 8192 (asked_in image) g)
      go false g = mounted_replays image s h l e (ltb-false 8192 (asked_in image) g)

  pub replay_is_first : written_of (Some image) (Some s) ≡ first_no mount_line (program_noes image) text
  unfolding check_of
  replay_is_first = go (none_or_first (tests_of image))
    where
      go : (any_no (tests_of image) ≡ false) ⊎ First (tests_of image)
          → written_of (Some image) (Some s) ≡ first_no mount_line (program_noes image) text
      go (inl n) =
          by_area (none_accepts Err (Ok (facts_in image)) (tests_of image) n)
          ∙ sym (none_accepts (λ w. mount_line (Header w)) last (tests_of image) n)
          ∙ joined
      go (inr f) =
          header_refused image s h l (first_answers Err (Ok (facts_in image)) (tests_of image) f)
          ∙ sym (first_answers (λ w. mount_line (Header w)) last (tests_of image) f)
          ∙ joined

-- ---- a room that was asked for

abbrev is_bytes : Result ℕ SaveRefusal → Bool
is_bytes (Ok n) = true
is_bytes (Err w) = false

pub asked_saves : (c : Cartridge) (ram : List ℕ) (n wall : ℕ) → length ram ≡ area_of c → room_for c ≡ Ok n
    → save_of c ram n wall ≡ Ok n
unfolding room_for save_noes admit_noes
asked_saves c ram n wall l e =
    let all = area_of c + battery_size (clock_in c.mapper) in
    let none = none_if is_bytes Err (λ w. refl) (ask_noes c) (Ok all) (ap is_bytes e) in
    let fit = not_false (fit_cart c) (none_at (ask_noes c) 0 (no false NoBattery) refl none) in
    let battery = none_at (ask_noes c) 1 (no false NoBattery) refl none in
    let asked = sym (none_accepts Err (Ok all) (ask_noes c) none) ∙ e in
    let same : all ≡ n = cc in
    let long : length (bytes_of c.mapper ram wall) ≡ n = sym (room_length c ram wall l) ∙ same in
    saves.fit_saves c ram n wall fit l
    ∙ ap (λ (b : Bool). first_no Err
    (no b NoBattery ∷ no (ltb n (length (bytes_of c.mapper ram wall))) ShortRoom ∷ []) (Ok (length (bytes_of c.mapper ram wall))))
    battery
    ∙ ap (λ (b : Bool). first_no Err (no b ShortRoom ∷ []) (Ok (length (bytes_of c.mapper ram wall))))
    (le-ltb n (length (bytes_of c.mapper ram wall)) (omega (arith, long)))
    ∙ ap Ok long
