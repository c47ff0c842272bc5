-- A call by what its state is, its answer as a number, the facts of an accepted header as numbers of 32 bits, and the number that a ROM
-- window has.
use Rattle.std.specs.Prelude.{Ok, Err, Some, None, Result, Option}
use mathlib.Core.Bool.{Bool, true, false}
use mathlib.Core.List.{List}
use mathlib.Core.Path.{◌≡◌, refl, sym, ap, ◌∙◌}
use Prim.Native.Nat.{ℕ, ◌/◌, ◌<◌}
use native.Mathlib.Omega.{arith}
use lib.Dec.{ltb}
use lib.ListN.{get_or}
use borrow.Author.Tests.{ltb-true, ltb-false}
use Rattle.facts.specs.Choice.{pick}
use Rattle.facts.proofs.ListLaws.{one_of_le}
use Rattle.image.proofs.ImageLaws.{title_le}
use Rattle.header.specs.Check.{facts_of, check_of}
use Rattle.header.specs.Size.{ram_sizes}
use Rattle.header.specs.declared.Facts.{Facts}
use Rattle.header.proofs.AcceptedLaws.{accepted_only, accepted_fits}
use Rattle.header.specs.declared.HeaderRefusal.{HeaderRefusal}
use Rattle.clock.specs.Ticking as clock
use Rattle.clock.specs.declared.AdvanceRefusal.TheVariants as refusal
use Rattle.clock.specs.declared.AdvanceRefusal.{AdvanceRefusal}
use Rattle.cartridge.specs.declared.Cartridge.{Cartridge}
use Rattle.access.specs.Verdict.{number_of}
use Rattle.access.specs.declared.BusRefusal.TheVariants.{Unfit}
use Rattle.access.specs.declared.BusRefusal.{BusRefusal}
use Rattle.bus.specs.Bus as bus
use Rattle.bus.specs.Advance as advance
use Rattle.states.specs.Reading.{decode_of}
use Rattle.states.specs.OnState.{on_state}
use Rattle.flat_write.specs.Calls.{wrote_by, wrote_of, passed_by, passed_of}
use Rattle.player.specs.Bus.{write_number, write_of, advance_number, advance_of}
use Rattle.windows.specs.Through.{rom_start}
use Rattle.player.specs.Header.{Small}
use Rattle.player.specs.Windows.{windows_in}

-- ---- the state

module _ {A : Type 0} (f : Cartridge → A) (a : A) (s : List ℕ) {d : Option Cartridge} (e : d ≡ decode_of s) where
  pub on_cartridge : {c : Cartridge} → d ≡ Some c → f c ≡ on_state f a (decode_of s)
  on_cartridge g = ap (on_state f a) (sym g ∙ e)

  pub on_none : d ≡ None → a ≡ on_state f a (decode_of s)
  on_none g = ap (on_state f a) (sym g ∙ e)

-- an answer as a number, by the state
pub on_number : {A B : Type 0} (g : A → B) (f : Cartridge → A) (a : A) (d : Option Cartridge) → g (on_state f a d) ≡ on_state (λ c. g (f c)) (g a) d
on_number g f a (Some c) = refl
on_number g f a None = refl

-- an answer without its cartridge, as a number: that of the answer with it
module _ {A W : Type 0} (less : A → W) (told : W → ℕ) (number : A → ℕ) (same : (a : A) → told (less a) ≡ number a) where
  alike : (f : Cartridge → A) (r : W) (d : Option Cartridge) → on_state (λ c. told (less (f c))) (told r) d ≡ on_state (λ c. number (f c)) (told r) d
  alike f r (Some c) = same (f c)
  alike f r None = refl

  told_number : (f : Cartridge → A) (r : W) (d : Option Cartridge) {x y : W} → x ≡ on_state (λ c. less (f c)) r d → x ≡ y
      → told y ≡ on_state (λ c. number (f c)) (told r) d
  told_number f r d e g = ap told (sym g ∙ e) ∙ on_number told (λ c. less (f c)) r d ∙ alike f r d

-- ---- a write and passing clocks

abbrev wrote_number : Result (Unit {0}) BusRefusal → ℕ
wrote_number (Ok tt) = 0
wrote_number (Err w) = number_of w

wrote_same : (a : Result Cartridge BusRefusal) → wrote_number (wrote_by a) ≡ write_number a
wrote_same (Ok c) = refl
wrote_same (Err w) = refl

pub write_number_lem : (s ram : List ℕ) (addr byte : ℕ) {x y : Result (Unit {0}) BusRefusal} → x ≡ wrote_of s ram addr byte → x ≡ y → wrote_number y ≡ write_of s ram addr byte
unfolding wrote_of write_of
write_number_lem s ram addr byte =
    told_number wrote_by wrote_number write_number wrote_same (λ c. bus.write_of c ram addr byte) (Err Unfit) (decode_of s)

abbrev passed_number : Result (Unit {0}) AdvanceRefusal → ℕ
passed_number (Ok tt) = 0
passed_number (Err w) = clock.number_of w

passed_same : (a : Result Cartridge AdvanceRefusal) → passed_number (passed_by a) ≡ advance_number a
passed_same (Ok c) = refl
passed_same (Err w) = refl

pub advance_number_lem : (s : List ℕ) (n : ℕ) {x y : Result (Unit {0}) AdvanceRefusal} → x ≡ passed_of s n → x ≡ y → passed_number y ≡ advance_of s n
unfolding passed_of advance_of
advance_number_lem s n =
    told_number passed_by passed_number advance_number passed_same (λ c. advance.advance_of c n) (Err refusal.Unfit) (decode_of s)

-- ---- the header

pub accepted_small : (s : List ℕ) {x : Result Facts HeaderRefusal} {d : Facts} → x ≡ check_of s → x ≡ Ok d → Small d
unfolding facts_of
accepted_small s {d = d} e g =
    let p = sym e ∙ g in
    record {
      size = one_of_le 0x20000 d.size ram_sizes refl (accepted_fits s d p).sized;
      title = omega (arith, ap (λ (x : Facts). x.title) (accepted_only s d p).1, title_le s);
    }

-- ---- a ROM window by its number

pub rom_started : (numbers : List ℕ) (addr : ℕ) → addr < 0x8000 → get_or numbers (addr / 0x4000) 0 ≡ rom_start (windows_in numbers) addr
rom_started numbers addr h = go (ltb addr 0x4000) refl
  where
    at : {i : ℕ} → addr / 0x4000 ≡ i → get_or numbers (addr / 0x4000) 0 ≡ get_or numbers i 0
    at e = ap (λ (i : ℕ). get_or numbers i 0) e

    go : (b : Bool) → ltb addr 0x4000 ≡ b → get_or numbers (addr / 0x4000) 0 ≡ pick b (get_or numbers 0 0) (get_or numbers 1 0)
    go true e = let l = ltb-true addr 0x4000 e in at (omega arith)
    go false e = let l = ltb-false addr 0x4000 e in at (omega arith)
