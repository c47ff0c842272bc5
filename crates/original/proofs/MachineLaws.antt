-- What the machine's expressions come to where they do not panic, and the places of the banks.
use Rattle.std.specs.Prelude.{Some, None, Option}
use mathlib.Core.Bool.{Bool, true, false, not}
use mathlib.Core.List.{List}
use mathlib.Core.Path.{◌≡◌, refl, sym, ap, ◌∙◌}
use Prim.Native.Nat.{ℕ, ◌+◌, ◌-◌, ◌*◌, ◌/◌, ◌%◌, ◌<◌, ◌≤◌}
use native.Mathlib.Nat.{zero-mod}
use native.Mathlib.Omega.{arith}
use lib.Bits.{bit_and, and_mask}
use lib.Dec.{eqb, ltb, leb}
use lib.ListN.{length, get_or, set, take, drop}
use borrow.Author.Tests.{eq-eqb, ne_eqb, lt-ltb, ltb-true, ltb-false, le-leb, lt-leb}
use Rattle.facts.specs.Choice.{pick, both}
use Rattle.facts.specs.Banking.{place_of}
use Rattle.facts.proofs.ChoiceLaws.{both_true, both_false}
use Rattle.banking.specs.Banks.{rom_place, banked_place, ram_place}
use Rattle.original.specs.Machine.{Outcome, ok, panic, bind, rem, div, index, store, slice, within, as_u8}
use Rattle.original.specs.MappingResult.{Mapped, mapped, Addr, NotMapped}
use Rattle.original.specs.Place.{result_of}

-- ---- no panic

pub rem_ok : (a b : ℕ) → 0 < b → rem a b ≡ ok (a % b)
rem_ok a b h = ap (λ (t : Bool). pick t panic (ok (a % b))) (ne_eqb b 0 (λ e. omega arith))

pub div_ok : (a b : ℕ) → 0 < b → div a b ≡ ok (a / b)
div_ok a b h = ap (λ (t : Bool). pick t panic (ok (a / b))) (ne_eqb b 0 (λ e. omega arith))

pub index_ok : (s : List ℕ) (i : ℕ) → i < length s → index s i ≡ ok (get_or s i 0)
index_ok s i h = ap (λ (t : Bool). pick t (ok (get_or s i 0)) panic) (lt-ltb i (length s) h)

pub store_ok : (s : List ℕ) (i v : ℕ) → i < length s → store s i v ≡ ok (set s i v)
store_ok s i v h = ap (λ (t : Bool). pick t (ok (set s i v)) panic) (lt-ltb i (length s) h)

pub slice_ok : (s : List ℕ) (a b : ℕ) → b < length s → slice s a b ≡ ok (take (b + 1 - a) (drop a s))
slice_ok s a b h = ap (λ (t : Bool). pick t (ok (take (b + 1 - a) (drop a s))) panic) (lt-ltb b (length s) h)

-- ---- an arm of a match on the address, against a test of its end alone

pub inside : (low high addr : ℕ) → low ≤ addr → addr ≤ high → within low high addr ≡ true
inside low high addr l h = both_true (le-leb low addr l) (le-leb addr high h)

pub outside : (low high addr : ℕ) → high < addr → within low high addr ≡ false
outside low high addr h = ap (both (leb low addr)) (lt-leb addr high h) ∙ both_false (leb low addr)

pub arm_cases : {A B : Type 0} (f : A → B) (low high addr : ℕ) {x y : B} {a b : A} → low ≤ addr → (addr ≤ high → x ≡ f a)
    → (high < addr → y ≡ f b) → pick (within low high addr) x y ≡ f (pick (ltb addr (high + 1)) a b)
arm_cases {A} {B} f low high addr {x} {y} {a} {b} l p q = go (ltb addr (high + 1)) refl
  where
    go : (t : Bool) → ltb addr (high + 1) ≡ t → pick (within low high addr) x y ≡ f (pick t a b)
    go true e =
        let h = ltb-true addr (high + 1) e in
        ap (λ (t : Bool). pick t x y) (inside low high addr l (omega arith)) ∙ p (omega arith)
    go false e =
        let h = ltb-false addr (high + 1) e in
        ap (λ (t : Bool). pick t x y) (outside low high addr (omega arith)) ∙ q (omega arith)

pub arm : {A B : Type 0} (f : A → B) (low high addr : ℕ) {x y : B} {a b : A} → low ≤ addr → x ≡ f a → (high < addr → y ≡ f b)
    → pick (within low high addr) x y ≡ f (pick (ltb addr (high + 1)) a b)
arm f low high addr l p q = arm_cases f low high addr l (λ h. p) q

-- a test of the end alone, as an arm from 0 on
pub up_to : (high addr : ℕ) → leb addr high ≡ within 0 high addr
up_to high addr = sym (ap (λ (t : Bool). both t (leb addr high)) (le-leb 0 addr (omega arith)))

-- ---- a bank of the ROM

pub rom_banked : (bank banks addr : ℕ) → 0 < banks
    → bind (rem bank banks) (λ b. ok (b * 0x4000 + bit_and addr 0x3FFF)) ≡ ok (rom_place banks bank addr)
unfolding place_of
rom_banked bank banks addr h =
    ap (λ (x : Outcome ℕ). bind x (λ b. ok (b * 0x4000 + bit_and addr 0x3FFF))) (rem_ok bank banks h)
    ∙ ap (λ (x : ℕ). ok (bank % banks * 0x4000 + x)) (and_mask addr 14)

-- the first, where nothing moves it
pub rom_first : (banks addr : ℕ) → addr < 0x4000 → ok addr ≡ ok (rom_place banks 0 addr)
unfolding place_of
rom_first banks addr h = ap ok (omega (arith, zero-mod banks))

-- ---- a bank of the RAM

module _ {S : Type 0} (self : S) where
  pub ram_banked : (size bank addr : ℕ) → size ≤ 0x20000
      → pick (eqb size 0x800) (ok (mapped self (Addr (bit_and addr 0x7FF))))
      (pick (eqb (as_u8 (size / 0x2000)) 0) (ok (mapped self NotMapped))
      (bind (rem bank (as_u8 (size / 0x2000))) (λ b. ok (mapped self (Addr (b * 0x2000 + bit_and addr 0x1FFF))))))
      ≡ ok (mapped self (result_of (ram_place size bank addr)))
  unfolding ram_place banked_place place_of
  ram_banked size bank addr h = go (eqb size 0x800) (ltb size 0x2000) refl refl
    where
      rest : Outcome (Mapped S)
      rest =
          pick (eqb (as_u8 (size / 0x2000)) 0) (ok (mapped self NotMapped))
          (bind (rem bank (as_u8 (size / 0x2000))) (λ b. ok (mapped self (Addr (b * 0x2000 + bit_and addr 0x1FFF)))))

      go : (t u : Bool) → eqb size 0x800 ≡ t → ltb size 0x2000 ≡ u
          → pick t (ok (mapped self (Addr (bit_and addr 0x7FF)))) rest
          ≡ ok (mapped self
          (result_of
          (pick t (Some (addr % 0x800)) (pick u None (Some (bank % (size / 0x2000) * 0x2000 + addr % 0x2000))))))
      go true u e f = ap (λ (x : ℕ). ok (mapped self (Addr x))) (and_mask addr 11)
      go false true e f =
          let l = ltb-true size 0x2000 f in
          ap (λ (t : Bool).
          pick t (ok (mapped self NotMapped))
          (bind (rem bank (as_u8 (size / 0x2000))) (λ b. ok (mapped self (Addr (b * 0x2000 + bit_and addr 0x1FFF))))))
          (eq-eqb (as_u8 (size / 0x2000)) 0 (omega arith))
      go false false e f =
          let l = ltb-false size 0x2000 f in
          let small : as_u8 (size / 0x2000) ≡ size / 0x2000 = omega arith in
          ap (λ (n : ℕ).
          pick (eqb n 0) (ok (mapped self NotMapped))
          (bind (rem bank n) (λ b. ok (mapped self (Addr (b * 0x2000 + bit_and addr 0x1FFF)))))) small
          ∙ ap (λ (t : Bool).
          pick t (ok (mapped self NotMapped))
          (bind (rem bank (size / 0x2000)) (λ b. ok (mapped self (Addr (b * 0x2000 + bit_and addr 0x1FFF))))))
          (ne_eqb (size / 0x2000) 0 (λ q. omega arith))
          ∙ ap (λ (x : Outcome ℕ). bind x (λ b. ok (mapped self (Addr (b * 0x2000 + bit_and addr 0x1FFF)))))
          (rem_ok bank (size / 0x2000) (omega arith))
          ∙ ap (λ (x : ℕ). ok (mapped self (Addr (bank % (size / 0x2000) * 0x2000 + x)))) (and_mask addr 13)

  -- mapped only where it is enabled
  pub ram_enabled : (t : Bool) (p : Option ℕ) {x : Outcome (Mapped S)} → x ≡ ok (mapped self (result_of p))
      → pick (not t) (ok (mapped self NotMapped)) x ≡ ok (mapped self (result_of (pick t p None)))
  ram_enabled true p e = e
  ram_enabled false p e = refl
