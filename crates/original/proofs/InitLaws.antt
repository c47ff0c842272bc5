-- `get_mapper` and `init`: within the mapper's limits they give the start that goes with ours, beyond them they panic, but for MBC1, and of
-- the other kinds there is none.
use mathlib.Core.Bool.{Bool, true, false, not}
use mathlib.Core.Path.{◌≡◌, refl, sym, ap, ◌∙◌, subst}
use Prim.Native.Nat.{ℕ}
use native.Mathlib.Omega.{arith}
use lib.Dec.{eqb, ltb, leb}
use borrow.Author.Tests.{eq-eqb, le-leb, lt-leb, ltb-true, ltb-false}
use Rattle.facts.specs.Choice.{either}
use Rattle.facts.proofs.ChoiceLaws.{false≢true}
use Rattle.types.specs.Types.{supported_of, beyond_of}
use Rattle.types.specs.declared.Kind.{Kind}
use Rattle.types.specs.declared.Kind.TheVariants as kind
use Rattle.runs.proofs.ImageLaws.{within}
use Rattle.original.specs.Machine.{Outcome, ok, bind, assert, as_u8}
use Rattle.original.specs.NoMapper as none
use Rattle.original.specs.Mbc1 as mbc1
use Rattle.original.specs.Mbc2 as mbc2
use Rattle.original.specs.Mbc3 as mbc3
use Rattle.original.specs.Mbc5 as mbc5
use Rattle.original.specs.Mapper as original
use Rattle.original.specs.Mapper.{boxed}
use Rattle.original.specs.Cartridge.{Cartridge, MapperNotImplemented, get_mapper, Result, taken, error, ok_or}
use Rattle.original.specs.Verdict.{mapper_type, mapper_of}
use Rattle.original.specs.Beyond.{BeyondGives, stops, takes}

module _ (banks size now : ℕ) (rest : original.Mapper → Outcome Result) where
  abbrev pub started : Kind → Bool → Outcome Result
  started k multicart =
      ok_or (get_mapper (mapper_type k multicart) now) MapperNotImplemented (λ m. bind (original.init m banks size) rest)

  pub starts : (k : Kind) (multicart : Bool) → supported_of k ≡ true → beyond_of k banks size ≡ false
      → started k multicart ≡ rest (mapper_of k multicart banks size now)
  unfolding none.init mbc1.init mbc2.init mbc3.init mbc5.init
  starts kind.NoMapper multicart p q =
      let w = within kind.NoMapper banks size p q in
      rw (eq-eqb banks 2 w.0, le-leb size 0x2000 w.1)
  starts kind.Mbc1 multicart p q = refl
  starts kind.Mbc2 multicart p q =
      let w = within kind.Mbc2 banks size p q in
      let few : as_u8 banks ≡ banks = omega arith in
      rw (le-leb banks 16 w, few)
  starts (kind.Mbc3 timer) multicart p q =
      let w = within (kind.Mbc3 timer) banks size p q in
      rw (le-leb banks 256 w)
  starts (kind.Mbc5 rumble) multicart p q =
      let w = within (kind.Mbc5 rumble) banks size p q in
      rw (le-leb banks 512 w)
  starts kind.Mmm01 multicart p q = false≢true p
  starts kind.Mbc6 multicart p q = false≢true p
  starts kind.Mbc7 multicart p q = false≢true p

  pub unsupported : (k : Kind) (multicart : Bool) → supported_of k ≡ false → started k multicart ≡ ok (error MapperNotImplemented)
  unsupported kind.NoMapper multicart p = false≢true (sym p)
  unsupported kind.Mbc1 multicart p = false≢true (sym p)
  unsupported kind.Mbc2 multicart p = false≢true (sym p)
  unsupported (kind.Mbc3 timer) multicart p = false≢true (sym p)
  unsupported (kind.Mbc5 rumble) multicart p = false≢true (sym p)
  unsupported kind.Mmm01 multicart p = refl
  unsupported kind.Mbc6 multicart p = refl
  unsupported kind.Mbc7 multicart p = refl

-- ---- beyond the limits

not_leb : (a b : ℕ) → not (leb a b) ≡ ltb b a
not_leb a b = go (ltb b a) refl
  where
    go : (t : Bool) → ltb b a ≡ t → not (leb a b) ≡ t
    go true e = ap not (lt-leb a b (ltb-true b a e))
    go false e = ap not (le-leb a b (ltb-false b a e))

module _ (banks size now : ℕ) (rest : original.Mapper → Outcome Result)
    (taking : (m : original.Mapper) → (o : Cartridge) × (rest m ≡ ok (taken o))) where
  asserted : {S : Type 0} (k : Kind) (box : S → original.Mapper) (t : Bool) (x : Outcome S) → t ≡ false
      → BeyondGives k banks (bind (boxed box (assert t x)) rest)
  asserted k box true x e = false≢true (sym e)
  asserted k box false x e = stops

  -- NoMapper asserts the banks, then the RAM
  twice : {S : Type 0} (k : Kind) (box : S → original.Mapper) (t u : Bool) (x : Outcome S) → either (not t) (not u) ≡ true
      → BeyondGives k banks (bind (boxed box (assert t (assert u x))) rest)
  twice k box true true x e = false≢true e
  twice k box true false x e = stops
  twice k box false u x e = stops

  pub beyond_starts : (k : Kind) (multicart : Bool) → beyond_of k banks size ≡ true
      → BeyondGives k banks (started banks size now rest k multicart)
  unfolding none.init mbc1.init mbc2.init mbc3.init mbc5.init
  beyond_starts kind.NoMapper multicart q =
      twice kind.NoMapper original.NoMapper (eqb banks 2) (leb size 0x2000) _
      (ap (either (not (eqb banks 2))) (not_leb size 0x2000) ∙ q)
  beyond_starts kind.Mbc1 multicart q =
      let t = taking _ in
      subst (BeyondGives kind.Mbc1 banks) (sym t.1) (takes t.0 refl (ltb-true 128 banks q))
  beyond_starts kind.Mbc2 multicart q =
      asserted kind.Mbc2 original.Mbc2 (leb banks 16) _ (lt-leb banks 16 (ltb-true 16 banks q))
  beyond_starts (kind.Mbc3 timer) multicart q =
      asserted (kind.Mbc3 timer) original.Mbc3 (leb banks 256) _ (lt-leb banks 256 (ltb-true 256 banks q))
  beyond_starts (kind.Mbc5 rumble) multicart q =
      asserted (kind.Mbc5 rumble) original.Mbc5 (leb banks 512) _ (lt-leb banks 512 (ltb-true 512 banks q))
  beyond_starts kind.Mmm01 multicart q = false≢true q
  beyond_starts kind.Mbc6 multicart q = false≢true q
  beyond_starts kind.Mbc7 multicart q = false≢true q
