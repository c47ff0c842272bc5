-- Of what ships, Demand 2: "The verdict on a header".
use Rattle.std.specs.Prelude.{Ok, Err, Result}
use mathlib.Core.Bool.{Bool, true, false}
use mathlib.Core.List.{List}
use mathlib.Core.Path.{◌≡◌, refl, sym, ap, ◌∙◌}
use Prim.Native.Nat.{ℕ}
use lib.Dec.{eqb}
use lib.ListN.{length}
use Rattle.facts.specs.Choice.{pick}
use Rattle.header.specs.Check.{check_of}
use Rattle.header.specs.declared.Facts.{Facts}
use Rattle.header.specs.declared.HeaderRefusal.{HeaderRefusal}
use Rattle.cartridge.specs.Fit.{area_of}
use Rattle.cartridge.specs.declared.Cartridge.{Cartridge}
use Rattle.mount.specs.Mount as mount
use Rattle.mount.specs.declared.MountRefusal.TheVariants.{WrongArea}
use Rattle.player.specs.Bus.{mount_number, mount_of}
use Rattle.player.specs.Header.{facts_of, header_by, facts_by, header_of, facts_after}
use Rattle.player.proofs.imf_header.Reads as imf-header
use Rattle.player.proofs.imf_mount.Reads as imf-mount
use Rattle.original.specs.Verdict.{ImageInDomain}
use Rattle.original.proofs.Original.{taken_if, erred_if}
use Rattle.shipped.specs.Made.{Call}
use Rattle.shipped.specs.Agrees.{VerdictAgrees, takes, errs}
use Rattle.shipped.specs.Mounted.{area_number}

-- `imf_header` answers 0 with the facts that the Rust takes the image with, or the number of its error.
pub header_agrees : (c : Call imf-header.Learnt) (wall : ℕ) → ImageInDomain c.passed.0.now
    → VerdictAgrees c.passed.0.now wall c.answer (λ d. (c.answer ≡ 0) × (c.left.1.0.now ≡ facts_of d))
unfolding header_of facts_after
header_agrees c wall i = go (check_of c.passed.0.now) refl
  where
    go : (r : Result Facts HeaderRefusal) → check_of c.passed.0.now ≡ r
        → VerdictAgrees c.passed.0.now wall c.answer (λ d. (c.answer ≡ 0) × (c.left.1.0.now ≡ facts_of d))
    go (Ok d) e =
        takes d (taken_if c.passed.0.now wall i d e)
        (c.known.0 ∙ ap header_by e, c.known.1 ∙ ap (facts_by c.passed.1.0.now) e)
    go (Err w) e =
        let x = erred_if c.passed.0.now wall i w e in errs x.0 x.1 (c.known.0 ∙ ap header_by e ∙ sym x.2)

-- `imf_mount` answers 0 where the Rust takes the image, or 12 for a RAM area of another length than its cartridge wants; or the number of
-- the Rust's error.
pub mount_agrees : (c : Call imf-mount.Learnt) (wall : ℕ) → ImageInDomain c.passed.1.0.now
    → VerdictAgrees c.passed.1.0.now wall c.answer (λ d. c.answer ≡ area_number c d)
unfolding mount_of mount.mount_of
mount_agrees c wall i = go (check_of image) refl
  where
    image : List ℕ
    image = c.passed.1.0.now

    number : Result Facts HeaderRefusal → ℕ
    number r = mount_number (mount.mount_by r (length image) (length c.passed.1.1.0.now) c.passed.1.1.1.0)

    go : (r : Result Facts HeaderRefusal) → check_of image ≡ r → VerdictAgrees image wall c.answer (λ d. c.answer ≡ area_number c d)
    go (Ok d) e =
        takes d (taken_if image wall i d e)
        (c.known.0 ∙ ap number e
        ∙ chosen (eqb (length c.passed.1.1.0.now) (area_of cart)) cart)
      where
        cart : Cartridge
        cart = mount.cart_of d (length image) c.passed.1.1.1.0

        chosen : (b : Bool) (x : Cartridge) → mount_number (pick b (Ok x) (Err WrongArea)) ≡ pick b 0 12
        chosen true x = refl
        chosen false x = refl
    go (Err w) e =
        let x = erred_if image wall i w e in errs x.0 x.1 (c.known.0 ∙ ap number e ∙ sym x.2)
