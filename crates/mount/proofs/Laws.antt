-- The answer by the header's verdict and the area's length.
use Rattle.std.specs.Prelude.{Ok, Err, Result}
use mathlib.Core.Bool.{Bool}
use mathlib.Core.List.{List}
use mathlib.Core.Path.{◌≡◌, refl, sym, ap, ◌∙◌}
use Prim.Native.Nat.{ℕ, ◌≤◌}
use lib.Dec.{eqb}
use lib.ListN.{length}
use Rattle.facts.specs.Choice.{pick}
use Rattle.facts.proofs.ListLaws.{one_of_le}
use Rattle.types.specs.declared.Kind.{Kind}
use Rattle.types.specs.declared.Kind.TheVariants as kind
use Rattle.header.specs.Size.{ram_sizes}
use Rattle.header.specs.Check.{check_of}
use Rattle.header.specs.declared.Facts.{Facts}
use Rattle.header.proofs.AcceptedLaws.{accepted_fits}
use Rattle.header.specs.declared.HeaderRefusal.{HeaderRefusal}
use Rattle.mapper.specs.Mappers as mapper
use Rattle.cartridge.specs.Fit.{area_of}
use Rattle.cartridge.specs.declared.Cartridge.{Cartridge}
use Rattle.mount.specs.Mount.{start_of, cart_of, area_in, asked_by, area_for, mount_by, mount_of, area_by, area_after}
use Rattle.mount.specs.declared.MountRefusal.TheVariants.{WrongArea}
use Rattle.mount.specs.declared.MountRefusal.{MountRefusal}

pub by_area : (d : Facts) (n area wall : ℕ) {c : Cartridge} {t b : Bool} → c ≡ cart_of d n wall → t ≡ eqb area (area_of c)
    → t ≡ b → pick b (Ok c) (Err WrongArea) ≡ mount_by (Ok d) n area wall
by_area d n area wall {c} p q r =
    ap (λ (x : Bool). pick x (Ok c) (Err WrongArea)) (sym r ∙ q)
    ∙ ap (λ (x : Cartridge). pick (eqb area (area_of x)) (Ok x) (Err WrongArea)) p

module _ (image ram : List ℕ) (wall : ℕ) where
  pub by_check : {k u : Result Facts HeaderRefusal} → k ≡ check_of image → k ≡ u
      → mount_by u (length image) (length ram) wall ≡ mount_of image ram wall
  unfolding mount_of
  by_check e g = ap (λ (x : Result Facts HeaderRefusal). mount_by x (length image) (length ram) wall) (sym g ∙ e)

  pub area_by_lem : {x : Result Cartridge MountRefusal} → x ≡ mount_of image ram wall → area_by x ram ≡ area_after image ram wall
  unfolding area_after
  area_by_lem e = ap (λ (x : Result Cartridge MountRefusal). area_by x ram) e

-- ---- the area that is asked for

pub area_small : (image : List ℕ) {d : Facts} → check_of image ≡ Ok d → d.size ≤ 0x20000
area_small image {d} e = one_of_le 0x20000 d.size ram_sizes refl (accepted_fits image d e).sized

pub asked_by_lem : (image : List ℕ) {k u : Result Facts HeaderRefusal} → k ≡ check_of image → k ≡ u → asked_by u ≡ area_for image
unfolding area_for
asked_by_lem image e g = ap asked_by (sym g ∙ e)

-- it is the length that mounting accepts, whatever the wall time
pub asked_is_area : (k : Kind) (multicart : Bool) (wall size : ℕ) → area_in k size ≡ mapper.area_of (start_of k multicart wall) size
asked_is_area kind.NoMapper multicart wall size = refl
asked_is_area kind.Mbc1 multicart wall size = refl
asked_is_area kind.Mbc2 multicart wall size = refl
asked_is_area (kind.Mbc3 timer) multicart wall size = refl
asked_is_area (kind.Mbc5 rumble) multicart wall size = refl
asked_is_area kind.Mmm01 multicart wall size = refl
asked_is_area kind.Mbc6 multicart wall size = refl
asked_is_area kind.Mbc7 multicart wall size = refl
