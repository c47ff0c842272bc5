-- A cartridge just mounted goes with the one that `from_file` gives.
use Rattle.std.specs.Prelude.{Result}
use mathlib.Core.Bool.{Bool}
use mathlib.Core.List.{List, ◌∷◌}
use mathlib.Core.Path.{◌≡◌, refl, sym, ap, ◌∙◌, subst}
use Prim.Native.Nat.{ℕ, zero, suc, ◌+◌, ◌≤◌}
use native.Mathlib.Nat.{zero-add, suc-add}
use native.Mathlib.Omega.{arith}
use lib.ListN.{length, take, drop, replicate}
use Rattle.facts.proofs.ListLaws.{one_of_le}
use Rattle.bytes_le.proofs.OctetLaws.{octets_zeros}
use Rattle.types.specs.declared.Kind.{Kind}
use Rattle.types.specs.declared.Kind.TheVariants as kind
use Rattle.header.specs.Size.{ram_sizes}
use Rattle.header.specs.declared.Facts.{Facts}
use Rattle.header.proofs.AcceptedLaws.{accepted_fits}
use Rattle.mbc2.specs.Registers as our2
use Rattle.mbc3.specs.Registers as our3
use Rattle.mapper.specs.Mappers as mapper
use Rattle.cartridge.specs.Fit.{area_of}
use Rattle.cartridge.specs.declared.Cartridge as our
use Rattle.cartridge.specs.declared.Cartridge.{Cartridge}
use Rattle.mount.specs.Mount as mount
use Rattle.mount.specs.Mount.{start_of, cart_of}
use Rattle.mount.specs.declared.MountRefusal.{MountRefusal}
use Rattle.runs.specs.Limits.{Within}
use Rattle.runs.specs.Game.{Game}
use Rattle.runs.proofs.ImageLaws.{within}
use Rattle.runs.proofs.BusLaws.{mount_taken}
use Rattle.original.specs.Machine.{Outcome}
use Rattle.original.specs.Mbc3 as mbc3
use Rattle.original.specs.Mapper as original
use Rattle.original.specs.Same.{mbc2_of, SameMapper, Same}
use Rattle.original.specs.Verdict.{mapper_of, value_or, mbc3_start, cartridge_of}
use Rattle.original.specs.Domain.{since}
use Rattle.original.specs.Along.{StartSame}
use Rattle.original.specs.Follows as follows
use Rattle.original.proofs.Mbc3Laws as mbc3-laws
use Rattle.original.proofs.VerdictLaws.{same_verdict, taken_by, accepted_inside}

-- ---- zeros

abbrev zeros : ℕ → List ℕ
zeros n = replicate n 0

zeros_taken : (n m : ℕ) → n ≤ m → ◌≡◌ {A = List ℕ} (take n (replicate m 0)) (replicate n 0)
zeros_taken zero m h = refl
zeros_taken (suc n) zero h = absurd (omega arith)
zeros_taken (suc n) (suc m) h = ap (λ (l : List ℕ). 0 ∷ l) (zeros_taken n m (omega arith))

zeros_dropped : (n k : ℕ) → ◌≡◌ {A = List ℕ} (drop n (replicate (n + k) 0)) (replicate k 0)
zeros_dropped zero k = ap zeros (zero-add k)
zeros_dropped (suc n) k = ap (λ (i : ℕ). drop (suc n) (zeros i)) (suc-add n k) ∙ zeros_dropped n k

-- ---- each mapper's start

start_mapper_lem : (k : Kind) (multicart : Bool) (banks size wall : ℕ) → Within k banks size → size ≤ 0x20000
    → SameMapper banks size (replicate (mapper.area_of (start_of k multicart wall) size) 0) (since 0 0) (start_of k multicart wall)
    (mapper_of k multicart banks size wall)
start_mapper_lem kind.NoMapper multicart banks size wall c p = refl
start_mapper_lem kind.Mbc1 multicart banks size wall c p = refl
start_mapper_lem kind.Mbc2 multicart banks size wall c p =
    ap (λ (l : List ℕ). original.Mbc2 (mbc2_of banks l our2.start)) (sym (zeros_dropped size 512))
start_mapper_lem (kind.Mbc3 timer) multicart banks size wall c p =
    let b = mbc3-laws.start_same banks size timer wall c (omega arith) in
    let e : mbc3_start timer banks size wall ≡ b.state = ap (λ (y : Outcome mbc3.Mbc3). value_or y (mbc3.new timer wall))
    b.is in (
      mbc3_start timer banks size wall,
      refl,
      subst
          (λ (x : mbc3.Mbc3). follows.Same banks size (since 0 0) (our3.start timer wall) x) (sym e) b.same,
    )
start_mapper_lem (kind.Mbc5 rumble) multicart banks size wall c p = (rumble, refl)
start_mapper_lem kind.Mmm01 multicart banks size wall c p = absurd c
start_mapper_lem kind.Mbc6 multicart banks size wall c p = absurd c
start_mapper_lem kind.Mbc7 multicart banks size wall c p = absurd c

room : (k : Kind) (multicart : Bool) (size wall : ℕ) → size ≤ mapper.area_of (start_of k multicart wall) size
room kind.NoMapper multicart size wall = omega arith
room kind.Mbc1 multicart size wall = omega arith
room kind.Mbc2 multicart size wall = omega arith
room (kind.Mbc3 timer) multicart size wall = omega arith
room (kind.Mbc5 rumble) multicart size wall = omega arith
room kind.Mmm01 multicart size wall = omega arith
room kind.Mbc6 multicart size wall = omega arith
room kind.Mbc7 multicart size wall = omega arith

-- ---- the cartridge

start_cart : (image : List ℕ) (n wall : ℕ) (d : Facts) → Within d.kind d.banks d.size → d.size ≤ 0x20000
    → Same image (since 0 0) (record { cart = cart_of d n wall; area = replicate (area_of (cart_of d n wall)) 0 })
    (cartridge_of image wall d)
unfolding cart_of
start_cart image n wall d c p =
    record {
      rom = refl;
      ram = sym (zeros_taken d.size _ (room d.kind d.multicart d.size wall));
      octets = octets_zeros (mapper.area_of (start_of d.kind d.multicart wall) d.size);
      mapper = start_mapper_lem d.kind d.multicart d.banks d.size wall c p;
    }

pub start_same : (g : Game) → StartSame g
unfolding mount.area_after
start_same g =
    let image = g.image in
    let wall = g.wall in
    let t = mount_taken image g.area wall g.cart g.mounts in
    let fits = accepted_fits image t.facts t.accepted in
    let same = same_verdict image wall g.octets fits.short (accepted_inside t.accepted) in
    let limits = within t.facts.kind t.facts.banks t.facts.size fits.supported fits.limit in
    let sized = one_of_le 0x20000 t.facts.size ram_sizes refl fits.sized in
    let area : mount.area_by (mount.mount_of image g.area wall) g.area ≡ zeros (area_of g.cart) =
    ap (λ (x : Result Cartridge MountRefusal). mount.area_by x g.area) g.mounts ∙ ap zeros t.lent in
    let given = cartridge_of image wall t.facts in
    record {
      facts = t.facts;
      accepted = t.accepted;
      is = taken_by image wall same t.accepted;
      same =
          subst (λ (l : List ℕ). Same image (since 0 0) (record { cart = g.cart; area = l }) given) (sym area)
          (subst (λ (x : our.Cartridge). Same image (since 0 0) (record { cart = x; area = zeros (area_of x) }) given) (sym t.is)
          (start_cart image (length image) wall t.facts limits sized));
    }
