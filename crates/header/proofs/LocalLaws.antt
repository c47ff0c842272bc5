-- The verdict looks at the length, at the bytes up to 0x14D, and on an MBC1 image of 0x100000 bytes at three more logos: two
-- images that agree there get the same verdict.
use Rattle.std.specs.Prelude.{Option}
use mathlib.Core.Bool.{Bool, true, false}
use mathlib.Core.List.{List, [], ◌∷◌}
use mathlib.Core.Path.{◌≡◌, refl, sym, ap, ap₂, ◌∙◌}
use Prim.Native.Nat.{ℕ, zero, suc, ◌+◌, ◌-◌, ◌/◌, ◌%◌, ◌<◌, ◌≤◌, min}
use native.Mathlib.Omega.{arith}
use lib.Dec.{eqb}
use lib.ListN.{get_or, length, take, drop, length-take, length-drop}
use lib.Seq.{ext_get_or, get_or-take, get_or-drop}
use borrow.Author.Tests.{eqb-true}
use Rattle.facts.specs.Choice.{both}
use Rattle.image.specs.Image.{byte_at, padded_length, logo, stands_at, logo_at, is_multicart, sum_from, checksum_of, up_to_zero, title_of, is_colour}
use Rattle.types.specs.Types.{type_of}
use Rattle.types.specs.declared.Kind.{Kind}
use Rattle.types.specs.declared.Kind.TheVariants.{NoMapper, Mbc1, Mbc2, Mbc3, Mbc5, Mmm01, Mbc6, Mbc7}
use Rattle.types.specs.declared.TypeRow.{TypeRow}
use Rattle.header.specs.Accepted.{Agree}
use Rattle.header.specs.Check.{row_of, found_of, multicart_of, noes, facts_of, check_of}

module _ (s t : List ℕ) (a : Agree s t) where
  stands : (l : List ℕ) (p : ℕ) → p + length l ≤ 0x14E → stands_at l s p ≡ stands_at l t p
  unfolding stands_at
  stands [] p h = refl
  stands (x ∷ l) p h =
      ap₂ (λ (b : ℕ) (r : Bool). both (eqb b x) r) (a.header p (omega arith)) (stands l (suc p) (omega arith))

  same_logo : logo_at s 0x104 ≡ logo_at t 0x104
  unfolding logo_at logo
  same_logo = stands logo 0x104 (omega arith)

  sums : (n : ℕ) → n ≤ 25 → sum_from s 0x134 n ≡ sum_from t 0x134 n
  unfolding sum_from
  sums zero h = refl
  sums (suc n) h = ap₂ (λ (x y : ℕ). x + y) (sums n (omega arith)) (a.header (0x134 + n) (omega arith))

  same_checksum : checksum_of s ≡ checksum_of t
  unfolding checksum_of
  same_checksum = ap (λ (x : ℕ). (256 - (x + 25) % 256) % 256) (sums 25 (omega arith))

  part_length : (u : List ℕ) → length (take 15 (drop 0x134 u)) ≡ min 15 (length u - 0x134)
  part_length u = length-take 15 (drop 0x134 u) ∙ ap (min 15) (length-drop 0x134 u)

  part_byte : (u : List ℕ) (i : ℕ) → i < 15 → get_or (take 15 (drop 0x134 u)) i 0 ≡ byte_at u (0x134 + i)
  part_byte u i h = get_or-take 15 (drop 0x134 u) i 0 h ∙ get_or-drop 0x134 u i 0

  same_part : take 15 (drop 0x134 s) ≡ take 15 (drop 0x134 t)
  same_part =
      ext_get_or 0 (take 15 (drop 0x134 s)) (take 15 (drop 0x134 t))
      (part_length s ∙ ap (λ (n : ℕ). min 15 (n - 0x134)) a.long ∙ sym (part_length t))
      (λ i h.
      let l : i < 15 = omega (arith, part_length s) in
      part_byte s i l ∙ a.header (0x134 + i) (omega arith) ∙ sym (part_byte t i l))

  same_title : title_of s ≡ title_of t
  unfolding title_of
  same_title = ap up_to_zero same_part

  same_found : found_of s ≡ found_of t
  same_found = ap type_of (a.header 0x147 (omega arith))

  same_colour : is_colour s ≡ is_colour t
  unfolding is_colour
  same_colour = ap (λ (x : ℕ). eqb (x / 128 % 2) 1) (a.header 0x143 (omega arith))

  four_logos : (b : Bool) → eqb (padded_length (length s)) 0x100000 ≡ b → (row_of (found_of s)).1 ≡ Mbc1 → is_multicart s ≡ is_multicart t
  unfolding is_multicart
  four_logos true e k =
      let q = a.quarters k (eqb-true _ _ e) in
      rw (same_logo, q.second, q.third, q.fourth, a.long)
  four_logos false e k = rw (e, rw a.long at e)

  multicart_by : (k : Kind) → (row_of (found_of s)).1 ≡ k → multicart_of s k ≡ multicart_of t k
  multicart_by NoMapper e = refl
  multicart_by Mbc1 e = four_logos (eqb (padded_length (length s)) 0x100000) refl e
  multicart_by Mbc2 e = refl
  multicart_by (Mbc3 x) e = refl
  multicart_by (Mbc5 x) e = refl
  multicart_by Mmm01 e = refl
  multicart_by Mbc6 e = refl
  multicart_by Mbc7 e = refl

  pub same_verdict : check_of s ≡ check_of t
  unfolding check_of noes facts_of
  same_verdict =
      let m = multicart_by (row_of (found_of t)).1 (ap (λ (f : Option TypeRow). (row_of f).1) same_found) in
      rw (
        same_found,
        same_logo,
        same_title,
        same_checksum,
        same_colour,
        m,
        a.long,
        a.header 0x148 (omega arith),
        a.header 0x149 (omega arith),
        a.header 0x14D (omega arith),
      )
