-- The padded image, the checksum's sum, and what a mapper's limits say.
use mathlib.Core.Bool.{Bool, true, false, not}
use mathlib.Core.List.{List, ◌++◌}
use mathlib.Core.Path.{◌≡◌, refl, sym, ap, ◌∙◌}
use Prim.Native.Nat.{ℕ, zero, suc, ◌+◌, ◌-◌, ◌%◌}
use native.Mathlib.Omega.{arith}
use lib.Dec.{eqb, ltb}
use lib.ListN.{get_or, length, replicate, length-append, length-replicate, get_or-append, get_or-eq_default}
use lib.Seq.{get_or-append-add}
use borrow.Author.Tests.{ltb-true, ltb-false, eqb-true}
use Rattle.facts.proofs.ChoiceLaws.{false≢true, not_false, neither}
use Rattle.image.specs.Image.{byte_at, padded_length, sum_from, checksum_of}
use Rattle.types.specs.Types.{supported_of, beyond_of}
use Rattle.types.specs.declared.Kind.{Kind}
use Rattle.types.specs.declared.Kind.TheVariants.{NoMapper, Mbc1, Mbc2, Mbc3, Mbc5, Mmm01, Mbc6, Mbc7}
use Rattle.runs.specs.Padded.{padded}
use Rattle.runs.specs.Limits.{Within}

pub padded_length_lem : (s : List ℕ) → length (padded s) ≡ padded_length (length s)
unfolding padded padded_length
padded_length_lem s = rw (length-append, length-replicate) (omega arith)

zeros : (k j : ℕ) → ◌≡◌ {A = ℕ} (get_or (replicate k 0) j 0) 0
zeros zero j = refl
zeros (suc k) zero = refl
zeros (suc k) (suc j) = zeros k j

pub padded_byte : (s : List ℕ) (i : ℕ) → get_or (padded s) i 0 ≡ byte_at s i
unfolding padded
padded_byte s i = go (ltb i (length s)) refl
  where
    n : ℕ
    n = padded_length (length s) - length s

    go : (b : Bool) → ltb i (length s) ≡ b → get_or (s ++ replicate n 0) i 0 ≡ get_or s i 0
    go true h = get_or-append s (replicate n 0) 0 i (ltb-true i (length s) h)
    go false f =
        let h = ltb-false i (length s) f in
        let e : i ≡ length s + (i - length s) = omega arith in
        ap (λ (j : ℕ). get_or (s ++ replicate n 0) j 0) e ∙ get_or-append-add s (replicate n 0) (i - length s) 0
        ∙ zeros n (i - length s) ∙ sym (get_or-eq_default s 0 h)

pub checksum_whole : (s : List ℕ) → (checksum_of s + (sum_from s 0x134 25 + 25)) % 256 ≡ 0
unfolding checksum_of
checksum_whole s = omega arith

-- the limits, from the tests 10 and 11
pub within : (k : Kind) (banks size : ℕ) → supported_of k ≡ true → beyond_of k banks size ≡ false → Within k banks size
within NoMapper banks size s b =
    let n = neither (not (eqb banks 2)) (ltb 0x2000 size) b in
    (eqb-true banks 2 (not_false _ n.0), ltb-false 0x2000 size n.1)
within Mbc1 banks size s b = ltb-false 128 banks b
within Mbc2 banks size s b = ltb-false 16 banks b
within (Mbc3 timer) banks size s b = ltb-false 256 banks b
within (Mbc5 rumble) banks size s b = ltb-false 512 banks b
within Mmm01 banks size s b = false≢true s
within Mbc6 banks size s b = false≢true s
within Mbc7 banks size s b = false≢true s
