-- The verdict taken apart: what was refused and by which test, and what an accepted image is.
use Rattle.std.specs.Prelude.{Ok, Err}
use mathlib.Core.Bool.{true, false}
use mathlib.Core.List.{List}
use mathlib.Core.Logic.{◌⊎◌, inl, inr}
use mathlib.Core.Path.{◌≡◌, refl, sym, ap, ◌∙◌}
use Prim.Native.Nat.{ℕ, zero, suc, ◌+◌, ◌*◌, ◌/◌, ◌%◌, ◌^◌, ◌<◌, ◌≤◌}
use native.Mathlib.Nat.{mul_left_comm, div-add-mod', div-le_self}
use native.Mathlib.Omega.{arith}
use lib.Dec.{eqb, ltb}
use lib.ListN.{length}
use lib.Pow.{pow-add}
use borrow.Author.Tests.{eqb-true, ltb-false}
use Rattle.facts.specs.Choice.{both}
use Rattle.facts.specs.Refusals.{no, any_no, First}
use Rattle.facts.specs.Listed.{one_of}
use Rattle.facts.proofs.ChoiceLaws.{false≢true, both_parts, both_left, not_false, either_cases}
use Rattle.facts.proofs.RefusalLaws.{none_or_first, first_answers, none_accepts, none_at}
use Rattle.image.specs.Image.{byte_at, padded_length, is_multicart}
use Rattle.image.proofs.ImageLaws.{padded_le}
use Rattle.types.specs.declared.Kind.{Kind}
use Rattle.types.specs.declared.Kind.TheVariants.{NoMapper, Mbc1, Mbc2, Mbc3, Mbc5, Mmm01, Mbc6, Mbc7}
use Rattle.header.specs.Size.{rom_size, mends, rom_fits, ram_sizes, ram_size_of}
use Rattle.header.specs.Check.{row_of, found_of, rom_length, multicart_of, noes, facts_of, check_of}
use Rattle.header.specs.Accepted.{tests_of, Fitting}
use Rattle.header.specs.declared.HeaderRefusal.TheVariants.{TooLong}
use Rattle.header.specs.declared.Facts.{Facts}
use Rattle.header.proofs.SizeLaws.{mends_power}

-- ---- a refusal is the first test's that holds, and an accepted image has none

refused_by : (s : List ℕ) (f : First (tests_of s)) → check_of s ≡ Err f.test.why
unfolding check_of
refused_by s f = first_answers Err (Ok (facts_of s (row_of (found_of s)))) (tests_of s) f

accepted_if : (s : List ℕ) → any_no (tests_of s) ≡ false → check_of s ≡ Ok (facts_of s (row_of (found_of s)))
unfolding check_of
accepted_if s n = none_accepts Err (Ok (facts_of s (row_of (found_of s)))) (tests_of s) n

pub accepted_only : (s : List ℕ) (d : Facts) → check_of s ≡ Ok d
    → (any_no (tests_of s) ≡ false) × (d ≡ facts_of s (row_of (found_of s)))
accepted_only s d e = go (none_or_first (tests_of s))
  where
    go : (any_no (tests_of s) ≡ false) ⊎ First (tests_of s)
        → (any_no (tests_of s) ≡ false) × (d ≡ facts_of s (row_of (found_of s)))
    go (inl n) = let a = accepted_if s n in (n, cc)
    go (inr f) = let r = refused_by s f in let z : ◌≡◌ {A = ℕ} 0 1 = cc in absurd (omega arith)

-- ---- what an accepted image is

-- a length that the ROM code fits is a power of two of 32 KiB
pub record Units (n : ℕ) : Type 0 where
  pub log : ℕ
  pub is : n ≡ 0x8000 * 2 ^ log

fits_units : (n c : ℕ) → n < 4294967296 → rom_fits n c ≡ true → Units n
unfolding rom_fits
fits_units n c h e = go (either_cases (eqb (rom_size c) n) _ e)
  where
    mended : both (ltb (rom_size c) n) (both (eqb (n % rom_size c) 0) (mends (n / rom_size c))) ≡ true → Units n
    mended f =
        let a = both_parts (ltb (rom_size c) n) _ f in
        let b = both_parts (eqb (n % rom_size c) 0) (mends (n / rom_size c)) a.1 in
        let r : n % rom_size c ≡ 0 = eqb-true _ _ b.0 in
        let l : n / rom_size c ≤ n = div-le_self n (rom_size c) in
        let p = mends_power (n / rom_size c) (omega arith) b.1 in
        let d : n / rom_size c * rom_size c ≡ n = omega (arith, div-add-mod' n (rom_size c), r) in
        record {
          log = p.log + c;
          is =
              sym d ∙ ap (λ (x : ℕ). x * (0x8000 * 2 ^ c)) p.is ∙ mul_left_comm (2 ^ p.log) 0x8000 (2 ^ c)
              ∙ ap (λ (x : ℕ). 0x8000 * x) (sym (pow-add 2 p.log c));
        }

    go : (eqb (rom_size c) n ≡ true) ⊎ (both (ltb (rom_size c) n) (both (eqb (n % rom_size c) 0) (mends (n / rom_size c))) ≡ true)
        → Units n
    go (inl f) = record { log = c; is = sym (eqb-true (rom_size c) n f) }
    go (inr f) = mended f

size_listed : (n : ℕ) → one_of (ram_size_of n) ram_sizes ≡ true
size_listed zero = refl
size_listed (suc zero) = refl
size_listed (suc (suc zero)) = refl
size_listed (suc (suc (suc zero))) = refl
size_listed (suc (suc (suc (suc zero)))) = refl
size_listed (suc (suc (suc (suc (suc zero))))) = refl
size_listed (suc (suc (suc (suc (suc (suc n)))))) = refl

multi_length : (s : List ℕ) (k : Kind) → multicart_of s k ≡ true → padded_length (length s) ≡ 0x100000
unfolding is_multicart
multi_length s NoMapper e = false≢true e
multi_length s Mbc1 e = eqb-true _ _ (both_left (eqb (padded_length (length s)) 0x100000) _ e)
multi_length s Mbc2 e = false≢true e
multi_length s (Mbc3 t) e = false≢true e
multi_length s (Mbc5 r) e = false≢true e
multi_length s Mmm01 e = false≢true e
multi_length s Mbc6 e = false≢true e
multi_length s Mbc7 e = false≢true e

facts_fit : (s : List ℕ) → any_no (tests_of s) ≡ false → Fitting s (facts_of s (row_of (found_of s)))
unfolding noes facts_of
facts_fit s n =
    let none = no false TooLong in
    let short : length s ≤ 8388608 = ltb-false _ _ (none_at (tests_of s) 0 none refl n) in
    let room : rom_length s ≤ 8388608 = padded_le (length s) short in
    let fits : rom_fits (rom_length s) (byte_at s 0x148) ≡ true = not_false _ (none_at (tests_of s) 5 none refl n) in
    let u = fits_units (rom_length s) (byte_at s 0x148) (omega arith) fits in
    record {
      short = short;
      padded = omega (arith, u.is);
      log = u.log;
      power = omega (arith, u.is);
      supported = not_false _ (none_at (tests_of s) 9 none refl n);
      limit = none_at (tests_of s) 10 none refl n;
      sized = size_listed (byte_at s 0x149);
      multi = λ m. let l = multi_length s (row_of (found_of s)).1 m in omega arith;
    }

pub accepted_fits : (s : List ℕ) (d : Facts) → check_of s ≡ Ok d → Fitting s d
accepted_fits s d e = let a = accepted_only s d e in rw a.1 (facts_fit s a.0)
