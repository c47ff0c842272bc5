-- The ROM size, its mending, and the powers of two.
use mathlib.Core.Bool.{Bool, true, false}
use mathlib.Core.Path.{◌≡◌, refl}
use Prim.Native.Nat.{ℕ, zero, suc, ◌*◌, ◌/◌, ◌%◌, ◌^◌, ◌<◌, ◌≤◌}
use native.Mathlib.Nat.{pow-suc}
use native.Mathlib.Omega.{arith}
use lib.Dec.{eqb, leb}
use lib.Arith.{bin_ind}
use lib.Pow.{pow_pos, shl_exact}
use lib.Count.{ones, count_trailing_zeros, under, ones_step}
use borrow.Author.Tests.{eq-eqb, ne_eqb, lt-ltb, le-ltb, eqb-true, leb-true}
use Rattle.facts.specs.Choice.{both}
use Rattle.facts.proofs.ChoiceLaws.{both_parts}
use Rattle.header.specs.Size.{rom_size, mends, Power, rom_fits, ram_size_of}

-- the shift does not wrap, and is no 0
pub exact : (n : ℕ) → n ≤ 8 → 32768 * 2 ^ n % 4294967296 ≡ rom_size n
exact n h = shl_exact 16 n 32 (omega arith) (omega arith)

pub positive : (n : ℕ) → n ≤ 8 → 0 < 32768 * 2 ^ n % 4294967296
positive n h = omega (arith, exact n h, pow_pos n)

-- the four answers, by the size z
module _ (len n z : ℕ) (e : z ≡ rom_size n) where
  pub fits_equal : z ≡ len → true ≡ rom_fits len n
  unfolding rom_fits
  fits_equal h = rw (← e, eq-eqb z len h)

  pub fits_less : len < z → false ≡ rom_fits len n
  unfolding rom_fits
  fits_less h = rw (← e, ne_eqb z len (λ q. omega arith), le-ltb z len (omega arith))

  pub fits_rest : (z ≡ len → ⊥) → z ≤ len → (len % z ≡ 0 → ⊥) → false ≡ rom_fits len n
  unfolding rom_fits
  fits_rest d l r = rw (← e, ne_eqb z len d, lt-ltb z len (omega (arith, d)), ne_eqb (len % z) 0 r)

  pub fits_mend : {t : Bool} → (z ≡ len → ⊥) → z ≤ len → len % z ≡ 0
      → t ≡ both (eqb (ones (len / z)) 1) (leb (count_trailing_zeros 32 (len / z)) 7) → t ≡ rom_fits len n
  unfolding rom_fits mends
  fits_mend {t} d l r m = rw (← e, ne_eqb z len d, lt-ltb z len (omega (arith, d)), eq-eqb (len % z) 0 r) m

-- ---- a single bit set, with at most seven zeros below it: a power of two at most 128

pub none : (q : ℕ) → ones q ≡ 0 → q ≡ 0
none =
    bin_ind (λ (q : ℕ). ones q ≡ 0 → q ≡ 0) (λ e. refl) (λ n ih e.
    let s : ones (n / 2) ≡ 0 = omega (arith, ones_step n) in
    omega (arith, ih s, ones_step n))

pub one_bit : (d q : ℕ) → q < 2 ^ d → ones q ≡ 1 → q ≡ 2 ^ count_trailing_zeros d q
unfolding count_trailing_zeros ones
one_bit zero zero h e = absurd (omega arith)
one_bit zero (suc q) h e = absurd (omega arith)
one_bit (suc d) q h e = go (q % 2) refl (one_bit d (q / 2) (omega (arith, pow-suc 2 d)))
  where
    go : (r : ℕ) → q % 2 ≡ r → (ones (q / 2) ≡ 1 → q / 2 ≡ 2 ^ count_trailing_zeros d (q / 2)) → q ≡ 2 ^ under r (count_trailing_zeros d (q / 2))
    go zero p ih =
        let i = ih (omega (arith, ones_step q)) in
        omega (arith, pow-suc 2 (count_trailing_zeros d (q / 2)))
    go (suc r) p ih = omega (arith, none (q / 2) (omega (arith, ones_step q)))

pub mends_power : (q : ℕ) → q < 4294967296 → mends q ≡ true → Power q
unfolding mends
mends_power q h e =
    let t = both_parts (eqb (ones q) 1) (leb (count_trailing_zeros 32 q) 7) e in
    record {
      log = count_trailing_zeros 32 q;
      small = leb-true _ _ t.1;
      is = one_bit 32 q h (eqb-true _ _ t.0);
    }

pub power_mends : (k : ℕ) → k ≤ 7 → mends (2 ^ k) ≡ true
unfolding mends ones count_trailing_zeros
power_mends zero h = refl
power_mends (suc zero) h = refl
power_mends (suc (suc zero)) h = refl
power_mends (suc (suc (suc zero))) h = refl
power_mends (suc (suc (suc (suc zero)))) h = refl
power_mends (suc (suc (suc (suc (suc zero))))) h = refl
power_mends (suc (suc (suc (suc (suc (suc zero)))))) h = refl
power_mends (suc (suc (suc (suc (suc (suc (suc zero))))))) h = refl
power_mends (suc (suc (suc (suc (suc (suc (suc (suc k)))))))) h = absurd (omega arith)

-- 8 MiB with the code 0 is refused, with the code 1 taken
quotient_256 : rom_fits 8388608 0 ≡ false
unfolding rom_fits mends ones count_trailing_zeros
quotient_256 = refl

quotient_128 : rom_fits 8388608 1 ≡ true
unfolding rom_fits mends ones count_trailing_zeros
quotient_128 = refl

-- the last RAM code
pub ram_last : (n : ℕ) → n ≤ 5 → (n ≡ 0 → ⊥) → (n ≡ 1 → ⊥) → (n ≡ 2 → ⊥) → (n ≡ 3 → ⊥) → (n ≡ 4 → ⊥) → 0x10000 ≡ ram_size_of n
ram_last zero l a b c d e = absurd (a refl)
ram_last (suc zero) l a b c d e = absurd (b refl)
ram_last (suc (suc zero)) l a b c d e = absurd (c refl)
ram_last (suc (suc (suc zero))) l a b c d e = absurd (d refl)
ram_last (suc (suc (suc (suc zero)))) l a b c d e = absurd (e refl)
ram_last (suc (suc (suc (suc (suc zero))))) l a b c d e = refl
ram_last (suc (suc (suc (suc (suc (suc n)))))) l a b c d e = absurd (omega arith)
