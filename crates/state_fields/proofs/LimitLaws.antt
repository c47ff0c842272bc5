-- One mask tests fields that stand side by side: their number has none of its bits exactly where each field is within its limit.
use mathlib.Core.Bool.{Bool, true, false}
use mathlib.Core.List.{List, [], ◌∷◌}
use mathlib.Core.Path.{◌≡◌, refl, sym, ap, ◌∙◌}
use Prim.Native.Nat.{ℕ, ◌+◌, ◌*◌, ◌-◌, ◌/◌, ◌%◌, ◌^◌, ◌<◌, ◌≤◌}
use native.Mathlib.Nat.{add_comm, mul_comm, mul-suc, zero-mul, zero-add, add-zero}
use native.Mathlib.Omega.{arith}
use lib.Bits.{bit_and, and_zero_r, and_block, and_high}
use lib.Dec.{eqb, ltb, leb}
use lib.ListN.{length, get_or}
use lib.Pow.{pow_pos, pow_mono, pow-sub-lt, suc_ones, shr_lt, shr_mono, shl-shr, shr_mod}
use borrow.Author.Tests.{eqb-true, eqb-false, eq-eqb, ne_eqb, ltb-true, ltb-false, lt-ltb, le-ltb, leb-true, leb-false}
use Rattle.facts.specs.Choice.{both}
use Rattle.facts.proofs.ChoiceLaws.{both_one}
use Rattle.bytes_le.specs.Little.{field_at, Octets}
use Rattle.bytes_le.proofs.Laws.{room, read_joined}
use Rattle.bytes_le.proofs.FieldLaws.{field_lt}
use Rattle.bytes_le.proofs.OctetLaws.{octets_all}
use Rattle.clock_registers.specs.Fit.{fit_registers}
use Rattle.state_fields.specs.Fields.{are_flags}
use Rattle.state_fields.specs.ClockFields.{register_flags, registers_in}
use Rattle.state_fields.specs.Limits.{Part, any, bits, span, within, mask_of}

-- what stands behind the masks of the registers of a clock: halt and carry, and the numbers before them
abbrev pub flag_parts : List Part
flag_parts = any 5 ∷ bits 1 1 ∷ bits 1 1 ∷ any 1 ∷ []

abbrev pub register_parts : List Part
register_parts = bits 1 6 ∷ bits 1 6 ∷ bits 1 5 ∷ bits 2 9 ∷ any 3 ∷ []

-- ---- one number, one mask

sum_zero : (x y k : ℕ) → eqb (x * 2 ^ k + y) 0 ≡ both (eqb y 0) (eqb x 0)
sum_zero x y k = go (eqb y 0) (eqb x 0) refl refl
  where
    grows : x * 2 ^ k ≡ x * (2 ^ k - 1) + x
    grows = ap (λ (i : ℕ). x * i) (sym (suc_ones k)) ∙ mul-suc x (2 ^ k - 1)

    go : (b d : Bool) → eqb y 0 ≡ b → eqb x 0 ≡ d → eqb (x * 2 ^ k + y) 0 ≡ both b d
    go true true e f =
        let z : x * 2 ^ k ≡ 0 = ap (λ (i : ℕ). i * 2 ^ k) (eqb-true x 0 f) ∙ zero-mul (2 ^ k) in
        eq-eqb (x * 2 ^ k + y) 0 (omega (arith, z, eqb-true y 0 e))
    go true false e f = ne_eqb (x * 2 ^ k + y) 0 (λ q. eqb-false x 0 f (omega (arith, q, grows)))
    go false d e f = ne_eqb (x * 2 ^ k + y) 0 (λ q. eqb-false y 0 e (omega (arith, q)))

shifted_zero : (x k : ℕ) → eqb (x * 2 ^ k) 0 ≡ eqb x 0
shifted_zero x k = ap (λ (i : ℕ). eqb i 0) (sym (add-zero (x * 2 ^ k))) ∙ sum_zero x 0 k

no_high : (n k : ℕ) → eqb (n / 2 ^ k) 0 ≡ ltb n (2 ^ k)
no_high n k = go (ltb n (2 ^ k)) refl
  where
    go : (b : Bool) → ltb n (2 ^ k) ≡ b → eqb (n / 2 ^ k) 0 ≡ b
    go true e =
        let p : 2 ^ (0 + k) ≡ 2 ^ k = ap (λ (i : ℕ). 2 ^ i) (zero-add k) in
        eq-eqb (n / 2 ^ k) 0 (omega (arith, shr_lt {n = n} 0 k (omega (arith, p, ltb-true n (2 ^ k) e))))
    go false e =
        let one : 1 * 2 ^ k ≤ n = omega (arith, ltb-false n (2 ^ k) e) in
        ne_eqb (n / 2 ^ k) 0 (λ q. absurd (omega (arith, q, shr_mono k one, shl-shr 1 k)))

high_clear : (n w k : ℕ) → n < 2 ^ w → eqb (bit_and n (2 ^ w - 2 ^ k)) 0 ≡ ltb n (2 ^ k)
high_clear n w k h = go (leb k w) refl
  where
    go : (b : Bool) → leb k w ≡ b → eqb (bit_and n (2 ^ w - 2 ^ k)) 0 ≡ ltb n (2 ^ k)
    go true e =
        let l = leb-true k w e in
        let p : w - k + k ≡ w = omega (arith, l) in
        let q : 2 ^ (w - k + k) ≡ 2 ^ w = ap (λ (i : ℕ). 2 ^ i) p in
        ap (λ (i : ℕ). eqb (bit_and n (i - 2 ^ k)) 0) (sym q)
        ∙ ap (λ (i : ℕ). eqb i 0) (and_high n (w - k) k)
        ∙ shifted_zero (n / 2 ^ k % 2 ^ (w - k)) k
        ∙ ap (λ (i : ℕ). eqb i 0) (shr_mod (w - k) k (omega (arith, h, q)))
        ∙ no_high n k
    go false e =
        let l = leb-false k w e in
        let m : 2 ^ w ≤ 2 ^ k = pow_mono (omega (arith, l)) in
        let z : 2 ^ w - 2 ^ k ≡ 0 = omega (arith, m) in
        ap (λ (i : ℕ). eqb (bit_and n i) 0) z
        ∙ ap (λ (i : ℕ). eqb i 0) (and_zero_r n)
        ∙ sym (lt-ltb n (2 ^ k) (omega (arith, h, m)))

-- ---- fields side by side

module _ (s : List ℕ) (o : Octets s) where
  -- a field and those behind it
  joined : (n m : ℕ) (ps : List Part) (at : ℕ) → m < room n → at + n ≤ length s
      → eqb (bit_and (field_at (n + span ps) s at) (mask_of ps * 2 ^ (n * 8) + m)) 0
      ≡ both (eqb (bit_and (field_at n s at) m) 0) (eqb (bit_and (field_at (span ps) s (at + n)) (mask_of ps)) 0)
  joined n m ps at h l =
      let v = field_at n s at in
      let r = field_at (span ps) s (at + n) in
      let e : field_at (n + span ps) s at ≡ r * 2 ^ (n * 8) + v =
      sym (read_joined n (span ps) s at l refl refl) ∙ add_comm v (room n * r) ∙ ap (λ (i : ℕ). i + v) (mul_comm (room n) r) in
      ap (λ (i : ℕ). eqb (bit_and i (mask_of ps * 2 ^ (n * 8) + m)) 0) e
      ∙ ap (λ (i : ℕ). eqb i 0) (and_block (n * 8) r (mask_of ps) v m (field_lt n s at o) h)
      ∙ sum_zero (bit_and r (mask_of ps)) (bit_and v m) (n * 8)

  pub clear_within : (ps : List Part) (at : ℕ) → at + span ps ≤ length s
      → eqb (bit_and (field_at (span ps) s at) (mask_of ps)) 0 ≡ within s at ps
  unfolding span within mask_of
  clear_within [] at l = ap (λ (i : ℕ). eqb i 0) (and_zero_r (field_at 0 s at))
  clear_within (any n ∷ ps) at l =
      ap (λ (i : ℕ). eqb (bit_and (field_at (n + span ps) s at) i) 0) (sym (add-zero (mask_of ps * 2 ^ (n * 8))))
      ∙ joined n 0 ps at (pow_pos (n * 8)) (omega (arith, l))
      ∙ ap (λ (i : ℕ). both (eqb i 0) (eqb (bit_and (field_at (span ps) s (at + n)) (mask_of ps)) 0)) (and_zero_r (field_at n s at))
      ∙ clear_within ps (at + n) (omega (arith, l))
  clear_within (bits n k ∷ ps) at l =
      joined n (2 ^ (n * 8) - 2 ^ k) ps at (pow-sub-lt (n * 8) (pow_pos k)) (omega (arith, l))
      ∙ ap (λ (b : Bool). both b (eqb (bit_and (field_at (span ps) s (at + n)) (mask_of ps)) 0))
      (high_clear (field_at n s at) (n * 8) k (field_lt n s at o))
      ∙ ap (both (ltb (field_at n s at) (2 ^ k))) (clear_within ps (at + n) (omega (arith, l)))

-- a word's test by a mask
pub word_within : (s : List ℕ) (at : ℕ) {x mask : ℕ} {r : Bool} → ((i : ℕ) → get_or s i 0 < 256) → at + 8 ≤ length s
    → x ≡ field_at 8 s at
    → r ≡ eqb (bit_and x mask) 0
    → (ps : List Part) → span ps ≡ 8 → mask_of ps ≡ mask → r ≡ within s at ps
word_within s at {x} {mask} h l p q ps n m =
    q
    ∙ ap (λ (i : ℕ). eqb (bit_and i mask) 0) (p ∙ ap (λ (k : ℕ). field_at k s at) (sym n))
    ∙ ap (λ (i : ℕ). eqb (bit_and (field_at (span ps) s at) i) 0) (sym m)
    ∙ clear_within s (octets_all s h) ps at (omega (arith, n, l))

-- ---- the registers of a clock

flag_bit : (x : ℕ) → ltb x 2 ≡ leb x 1
flag_bit x = go (leb x 1) refl
  where
    go : (b : Bool) → leb x 1 ≡ b → ltb x 2 ≡ b
    go true e = let l = leb-true x 1 e in lt-ltb x 2 (omega (arith, l))
    go false e = let l = leb-false x 1 e in le-ltb x 2 (omega (arith, l))

pub register_flags_lem : (s : List ℕ) (at : ℕ) → within s at flag_parts ≡ are_flags s (register_flags at)
unfolding within are_flags
register_flags_lem s at =
    let p : at + 5 + 1 ≡ at + 6 = omega arith in
    rw (p, flag_bit (field_at 1 s (at + 5)), flag_bit (field_at 1 s (at + 6)))

pub registers_within : (s : List ℕ) (at : ℕ) → within s at register_parts ≡ fit_registers (registers_in s at)
unfolding within fit_registers
registers_within s at =
    let p : at + 1 + 1 ≡ at + 2 = omega arith in
    let q : at + 2 + 1 ≡ at + 3 = omega arith in
    rw (p, q, both_one (ltb (field_at 2 s (at + 3)) 512))
