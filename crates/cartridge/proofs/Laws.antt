-- The tests of what was mounted, and what they say.
use mathlib.Core.Bool.{Bool, true, false}
use mathlib.Core.List.{List, [], ◌∷◌}
use mathlib.Core.Path.{◌≡◌, refl, sym, ap}
use Prim.Native.Nat.{ℕ, zero, suc, ◌+◌, ◌-◌, ◌*◌, ◌/◌, ◌<◌, ◌≤◌}
use native.Mathlib.Omega.{arith}
use lib.Dec.{eqb}
use Rattle.facts.specs.Choice.{both, either}
use Rattle.facts.specs.Listed.{one_of}
use Rattle.facts.proofs.ChoiceLaws.{false≢true, both_left, both_right, eqb_iff}
use Rattle.facts.proofs.ListLaws.{one_of_le}
use Rattle.image.specs.Image.{padded_length}
use Rattle.header.specs.Size.{ram_sizes}
use Rattle.mapper.specs.Mappers as mapper
use Rattle.cartridge.specs.Fit.{bank_counts, fit_board, fit_cart}
use Rattle.cartridge.specs.declared.Cartridge.{Cartridge}

-- ---- the padded length, without a sum that could wrap

pub fills_short : (length banks : ℕ) → length ≤ 0x8000 → eqb banks 2 ≡ eqb (padded_length length) (banks * 0x4000)
unfolding padded_length
fills_short length banks h = eqb_iff banks 2 _ (banks * 0x4000) (λ e. omega arith) (λ e. omega arith)

pub fills_long : (length banks : ℕ) → 0x8000 < length
    → eqb ((length - 1) / 0x4000 + 1) banks ≡ eqb (padded_length length) (banks * 0x4000)
unfolding padded_length
fills_long length banks h = eqb_iff ((length - 1) / 0x4000 + 1) banks _ (banks * 0x4000) (λ e. omega arith) (λ e. omega arith)

-- ---- the RAM sizes as a match has them, in ascending order

abbrev pub ascending : List ℕ
ascending = 0 ∷ 0x800 ∷ 0x2000 ∷ 0x8000 ∷ 0x10000 ∷ 0x20000 ∷ []

either_swap : (a b d : Bool) → either a (either b d) ≡ either b (either a d)
either_swap true true d = refl
either_swap true false d = refl
either_swap false b d = refl

pub same_sizes : (n : ℕ) → one_of n ascending ≡ one_of n ram_sizes
same_sizes n =
    ap (λ (t : Bool). either (eqb n 0) (either (eqb n 0x800) (either (eqb n 0x2000) (either (eqb n 0x8000) t))))
    (either_swap (eqb n 0x10000) (eqb n 0x20000) false)

-- ---- the parts of fitness

pub board_tested : (c : Cartridge) {t u v x y z w : Bool} → x ≡ one_of c.banks bank_counts
    → y ≡ eqb (padded_length c.length) (c.banks * 0x4000) → z ≡ one_of c.size ram_sizes
    → w ≡ mapper.holds c.mapper c.banks c.size → u ≡ both x y → v ≡ both z w → t ≡ both u v → t ≡ fit_board c
unfolding fit_board
board_tested c p q r s a b e = rw (sym p, sym q, sym r, sym s, sym a, sym b) e

pub fit_tested : (c : Cartridge) {t u v : Bool} → u ≡ fit_board c → v ≡ mapper.fit_registers c.mapper → t ≡ both u v
    → t ≡ fit_cart c
unfolding fit_cart
fit_tested c p q e = rw (sym p, sym q) e

pub fit_registers_lem : (c : Cartridge) → fit_cart c ≡ true → mapper.fit_registers c.mapper ≡ true
unfolding fit_cart
fit_registers_lem c e = both_right (fit_board c) _ e

pub fit_board_lem : (c : Cartridge) → fit_cart c ≡ true → fit_board c ≡ true
unfolding fit_cart
fit_board_lem c e = both_left (fit_board c) _ e

counts_pos : (n : ℕ) → one_of n bank_counts ≡ true → 0 < n
counts_pos zero e = false≢true e
counts_pos (suc n) e = omega arith

pub fit_banks : (c : Cartridge) → fit_cart c ≡ true → 0 < c.banks
unfolding fit_board
fit_banks c e = counts_pos c.banks (both_left (one_of c.banks bank_counts) _ (both_left _ _ (fit_board_lem c e)))

pub fit_padded : (c : Cartridge) → fit_cart c ≡ true → eqb (padded_length c.length) (c.banks * 0x4000) ≡ true
unfolding fit_board
fit_padded c e = both_right (one_of c.banks bank_counts) _ (both_left _ _ (fit_board_lem c e))

pub fit_size : (c : Cartridge) → fit_cart c ≡ true → c.size ≤ 0x20000
unfolding fit_board
fit_size c e =
    one_of_le 0x20000 c.size ram_sizes refl
    (both_left (one_of c.size ram_sizes) (mapper.holds c.mapper c.banks c.size)
    (both_right (both (one_of c.banks bank_counts) (eqb (padded_length c.length) (c.banks * 0x4000))) _ (fit_board_lem c e)))

pub fit_count : (c : Cartridge) → fit_cart c ≡ true → c.banks ≤ 512
unfolding fit_board
fit_count c e = one_of_le 512 c.banks bank_counts refl (both_left (one_of c.banks bank_counts) _ (both_left _ _ (fit_board_lem c e)))
