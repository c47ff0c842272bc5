-- An advance by the mapper, and the area of an MBC2.
use Rattle.std.specs.Prelude.{Ok, Err, Result}
use mathlib.Core.Bool.{Bool, true, false, not}
use mathlib.Core.List.{[], ◌∷◌}
use mathlib.Core.Path.{◌≡◌, refl, sym, ap, ◌∙◌}
use Prim.Native.Nat.{ℕ, ◌+◌, ◌-◌, ◌<◌, ◌≤◌}
use native.Mathlib.Omega.{arith}
use lib.Dec.{eqb}
use borrow.Author.Tests.{ne_eqb, lt-ltb, le-ltb}
use Rattle.facts.specs.Choice.{pick, both}
use Rattle.facts.specs.Refusals.{no, first_no}
use Rattle.facts.proofs.ChoiceLaws.{eqb_iff}
use Rattle.facts.proofs.RefusalLaws.{first_map}
use Rattle.clock.specs.declared.AdvanceRefusal.TheVariants.{Unfit, Late}
use Rattle.clock.specs.declared.AdvanceRefusal.{AdvanceRefusal}
use Rattle.types.specs.Types.{beyond_of}
use Rattle.types.specs.declared.Kind.{Kind}
use Rattle.mbc3.specs.Registers as mbc3
use Rattle.timer.specs.Advance as timer
use Rattle.mbc3.specs.declared.Mbc3 as declared
use Rattle.mapper.specs.Mappers.{kind_of, multicart_banks, holds, fit_registers, area_of, bank0, bank_x, bank_at, late, clocks_on, advance_of, from_timer}
use Rattle.mapper.specs.declared.Mapper.{Mapper}
use Rattle.mapper.specs.declared.Mapper.TheVariants.{NoMapper, Mbc1, Mbc2, Mbc3, Mbc5}

-- where no clock moves, the answer is whether the registers are fit
still_answer : (m : Mapper) (n : ℕ) {f : Bool} → f ≡ fit_registers m → late m n ≡ false → clocks_on m n ≡ m
    → pick f (Ok m) (Err Unfit) ≡ advance_of m n
unfolding advance_of
still_answer m n {f} e l s =
    go f (late m n) l ∙ ap (λ (t : Bool). first_no Err (no (not t) Unfit ∷ no (late m n) Late ∷ []) (Ok m)) e
    ∙ ap (λ (x : Mapper). first_no Err (no (not (fit_registers m)) Unfit ∷ no (late m n) Late ∷ []) (Ok x)) (sym s)
  where
    go : (t u : Bool) → u ≡ false → pick t (Ok m) (Err Unfit) ≡ first_no Err (no (not t) Unfit ∷ no u Late ∷ []) (Ok m)
    go true u q = ap (λ (w : Bool). pick w (Err Late) (Ok m)) (sym q)
    go false u q = refl

-- the same of a mapper known to be k
pub still_by : (m : Mapper) (n : ℕ) {k : Mapper} {f : Bool} {r : Result Mapper AdvanceRefusal} → m ≡ k → late k n ≡ false → clocks_on k n ≡ k
    → f ≡ fit_registers k → r ≡ pick f (Ok k) (Err Unfit) → r ≡ advance_of m n
still_by m n {k} p l s e q = q ∙ still_answer k n e l s ∙ ap (λ (x : Mapper). advance_of x n) (sym p)

pub timed_answer : (m : declared.Mbc3) (n : ℕ) → from_timer (timer.advance_of m n) ≡ advance_of (Mbc3 m) n
unfolding advance_of timer.advance_of
timed_answer m n =
    first_map from_timer Err (no (not (mbc3.fit_registers m)) Unfit ∷ no (timer.late_of m n) Late ∷ [])
    (Ok (timer.clocks_on m n))

pub holds_tested : (m : Mapper) (banks size : ℕ) {t b u : Bool} {k : Kind} → k ≡ kind_of m → b ≡ beyond_of k banks size
    → u ≡ multicart_banks m banks → t ≡ both (not b) u → t ≡ holds m banks size
unfolding holds
holds_tested m banks size {u = u} p q r s =
    s ∙ ap (λ (x : Bool). both (not x) u) (q ∙ ap (λ (x : Kind). beyond_of x banks size) p)
    ∙ ap (both (not (beyond_of (kind_of m) banks size))) r

pub low_bank : (m : Mapper) (addr : ℕ) {r : ℕ} → addr < 0x4000 → r ≡ bank0 m → r ≡ bank_at m addr
unfolding bank_at
low_bank m addr h e = e ∙ ap (λ (t : Bool). pick t (bank0 m) (bank_x m)) (sym (lt-ltb addr 0x4000 h))

pub high_bank : (m : Mapper) (addr : ℕ) {r : ℕ} → 0x4000 ≤ addr → r ≡ bank_x m → r ≡ bank_at m addr
unfolding bank_at
high_bank m addr h e = e ∙ ap (λ (t : Bool). pick t (bank0 m) (bank_x m)) (sym (le-ltb addr 0x4000 h))

-- 512 bytes more, tested without a sum
pub no_half_bytes : (len size : ℕ) → len < 512 → false ≡ eqb len (size + 512)
no_half_bytes len size h = sym (ne_eqb len (size + 512) (λ e. omega arith))

pub half_bytes_more : (len size : ℕ) → 512 ≤ len → eqb (len - 512) size ≡ eqb len (size + 512)
half_bytes_more len size h = eqb_iff (len - 512) size len (size + 512) (λ e. omega arith) (λ e. omega arith)

-- ---- the area is at most the half-bytes longer than the header's RAM

pub area_le : (m : Mapper) (size : ℕ) → area_of m size ≤ size + 512
area_le (NoMapper m) size = omega arith
area_le (Mbc1 m) size = omega arith
area_le (Mbc2 m) size = omega arith
area_le (Mbc3 m) size = omega arith
area_le (Mbc5 m) size = omega arith
