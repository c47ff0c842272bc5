-- The laws of a counter with a stop, once for every counter: steps join, and their closed form.
use mathlib.Core.Bool.{Bool, true, false}
use mathlib.Core.Path.{◌≡◌, refl, sym, ap, ◌∙◌}
use mathlib.Core.Logic.{◌⊎◌, inl, inr}
use Prim.Native.Nat.{ℕ, zero, suc, ◌+◌, ◌-◌, ◌*◌, ◌/◌, ◌%◌, ◌<◌, ◌≤◌}
use native.Mathlib.Nat.{
  add-zero,
  zero-add,
  add-suc,
  add_assoc,
  suc-mul,
  mod-eq_of_lt,
  mod_self,
  mod-lt,
  eq-or-lt_of_le,
  div-eq_of_lt,
  add-mod_right,
  add-div_right,
}
use native.Mathlib.Numerals.{add-one}
use native.Mathlib.Omega.{arith}
use lib.Arith.{digits_div, digits_mod}
use borrow.Author.Tests.{eq-eqb, ne_eqb}
use Rattle.facts.specs.Choice.{pick, both, bit}
use Rattle.facts.specs.Counter.{Counter, cyclic, plain, carries, step, step_if, steps, count, Ran}

-- ---- any counter

module _ (c : Counter) where
  pub steps_suc : (n v : ℕ) → steps c (suc n) v ≡ step c (steps c n v)
  unfolding steps
  steps_suc n v = refl

  pub count_suc : (n v : ℕ) → count c (suc n) v ≡ count c n v + bit (carries c (steps c n v))
  unfolding count
  count_suc n v = refl

  -- steps join, and so do their carries
  pub steps_add : (a b v : ℕ) → steps c (a + b) v ≡ steps c b (steps c a v)
  unfolding steps
  steps_add a zero v = rw add-zero
  steps_add a (suc b) v = rw add-suc (ap (step c) (steps_add a b v))

  pub count_add : (a b v : ℕ) → count c (a + b) v ≡ count c a v + count c b (steps c a v)
  unfolding count
  count_add a zero v = simp add-zero
  count_add a (suc b) v = rw (add-suc, count_add a b v, steps_add a b v) (add_assoc _ _ _)

  -- a step more, if the place before carried
  pub steps_bit : (k v : ℕ) (b : Bool) → steps c (k + bit b) v ≡ step_if c b (steps c k v)
  unfolding steps step_if
  steps_bit k v true = rw add-one
  steps_bit k v false = rw add-zero

  pub count_bit : (k v : ℕ) (b : Bool) → count c (k + bit b) v ≡ count c k v + bit (both b (carries c (steps c k v)))
  unfolding count
  count_bit k v true = rw add-one
  count_bit k v false = simp add-zero

  -- the next value is not the stop, or it is
  pub step_misses : (v : ℕ) {n : ℕ} → c.next v ≡ n → (n ≡ c.stop → ⊥) → (carries c v ≡ false) × (step c v ≡ n)
  unfolding step carries
  step_misses v {n} e d = (rw (e, ne_eqb n c.stop d), rw (e, ne_eqb n c.stop d))

  pub step_meets : (v : ℕ) → c.next v ≡ c.stop → (carries c v ≡ true) × (step c v ≡ 0)
  unfolding step carries
  step_meets v e = (rw (e, eq-eqb c.stop c.stop refl), rw (e, eq-eqb c.stop c.stop refl))

  -- steps stay below a bound that no next value reaches
  pub steps_lt : (w n v : ℕ) → ((u : ℕ) → u < w → c.next u < w) → v < w → steps c n v < w
  unfolding steps step
  steps_lt w zero v room h = h
  steps_lt w (suc n) v room h = go (carries c (steps c n v)) (steps_lt w n v room h)
    where
      go : (b : Bool) → steps c n v < w → pick b 0 (c.next (steps c n v)) < w
      go true l = omega arith
      go false l = room (steps c n v) l

-- ---- below the stop: the value and the carries are the digits of v + n

module _ (c : Counter) (pos : 0 < c.stop) (grows : (v : ℕ) → v < c.stop → c.next v ≡ suc v) where
  low_step : (x k t : ℕ) → x < c.stop → k * c.stop + x ≡ t
      → (step c x < c.stop) × ((k + bit (carries c x)) * c.stop + step c x ≡ suc t)
  low_step x k t h e = go (eq-or-lt_of_le h)
    where
      go : (suc x ≡ c.stop) ⊎ (suc x < c.stop)
          → (step c x < c.stop) × ((k + bit (carries c x)) * c.stop + step c x ≡ suc t)
      go (inl q) =
          let m = step_meets c x (grows x h ∙ q) in
          rw (m.0, m.1, add-one, suc-mul) (pos, omega arith)
      go (inr l) =
          let m = step_misses c x (grows x h) (λ q. omega arith) in
          rw (m.0, m.1, add-zero) (l, omega arith)

  pub low_digits : (n v : ℕ) → v < c.stop → (steps c n v < c.stop) × (count c n v * c.stop + steps c n v ≡ v + n)
  unfolding steps count
  low_digits zero v h = (h, omega arith)
  low_digits (suc n) v h =
      let ih = low_digits n v h in
      rw add-suc (low_step (steps c n v) (count c n v) (v + n) ih.0 ih.1)

  pub low_steps : (n v : ℕ) → v < c.stop → steps c n v ≡ (v + n) % c.stop
  low_steps n v h = let d = low_digits n v h in rw (← d.1) (sym (digits_mod (count c n v) d.0))

  pub low_count : (n v : ℕ) → v < c.stop → count c n v ≡ (v + n) / c.stop
  low_count n v h = let d = low_digits n v h in rw (← d.1) (sym (digits_div (count c n v) d.0))

  pub low_ran : {n v x k : ℕ} → v < c.stop → x ≡ (v + n) % c.stop → k ≡ (v + n) / c.stop → Ran c n v x k
  low_ran {n} {v} h e f = record { value = e ∙ sym (low_steps n v h); carried = f ∙ sym (low_count n v h) }

  -- what comes back has gone round whole, and what goes q times round comes back, with q carries
  pub comes_back_whole : (n v : ℕ) → v < c.stop → steps c n v ≡ v → n ≡ count c n v * c.stop
  comes_back_whole n v h e = omega (arith, (low_digits n v h).1)

  pub whole_comes_back : (q v : ℕ) → v < c.stop → (steps c (q * c.stop) v ≡ v) × (count c (q * c.stop) v ≡ q)
  whole_comes_back q v h =
      let e : v + q * c.stop ≡ q * c.stop + v = omega arith in
      (low_steps (q * c.stop) v h ∙ rw e (digits_mod q h), low_count (q * c.stop) v h ∙ rw e (digits_div q h))

-- both kinds of counter grow below their stop
pub plain_grows : (s v : ℕ) → v < s → (plain s).next v ≡ suc v
plain_grows s v h = add-one v

pub cyclic_grows : (w s : ℕ) → s < w → (v : ℕ) → v < s → (cyclic w s).next v ≡ suc v
cyclic_grows w s low v h = rw add-one (mod-eq_of_lt (omega arith))

pub cyclic_lt : (w s : ℕ) → 0 < w → (u : ℕ) → u < w → (cyclic w s).next u < w
cyclic_lt w s pos u h = mod-lt (u + 1) pos

-- ---- from the stop on: up to the last of w values no carry, then from 0

module _ (w s : ℕ) (pos : 0 < s) (low : s < w) where
  high_run : (n v : ℕ) → s ≤ v → v + n < w → (steps (cyclic w s) n v ≡ v + n) × (count (cyclic w s) n v ≡ 0)
  unfolding steps count
  high_run zero v h k = (sym (add-zero v), refl)
  high_run (suc n) v h k =
      let ih = high_run n v h (omega arith) in
      let g : (v + n + 1) % w ≡ suc (v + n) = rw add-one (mod-eq_of_lt (omega arith)) in
      let m = step_misses (cyclic w s) (v + n) g (λ q. omega arith) in
      rw (ih.0, ih.1, m.0, m.1) (omega arith)

  high_end : (v : ℕ) → s ≤ v → v < w → (steps (cyclic w s) (w - v) v ≡ 0) × (count (cyclic w s) (w - v) v ≡ 0)
  unfolding steps count
  high_end v h k =
      let e : w - v ≡ suc (w - v - 1) = omega arith in
      let d : ℕ = w - v - 1 in
      let r = high_run d v h (omega arith) in
      let f : suc (v + d) ≡ w = omega arith in
      let g : (v + d + 1) % w ≡ 0 = rw (add-one, f) (mod_self w) in
      let m = step_misses (cyclic w s) (v + d) g (λ q. omega arith) in
      rw (e, r.0, r.1, m.0, m.1) (refl, refl)

  pub high_ran : {n v : ℕ} → s ≤ v → v + n < w → Ran (cyclic w s) n v (v + n) 0
  high_ran {n} {v} h l = record { value = sym (high_run n v h l).0; carried = sym (high_run n v h l).1 }

  pub over_ran : {n v x k : ℕ} → s ≤ v → v < w → w ≤ v + n → Ran (cyclic w s) (n - (w - v)) 0 x k
      → Ran (cyclic w s) n v x k
  over_ran {n} {v} h l m r =
      let e : n ≡ (w - v) + (n - (w - v)) = omega arith in
      let z = high_end v h l in
      record {
        value =
            r.value ∙ ap (steps (cyclic w s) (n - (w - v))) (sym z.0)
            ∙ sym (steps_add (cyclic w s) (w - v) (n - (w - v)) v) ∙ ap (λ (j : ℕ). steps (cyclic w s) j v) (sym e);
        carried =
            r.carried
            ∙ sym
            (ap (λ (j : ℕ). count (cyclic w s) j v) e ∙ count_add (cyclic w s) (w - v) (n - (w - v)) v
            ∙ rw (z.0, z.1, zero-add));
      }

-- ---- the digits of v + n: before the stop, and from what is left past it

pub digits_before : (s v n : ℕ) → n < s - v → (v + n ≡ (v + n) % s) × (0 ≡ (v + n) / s)
digits_before s v n h = let l : v + n < s = omega arith in (sym (mod-eq_of_lt l), sym (div-eq_of_lt l))

pub digits_past : (s v n : ℕ) → v < s → s - v ≤ n
    → ((n - (s - v)) % s ≡ (v + n) % s) × ((n - (s - v)) / s + 1 ≡ (v + n) / s)
digits_past s v n l h =
    let e : v + n ≡ n - (s - v) + s = omega arith in
    rw e (sym (add-mod_right (n - (s - v)) s), sym (add-div_right (n - (s - v)) (omega arith)))
