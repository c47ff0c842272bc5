-- The answers of a read, a write and a latch.
use Rattle.std.specs.Prelude.{Some, None}
use mathlib.Core.Bool.{Bool, true, false}
use mathlib.Core.Path.{◌≡◌, sym, ap, ◌∙◌}
use Prim.Native.Nat.{ℕ, ◌%◌, ◌<◌, ◌≤◌}
use native.Mathlib.Omega.{arith}
use lib.Dec.{eqb}
use lib.ListN.{get_or}
use lib.Bits.{bit_and, and_mask}
use borrow.Author.Tests.{eq-eqb, ne_eqb, lt-ltb, le-ltb}
use Rattle.facts.specs.Choice.{pick}
use Rattle.clock_registers.specs.Access.{readings, writings}
use Rattle.clock_registers.specs.declared.Registers.{Registers}
use Rattle.clock.specs.Access.{sub_after, shown_of, written_of, latched_of}
use Rattle.clock.specs.declared.Clock.{Clock}

-- ---- reads and writes, by whether the clock is frozen

module _ (c : Clock) (n : ℕ) where
  pub shown_nothing : 4 < n → None ≡ shown_of c n
  unfolding shown_of
  shown_nothing h = rw (le-ltb n 5 h)

  pub shown_by : (b : Bool) {x : ℕ} → n ≤ 4 → c.latched ≡ b → x ≡ get_or (readings (pick b c.frozen c.running)) n 0
      → Some x ≡ shown_of c n
  unfolding shown_of
  shown_by b h l e =
      ap Some e
      ∙ ap (λ (t : Bool). Some (get_or (readings (pick t c.frozen c.running)) n 0)) (sym l)
      ∙ rw (lt-ltb n 5 (omega arith))

module _ (c : Clock) (n b : ℕ) where
  pub written_nothing : 4 < n → None ≡ written_of c n b
  unfolding written_of
  written_nothing h = rw (le-ltb n 5 h)

  pub written_by : (t : Bool) {r f : Registers} {s : ℕ} → n ≤ 4 → c.latched ≡ t
      → r ≡ get_or (writings c.running b) n c.running → s ≡ sub_after n c.sub
      → f ≡ pick t (get_or (writings c.frozen b) n c.frozen) c.frozen
      → Some (record { running = r; sub = s; time = c.time; latched = c.latched; frozen = f }) ≡ written_of c n b
  unfolding written_of
  written_by t h l e q p = rw (e, q, p, lt-ltb n 5 (omega arith), ← l)

-- ---- the latch

module _ (c : Clock) (b : ℕ) where
  clear : bit_and b 1 ≡ 0 → eqb (b % 2) 1 ≡ false
  clear e = ne_eqb (b % 2) 1 (λ q. omega (arith, and_mask b 1))

  set : (bit_and b 1 ≡ 0 → ⊥) → eqb (b % 2) 1 ≡ true
  set d = eq-eqb (b % 2) 1 (omega (arith, and_mask b 1, d))

  pub latch_off : bit_and b 1 ≡ 0
      → ◌≡◌ {A = Clock}
      (record { running = c.running; sub = c.sub; time = c.time; latched = false; frozen = c.frozen })
      (latched_of c b)
  unfolding latched_of
  latch_off e = rw (clear e)

  pub latch_again : (bit_and b 1 ≡ 0 → ⊥) → c.latched ≡ true → c ≡ latched_of c b
  unfolding latched_of
  latch_again d l = rw (set d, l)

  pub latch_now : (bit_and b 1 ≡ 0 → ⊥) → c.latched ≡ false
      → ◌≡◌ {A = Clock}
      (record { running = c.running; sub = c.sub; time = c.time; latched = true; frozen = c.running })
      (latched_of c b)
  unfolding latched_of
  latch_now d l = rw (set d, l)
