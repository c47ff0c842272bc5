-- The bench table, Bench 1 to 8, as one statement over its eight rows.
use Rattle.std.specs.Prelude.{Ok}
use mathlib.Core.Bool.{Bool, true, false}
use mathlib.Core.Path.{◌≡◌, refl, sym, ap}
use Prim.Native.Nat.{ℕ, ◌+◌, ◌%◌, ◌<◌, ◌≤◌}
use native.Mathlib.Omega.{arith}
use borrow.Author.Tests.{ne_eqb, lt-ltb, le-ltb}
use Rattle.facts.specs.Counter.{carries, step, step_if}
use Rattle.facts.proofs.ChoiceLaws.{either_true, either_false}
use Rattle.facts.specs.Banking.{place_of}
use Rattle.banking.specs.Banks.{or_one}
use Rattle.clock_registers.specs.Seconds.{second_on, seconds_on}
use Rattle.clock_registers.specs.declared.Registers.{Registers}
use Rattle.clock.specs.Fit.{fit_clock}
use Rattle.clock.specs.Ticking.{moving, tick, ticks, advance_of}
use Rattle.clock.proofs.AnswerLaws.{taken_answer}
use Rattle.mbc1.specs.Registers as mbc1
use Rattle.mbc1.specs.declared.Mbc1 as declared
use Rattle.mapper.specs.Mappers.{bank_at}
use Rattle.runs.specs.Time.{seconds_of}
use Rattle.runs.proofs.TimeLaws.{taken_seconds}
use Rattle.promises.specs.Bench.{at, clock_of, All, rows}

stored : (m : declared.Mbc1) (addr : ℕ) → m.multicart ≡ true → 0x2000 ≤ addr → addr < 0x4000
    → (mbc1.written m addr 0x10).low ≡ 0
unfolding mbc1.written mbc1.low_of or_one
stored m addr e l h = simp (le-ltb addr 0x2000 l, lt-ltb addr 0x4000 h, e)

-- a row of whole seconds, from what its seconds come to
in_seconds : (r q : Registers) (k x : ℕ) → r.halt ≡ false → seconds_on k r ≡ q
    → (t : ℕ) (l : Bool) (f : Registers) → fit_clock (clock_of r x t l f) ≡ true → t + k ≤ 18446744073709551615
    → advance_of (clock_of r x t l f) (seconds_of k) ≡ Ok (clock_of q x (t + k) l f)
in_seconds r q k x h e t l f g m = taken_seconds (clock_of r x t l f) k g h m e

pub bench : (d h m s x : ℕ) (c : Bool) → All (rows d h m s x c)
unfolding bank_at mbc1.bank_x mbc1.two_at place_of seconds_on second_on step step_if carries ticks tick moving
bench d h m s x c = (
  (λ enabled mode. refl),
  (
    (λ enabled mode. refl),
    (
      stored,
      (
        in_seconds _ _ 1 x refl (simp either_true),
        (
          in_seconds _ _ 4 x refl (simp either_false),
          (
            in_seconds _ _ 1 x refl (simp either_false),
            (
              (λ t l f g n. sym (taken_answer (clock_of (at d h m s c) 2097151 t l f) 1 g n)),
              (
                in_seconds _ _ 30 x refl (simp either_false),
                tt,
              ),
            ),
          ),
        ),
      ),
    ),
  ),
)

-- Row 7's next second: after any but 59 the one after it, 0 after 63, and nothing else moves;
pub next_second : (d h m s : ℕ) (c : Bool) → s < 64 → (s ≡ 59 → ⊥) → second_on (at d h m s c) ≡ at d h m ((s + 1) % 64) c
unfolding second_on step step_if carries
next_second d h m s c l n = rw (ne_eqb ((s + 1) % 64) 60 (λ e. n (omega (arith, e)))) (ap (at d h m ((s + 1) % 64)) (either_false c))

-- after 59 it is 0, and the minute steps.
pub next_minute : (d h m : ℕ) (c : Bool) → m < 64 → (m ≡ 59 → ⊥) → second_on (at d h m 59 c) ≡ at d h ((m + 1) % 64) 0 c
unfolding second_on step step_if carries
next_minute d h m c l n = rw (ne_eqb ((m + 1) % 64) 60 (λ e. n (omega (arith, e)))) (ap (at d h ((m + 1) % 64) 0) (either_false c))
