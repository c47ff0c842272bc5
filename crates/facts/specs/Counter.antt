-- A counter with a stop: a step goes to the next value, and where that is exactly the stop, to 0 with a carry.
use Rattle.std.specs.Prelude.{Bool, ◌≡◌, ℕ, zero, suc, ◌+◌, ◌%◌, eqb}
use Rattle.facts.specs.Choice.{pick, bit}

pub record Counter : Type 0 where
  pub next : ℕ → ℕ
  pub stop : ℕ

-- of w values: the next is v + 1 modulo w
abbrev pub cyclic : ℕ → ℕ → Counter
cyclic w s = record { next = λ v. (v + 1) % w; stop = s }

-- without a width: the next is v + 1
abbrev pub plain : ℕ → Counter
plain s = record { next = λ v. v + 1; stop = s }

-- whether a step from v carries
unfoldable pub carries : Counter → ℕ → Bool
carries c v = eqb (c.next v) c.stop

-- the value after a step from v
unfoldable pub step : Counter → ℕ → ℕ
step c v = pick (carries c v) 0 (c.next v)

-- a step where the test holds, else nothing
unfoldable pub step_if : Counter → Bool → ℕ → ℕ
step_if c b v = pick b (step c v) v

-- the value after n steps from v
unfoldable pub steps : Counter → ℕ → ℕ → ℕ
steps c zero v = v
steps c (suc n) v = step c (steps c n v)

-- how many of n steps from v carry
unfoldable pub count : Counter → ℕ → ℕ → ℕ
count c zero v = 0
count c (suc n) v = count c n v + bit (carries c (steps c n v))

-- the value x and the number k of carries are those of n steps from v
pub record Ran (c : Counter) (n v x k : ℕ) : Type 0 where
  pub value : x ≡ steps c n v
  pub carried : k ≡ count c n v
