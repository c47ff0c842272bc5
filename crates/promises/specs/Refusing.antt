-- Of a call, Demand 1: "Every bad input has its number, and a refused call changes neither the cartridge nor any lent byte." A refusal
-- hands back no state, so the caller's stays.
use Rattle.std.specs.Prelude.{false, List, map, ◌≡◌, ℕ}
use Rattle.facts.specs.Refusals.{No, any_no, First}

-- a call on some input, with refusals R and answers A
pub record Call (R A : Type 0) : Type 0 where
  -- its tests in their order
  pub tests : List (No R)
  pub number_of : R → ℕ
  pub refuse : R → A
  -- what it answers where it is accepted, and what it answers
  pub accepted : A
  pub answer : A
  -- the bytes that it is lent to write, before and after
  pub before : List ℕ
  pub after : List ℕ

pub record Refusing {R A : Type 0} (numbers : List ℕ) (c : Call R A) : Type 0 where
  -- the tests have these numbers, in this order
  pub order : map (λ (t : No R). c.number_of t.why) c.tests ≡ numbers
  -- Order 2: "Where several hold, the first of them gives the number"
  pub first : (f : First c.tests) → c.answer ≡ c.refuse f.test.why
  -- Order 2: "where none holds, no number is given", and else the first's
  pub given : (w : R) → c.answer ≡ c.refuse w → (f : First c.tests) × (f.test.why ≡ w)
  -- the call is accepted where none holds, and only there
  pub none : any_no c.tests ≡ false → c.answer ≡ c.accepted
  pub only : c.answer ≡ c.accepted → any_no c.tests ≡ false
  -- Order 1: "every byte that was lent stay as they were"
  pub stays : (w : R) → c.answer ≡ c.refuse w → c.after ≡ c.before
