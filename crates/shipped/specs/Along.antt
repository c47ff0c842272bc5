-- A list of requests, each served on what the one before left.
use Rattle.std.specs.Prelude.{List, [], ◌∷◌}

-- an answer and what is left; all the answers and what is left at the end
pub record Out (X S : Type 0) : Type 0 where
  pub answer : X
  pub left : S

pub record Outs (X S : Type 0) : Type 0 where
  pub answers : List X
  pub left : S

abbrev pub out : {X S : Type 0} → X → S → Out X S
out x s = record { answer = x; left = s }

abbrev pub outs : {X S : Type 0} → List X → S → Outs X S
outs xs s = record { answers = xs; left = s }

-- one before the others
abbrev pub before : {X S : Type 0} → X → Outs X S → Outs X S
before x r = outs (x ∷ r.answers) r.left

abbrev pub along : {Q X S : Type 0} → (S → Q → Out X S) → S → List Q → Outs X S
along f k [] = outs [] k
along f k (q ∷ qs) = let x = f k q in before x.answer (along f x.left qs)

-- the same of calls that were made, of which `Made` says what each may answer and leave
pub data Along {Q X S : Type 0} (Made : S → Q → Out X S → Type 0) : S → List Q → Outs X S → Type 0 where
  end : {k : S} → Along Made k [] (outs [] k)
  next : {k : S} {q : Q} {qs : List Q} {x : Out X S} {r : Outs X S} → Made k q x → Along Made x.left qs r
      → Along Made k (q ∷ qs) (before x.answer r)
