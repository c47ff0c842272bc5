-- Ordered refusals: a list of tests, each with what is answered where it holds.
use Rattle.std.specs.Prelude.{Bool, true, false, List, [], ◌∷◌, ◌++◌, ◌≡◌}
use Rattle.facts.specs.Choice.{pick, either}

pub record No (R : Type 0) : Type 0 where
  pub holds : Bool
  pub why : R

abbrev pub no : {R : Type 0} → Bool → R → No R
no b w = record { holds = b; why = w }

-- the first that holds, made an answer by refuse; else a. Order 2: "Where several hold, the first of them gives the number"
abbrev pub first_no : {R A : Type 0} → (R → A) → List (No R) → A → A
first_no refuse [] a = a
first_no refuse (t ∷ ts) a = pick t.holds (refuse t.why) (first_no refuse ts a)

-- whether one of them holds
abbrev pub any_no : {R : Type 0} → List (No R) → Bool
any_no [] = false
any_no (t ∷ ts) = either t.holds (any_no ts)

-- `test` is the first of ts that holds
pub record First {R : Type 0} (ts : List (No R)) : Type 0 where
  pub before : List (No R)
  pub test : No R
  pub after : List (No R)
  pub is : ts ≡ before ++ (test ∷ after)
  pub none_before : any_no before ≡ false
  pub holds : test.holds ≡ true

-- the same tests, with what they say in the words of another answer
abbrev pub in_words : {R S : Type 0} → (R → S) → List (No R) → List (No S)
in_words said [] = []
in_words said (t ∷ ts) = no t.holds (said t.why) ∷ in_words said ts
