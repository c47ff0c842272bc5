-- Whether a number stands in a list.
use Rattle.std.specs.Prelude.{Bool, false, List, [], ◌∷◌, ℕ, eqb}
use Rattle.facts.specs.Choice.{either}

abbrev pub one_of : ℕ → List ℕ → Bool
one_of n [] = false
one_of n (a ∷ l) = either (eqb n a) (one_of n l)
