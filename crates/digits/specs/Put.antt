-- Text written into room.
use Rattle.std.specs.Prelude.{List, ◌≡◌, ℕ, ◌+◌, length}
use Rattle.std.proofs.lemmas.List.Edits.{sets}

-- t is s with the text from a place on, all else as it was, and after is the place behind the text
pub record Put (s : List ℕ) (at : ℕ) (text t : List ℕ) (after : ℕ) : Type 0 where
  pub is : t ≡ sets s at text
  pub behind : after ≡ at + length text

-- xs put into s is what zs put into s₀ is: where zs is to be put, this is what is still to be done
pub record Rest (s : List ℕ) (at : ℕ) (xs s₀ : List ℕ) (at₀ : ℕ) (zs : List ℕ) : Type 0 where
  pub is : sets s at xs ≡ sets s₀ at₀ zs
  pub behind : at + length xs ≡ at₀ + length zs
