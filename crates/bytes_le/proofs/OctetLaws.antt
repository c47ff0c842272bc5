-- Bytes of eight bits: each one of them, the first and the last of them, one more put in.
use mathlib.Core.List.{List, [], ◌∷◌}
use Prim.Native.Nat.{ℕ, zero, suc, ◌<◌}
use native.Mathlib.Omega.{arith}
use lib.ListN.{get_or, set, replicate, take, drop}
use Rattle.bytes_le.specs.Little.{Octets}

-- the byte at any place, 0 past the end
pub octets_at : (s : List ℕ) → Octets s → (i : ℕ) → get_or s i 0 < 256
octets_at [] o i = omega arith
octets_at (b ∷ bs) o zero = o.0
octets_at (b ∷ bs) o (suc i) = octets_at bs o.1 i

pub octets_all : (s : List ℕ) → ((i : ℕ) → get_or s i 0 < 256) → Octets s
octets_all [] h = tt
octets_all (b ∷ s) h = (h 0, octets_all s (λ i. h (suc i)))

pub octets_drop : (k : ℕ) (s : List ℕ) → Octets s → Octets (drop k s)
octets_drop zero s o = o
octets_drop (suc k) [] o = o
octets_drop (suc k) (b ∷ bs) o = octets_drop k bs o.1

pub octets_take : (k : ℕ) (s : List ℕ) → Octets s → Octets (take k s)
octets_take zero s o = tt
octets_take (suc k) [] o = o
octets_take (suc k) (b ∷ bs) o = (o.0, octets_take k bs o.1)

pub octets_set : (s : List ℕ) (k v : ℕ) → Octets s → v < 256 → Octets (set s k v)
octets_set [] k v o h = o
octets_set (b ∷ bs) zero v o h = (h, o.1)
octets_set (b ∷ bs) (suc k) v o h = (o.0, octets_set bs k v o.1 h)

pub octets_zeros : (n : ℕ) → Octets (replicate n 0)
octets_zeros zero = tt
octets_zeros (suc n) = (omega arith, octets_zeros n)
