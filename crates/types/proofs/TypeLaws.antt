-- The search of the table of types, row by row.
use Rattle.std.specs.Prelude.{Some, None}
use mathlib.Core.Path.{◌≡◌, refl, sym, ap, ◌∙◌}
use mathlib.Core.List.{List}
use Prim.Native.Nat.{ℕ, suc, ◌+◌, ◌<◌, ◌≤◌}
use native.Mathlib.Numerals.{add-one}
use native.Mathlib.Omega.{arith}
use lib.Dec.{eqb}
use lib.ListN.{get_or, length, drop, drop_of_length-le}
use lib.Seq.{drop-cons}
use borrow.Author.Tests.{eq-eqb, ne_eqb}
use Rattle.facts.specs.Choice.{pick}
use Rattle.types.specs.Types.{types, no_row, find_row, type_of}
use Rattle.types.specs.declared.TypeRow.{TypeRow}

count : length types ≡ 24
unfolding types
count = refl

-- the search in the rest of the table, at its first row
here : (b i : ℕ) → i < 24
    → find_row (drop i types) b ≡ pick (eqb (get_or types i no_row).0 b) (Some (get_or types i no_row)) (find_row (drop (suc i) types) b)
unfolding find_row
here b i h = ap (λ (l : List TypeRow). find_row l b) (drop-cons types i no_row (omega (arith, count)))

pub hit : {r : TypeRow} (b i : ℕ) → i < 24 → type_of b ≡ find_row (drop i types) b → r ≡ get_or types i no_row
    → r.0 ≡ b → Some r ≡ type_of b
hit {r} b i h v e t = sym (v ∙ here b i h ∙ rw (← e, eq-eqb r.0 b t))

pub miss : {r : TypeRow} (b i : ℕ) → i < 24 → type_of b ≡ find_row (drop i types) b → r ≡ get_or types i no_row
    → (r.0 ≡ b → ⊥) → type_of b ≡ find_row (drop (i + 1) types) b
miss {r} b i h v e t = v ∙ here b i h ∙ rw (← e, ne_eqb r.0 b t, add-one)

pub over : (b i : ℕ) → 24 ≤ i → type_of b ≡ find_row (drop i types) b → None ≡ type_of b
unfolding find_row
over b i h v = sym (v ∙ ap (λ (l : List TypeRow). find_row l b) (drop_of_length-le types {i = i} (omega (arith, count))))
