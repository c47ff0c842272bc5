-- How long the lines are.
use mathlib.Core.List.{List, [], ◌∷◌, ◌++◌}
use mathlib.Core.Path.{◌≡◌, ap, ◌∙◌, subst}
use Prim.Native.Nat.{ℕ, ◌+◌}
use native.Mathlib.Omega.{arith}
use lib.ListN.{length, length-append}
use Rattle.digits.specs.Digits.{hex_of, decimal_of}
use Rattle.digits.specs.Put.{Put}
use Rattle.digits.proofs.Laws.{length_hex}
use Rattle.lines.specs.Lines.{numbered, addressed, end_line}

pub length_numbered : (letter n : ℕ) → length (numbered letter n) ≡ 3 + length (decimal_of n)
unfolding numbered
length_numbered letter n = omega (arith, length-append (decimal_of n) (10 ∷ []))

pub length_addressed : (letter addr byte : ℕ) → length (addressed letter addr byte) ≡ 10
unfolding addressed
length_addressed letter addr byte =
    omega (
      arith,
      length-append (hex_of 4 addr) (32 ∷ (hex_of 2 byte ++ (10 ∷ []))),
      length-append (hex_of 2 byte) (10 ∷ []),
      length_hex 4 addr,
      length_hex 2 byte,
    )

pub length_end : (n : ℕ) → length (end_line n) ≡ 5 + length (decimal_of n)
unfolding end_line
length_end n = omega (arith, length-append (decimal_of n) (10 ∷ []))

-- a line put, by another name of its number
pub put_number_lem : {s t : List ℕ} {at r n k : ℕ} (letter : ℕ) → n ≡ k → Put s at (numbered letter n) t r
    → Put s at (numbered letter k) t r
put_number_lem {s} {t} {at} {r} letter e p = subst (λ (k : ℕ). Put s at (numbered letter k) t r) e p

-- the place behind a text of k bytes
pub behind_of : {s t xs : List ℕ} {at r k : ℕ} → Put s at xs t r → length xs ≡ k → r ≡ at + k
behind_of {at = at} p e = p.behind ∙ ap (λ (j : ℕ). at + j) e
