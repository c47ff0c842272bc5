-- UTF-8 as RFC 3629 has it, section 4 (Header 5): the grammar, and a test that reads byte by byte.
use Rattle.std.specs.Prelude.{Bool, true, false, ℕ, ◌≤◌, leb, replicate}
use mathlib.Core.List.{List, [], ◌∷◌, ◌++◌, Memᴰ}
use Rattle.facts.specs.Choice.{pick, both}
use Rattle.utf8.specs.declared.State.{State}
use Rattle.utf8.specs.declared.State.TheVariants.{Whole, Tail, Bad}

pub record Range : Type 0 where
  pub lo : ℕ
  pub hi : ℕ

abbrev pub range : ℕ → ℕ → Range
range a b = record { lo = a; hi = b }

abbrev pub octet : ℕ → Range
octet a = range a a

-- UTF8-tail
abbrev pub tail : Range
tail = range 0x80 0xBF

-- UTF8-char: UTF8-1, UTF8-2, the four rows of UTF8-3, the three of UTF8-4
unfoldable pub chars : List (List Range)
chars =
    (range 0x00 0x7F ∷ [])
    ∷ (range 0xC2 0xDF ∷ tail ∷ [])
    ∷ (octet 0xE0 ∷ range 0xA0 0xBF ∷ tail ∷ [])
    ∷ (range 0xE1 0xEC ∷ tail ∷ tail ∷ [])
    ∷ (octet 0xED ∷ range 0x80 0x9F ∷ tail ∷ [])
    ∷ (range 0xEE 0xEF ∷ tail ∷ tail ∷ [])
    ∷ (octet 0xF0 ∷ range 0x90 0xBF ∷ tail ∷ tail ∷ [])
    ∷ (range 0xF1 0xF3 ∷ tail ∷ tail ∷ tail ∷ [])
    ∷ (octet 0xF4 ∷ range 0x80 0x8F ∷ tail ∷ tail ∷ [])
    ∷ []

-- bytes in ranges, one by one
pub data Reads : List Range → List ℕ → Type 0 where
  stop : Reads [] []
  byte : {r : Range} {rs : List Range} {x : ℕ} {s : List ℕ} → r.lo ≤ x → x ≤ r.hi → Reads rs s → Reads (r ∷ rs) (x ∷ s)

-- UTF8-octets = *( UTF8-char ), Header 5: "none or more characters one after the other, each of one of these forms"
pub data Octets : List ℕ → Type 0 where
  none : Octets []
  char : {f : List Range} {c s : List ℕ} → Memᴰ f chars → Reads f c → Octets s → Octets (c ++ s)

-- The test. What may follow: nothing at all, or bytes in these ranges and then characters.
pub data Next : Type 0 where
  never : Next
  asks : List Range → Next

abbrev pub within : Range → ℕ → Bool
within r x = both (leb r.lo x) (leb x r.hi)

-- what the first of the forms that starts with x asks after x
unfoldable pub begun : List (List Range) → ℕ → Next
begun [] x = never
begun ([] ∷ fs) x = begun fs x
begun ((r ∷ rs) ∷ fs) x = pick (within r x) (asks rs) (begun fs x)

unfoldable pub after : Next → ℕ → Next
after never x = never
after (asks []) x = begun chars x
after (asks (r ∷ rs)) x = pick (within r x) (asks rs) never

abbrev pub done : Next → Bool
done never = false
done (asks []) = true
done (asks (r ∷ rs)) = false

unfoldable pub reads : Next → List ℕ → Bool
reads n [] = done n
reads n (x ∷ s) = reads (after n x) s

unfoldable pub is_utf8 : List ℕ → Bool
is_utf8 s = reads (asks []) s

-- what a state of the code asks
abbrev pub pending : State → Next
pending Whole = asks []
pending (Tail lo hi more) = asks (range lo hi ∷ replicate more tail)
pending Bad = never
