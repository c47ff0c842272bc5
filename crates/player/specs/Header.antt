-- What a header says, as numbers.
use Rattle.std.specs.Prelude.{Bool, false, List, [], ◌∷◌, ℕ, ◌≤◌, Ok, Err, Result}
use Rattle.facts.specs.Choice.{bit}
use Rattle.types.specs.declared.Kind.{Kind}
use Rattle.types.specs.declared.Kind.TheVariants as kind
use Rattle.header.specs.Check.{number_of, check_of}
use Rattle.header.specs.declared.Facts.{Facts}
use Rattle.header.specs.declared.HeaderRefusal.{HeaderRefusal}
use Rattle.mount.specs.Mount.{start_of, area_in}
use Rattle.states.specs.Layout.{kind_of}

-- Player 8: "The kind is the one of the state that a mounting gives."
abbrev pub kind_number : Kind → Bool → ℕ
kind_number k multicart = kind_of (start_of k multicart 0)

abbrev pub has_timer : Kind → Bool
has_timer kind.NoMapper = false
has_timer kind.Mbc1 = false
has_timer kind.Mbc2 = false
has_timer (kind.Mbc3 timer) = timer
has_timer (kind.Mbc5 rumble) = false
has_timer kind.Mmm01 = false
has_timer kind.Mbc6 = false
has_timer kind.Mbc7 = false

abbrev pub has_rumble : Kind → Bool
has_rumble kind.NoMapper = false
has_rumble kind.Mbc1 = false
has_rumble kind.Mbc2 = false
has_rumble (kind.Mbc3 timer) = false
has_rumble (kind.Mbc5 rumble) = rumble
has_rumble kind.Mmm01 = false
has_rumble kind.Mbc6 = false
has_rumble kind.Mbc7 = false

-- numbers of 32 bits
pub record Small (d : Facts) : Type 0 where
  pub size : d.size ≤ 0x20000
  pub title : d.title ≤ 15

-- Player 8: "kind, bank count, the header's RAM size, the RAM area's length, battery, timer, rumble and colour as 0 or 1, the title's
-- place (0x134) and length, and two zeros"
abbrev pub facts_of : Facts → List ℕ
facts_of d =
    kind_number d.kind d.multicart
    ∷ d.banks
    ∷ d.size
    ∷ area_in d.kind d.size
    ∷ bit d.battery
    ∷ bit (has_timer d.kind)
    ∷ bit (has_rumble d.kind)
    ∷ bit d.colour
    ∷ 0x134
    ∷ d.title
    ∷ 0
    ∷ 0
    ∷ []

abbrev pub header_by : Result Facts HeaderRefusal → ℕ
header_by (Ok d) = 0
header_by (Err w) = number_of w

abbrev pub facts_by : List ℕ → Result Facts HeaderRefusal → List ℕ
facts_by s (Ok d) = facts_of d
facts_by s (Err w) = s

unfoldable pub header_of : List ℕ → ℕ
header_of image = header_by (check_of image)

unfoldable pub facts_after : List ℕ → List ℕ → List ℕ
facts_after image s = facts_by s (check_of image)
