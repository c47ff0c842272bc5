-- The clauses of the domain as tests in a row, to see which of them a sequence of accesses leaves.
use Rattle.std.specs.Prelude.{Bool, true, List, [], ◌∷◌, ℕ}
use Rattle.facts.specs.Choice.{both}
use Rattle.mapper.specs.declared.Mapper.{Mapper}
use Rattle.bus.specs.Run.{Access, Machine, step_of}
use Rattle.original.specs.Domain.{
  Since,
  since_after,
  reached,
  selects,
  in_time,
  timed,
  followed,
  still,
  clear,
  proper,
}

pub record Tests : Type 0 where
  pub address : Bool
  pub selection : Bool
  pub time : Bool
  pub followed : Bool
  pub still : Bool
  pub clear : Bool
  pub proper : Bool

abbrev pub tests : Bool → Bool → Bool → Bool → Bool → Bool → Bool → Tests
tests address selection time followed still clear proper =
    record {
      address = address;
      selection = selection;
      time = time;
      followed = followed;
      still = still;
      clear = clear;
      proper = proper;
    }

-- all of them hold
abbrev pub all_hold : Tests
all_hold = tests true true true true true true true

-- both rows
abbrev pub meet : Tests → Tests → Tests
meet a b =
    tests (both a.address b.address) (both a.selection b.selection) (both a.time b.time)
    (both a.followed b.followed) (both a.still b.still) (both a.clear b.clear) (both a.proper b.proper)

-- of one access, and of a sequence
abbrev pub tests_of : Mapper → Since → Access → Mapper → Tests
tests_of m s a next =
    tests (reached a) (selects m a) (in_time m s a) (timed (followed s a) m) (timed (still a) m) (timed clear next)
    (timed (proper a) m)

abbrev pub kept : List ℕ → Machine → Since → List Access → Tests
kept rom m s [] = all_hold
kept rom m s (a ∷ as') =
    let next = (step_of rom m a).left in
    meet (tests_of m.cart.mapper s a next.cart.mapper) (kept rom next (since_after m.cart.mapper s a) as')
