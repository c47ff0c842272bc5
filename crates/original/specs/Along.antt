-- The Rust along a game: what it begins with, and what one access leaves.
use Rattle.std.specs.Prelude.{List, ◌≡◌, ℕ, Ok}
use Rattle.header.specs.Check.{check_of}
use Rattle.header.specs.declared.Facts.{Facts}
use Rattle.bus.specs.Run.{Access}
use Rattle.bus.specs.Run as run
use Rattle.runs.specs.Game.{Game, mounted_machine}
use Rattle.original.specs.Machine.{ok}
use Rattle.original.specs.Cartridge.{Cartridge, taken, from_file}
use Rattle.original.specs.Step.{left, original_step}
use Rattle.original.specs.Domain.{Since, since}
use Rattle.original.specs.Same.{Same}
use Rattle.original.specs.Verdict.{cartridge_of}

-- what `from_file` gives for the image of a game, and that it goes with what we mounted
pub record StartSame (g : Game) : Type 0 where
  pub facts : Facts
  pub accepted : check_of g.image ≡ Ok facts
  pub is : from_file g.image g.wall ≡ ok (taken (cartridge_of g.image g.wall facts))
  pub same : Same g.image (since 0 0) (mounted_machine g) (cartridge_of g.image g.wall facts)

-- the original's answer to an access is x's, and what it leaves goes with what x leaves
pub record Stepped (image : List ℕ) (past : Since) (o : Cartridge) (a : Access) (x : run.Left) : Type 0 where
  pub next : Cartridge
  pub is : original_step o a ≡ ok (left x.answer next)
  pub same : Same image past x.left next
