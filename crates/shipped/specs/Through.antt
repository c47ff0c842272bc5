-- The same accesses by a player that keeps windows: reads and writes go through the six numbers of `imf_windows`, by `imf_window_read` and
-- `imf_window_write`; where these say 0x200 the state is asked, and after a call that moved the windows they are asked for anew.
use Rattle.std.specs.Prelude.{List, ◌≡◌, ℕ}
use Rattle.bus.specs.Run.{Machine, Ready}
use Rattle.windows.specs.Windows.{windows_of}
use Rattle.player.specs.Windows.{numbers_of}
use Rattle.shipped.specs.Along.{Out, out}
use Rattle.shipped.specs.Sequence.{Kept}
use Rattle.shipped.specs.Ships.{kept_of, Sound}

-- what such a player keeps between two accesses
pub record Watched : Type 0 where
  pub kept : Kept
  pub windows : List ℕ

abbrev pub watched : Kept → List ℕ → Watched
watched kept windows = record { kept = kept; windows = windows }

-- a cartridge and its area as such a player keeps them
abbrev pub watched_of : Machine → Watched
watched_of m = watched (kept_of m) (numbers_of (windows_of m.cart))

-- a player that keeps a sound cartridge so, and lends the image and the area that are its own
pub record Watches (image : List ℕ) (m : Machine) (k : Watched) : Type 0 where
  pub is : k ≡ watched_of m
  pub sound : Sound m
  pub ready : Ready image m

-- an answered call, with windows beside it
abbrev pub passed_of : {X : Type 0} → Out X Kept → List ℕ → Out X Watched
passed_of x windows = out x.answer (watched x.left windows)
