-- Two saves of a clock that come back with another second: what Save 10 asks, and that neither part of it can go.
use Rattle.std.specs.Prelude.{◌≡◌, ℕ}
use Rattle.clock.specs.Access.{start_at}
use Rattle.clock_block.specs.Waking.{block_of, woken_of}

-- a clock that starts at a time, the wall times at which it is saved and read, and the second that it then shows
pub record Return : Type 0 where
  pub time : ℕ
  pub saved : ℕ
  pub read : ℕ
  pub second : ℕ

abbrev pub Shows : Return → Type 0
Shows r = (woken_of (block_of (start_at r.time) r.saved) r.read).running.second ≡ r.second

-- Save 10: "if the clock's time was then that wall time or later": ten seconds behind
abbrev pub behind : Return
behind = record { time = 0; saved = 10; read = 10; second = 10 }

-- Save 10: "written and read at one and the same wall time": a second later
abbrev pub later : Return
later = record { time = 10; saved = 10; read = 11; second = 1 }
