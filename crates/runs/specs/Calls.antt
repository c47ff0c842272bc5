-- Calls of the bus made one after the other, each answered as its contract allows, and at most one byte changed.
use Rattle.std.specs.Prelude.{List, [], ◌∷◌, ◌⊎◌, ◌≡◌, ℕ, ◌<◌, set, Result}
use Rattle.bus.specs.Bus.{read_of, write_of, area_after}
use Rattle.bus.specs.Advance.{advance_of}
use Rattle.bus.specs.Run.{
  Access,
  Answer,
  Machine,
  Left,
  after_read,
  after_write,
  after_clocks,
}
use Rattle.bus.specs.Run as run
use Rattle.access.specs.declared.BusRefusal.{BusRefusal}
use Rattle.cartridge.specs.declared.Cartridge.{Cartridge}
use Rattle.clock.specs.declared.AdvanceRefusal.{AdvanceRefusal}

-- x is what one call may answer, and what is then left: the caller takes the state that an accepted call hands back
pub data Called (rom : List ℕ) (m : Machine) : Access → Left → Type 0 where
  read : {addr : ℕ} (r : Result ℕ BusRefusal) → r ≡ read_of m.cart rom m.area addr → Called rom m (run.reads addr) (after_read m r)
  write : {addr byte : ℕ} (r : Result Cartridge BusRefusal) (area : List ℕ) → r ≡ write_of m.cart m.area addr byte
      → area ≡ area_after m.cart m.area addr byte → Called rom m (run.writes addr byte) (after_write m r area)
  advance : {n : ℕ} (r : Result Cartridge AdvanceRefusal) → r ≡ advance_of m.cart n → Called rom m (run.clocks n) (after_clocks m r)

-- the answers to a list of accesses, each call on what the one before left
pub data Calls (rom : List ℕ) : Machine → List Access → List Answer → Machine → Type 0 where
  end : {m : Machine} → Calls rom m [] [] m
  call : {m n : Machine} {a : Access} {as' : List Access} {x : Left} {xs : List Answer} → Called rom m a x
      → Calls rom x.left as' xs n → Calls rom m (a ∷ as') (x.answer ∷ xs) n

-- a byte of eight bits in every write
abbrev pub Octet : Access → Type 0
Octet (run.reads addr) = Unit {0}
Octet (run.writes addr byte) = byte < 256
Octet (run.clocks n) = Unit {0}

abbrev pub Octets : List Access → Type 0
Octets [] = Unit {0}
Octets (a ∷ as') = Octet a × Octets as'

-- an answer that is neither 13 nor 14
abbrev pub Neither : Answer → Type 0
Neither (run.gave b) = Unit {0}
Neither run.took = Unit {0}
Neither (run.refused k) = 14 < k

abbrev pub AllNeither : List Answer → Type 0
AllNeither [] = Unit {0}
AllNeither (x ∷ xs) = Neither x × AllNeither xs

-- t is s, or s with one byte changed
pub record Put (s t : List ℕ) : Type 0 where
  pub place : ℕ
  pub byte : ℕ
  pub is : t ≡ set s place byte

abbrev pub AtMostOne : List ℕ → List ℕ → Type 0
AtMostOne s t = (t ≡ s) ⊎ Put s t
