-- The numbers and the bytes that stand for what a run of a cartridge answers and leaves.
use Rattle.std.specs.Prelude.{true, List, [], ◌∷◌, ◌≡◌, ℕ, ◌+◌}
use Rattle.cartridge.specs.Fit.{fit_cart, InTime}
use Rattle.bus.specs.Run.{Access, Answer, Machine, Ran, reads, writes, clocks, gave, took, refused, step_of}
use Rattle.states.specs.Layout.{encode_of}
use Rattle.shipped.specs.Along.{Out, Outs, out, outs}
use Rattle.shipped.specs.Sequence.{Kept, kept}

-- the number of an answer: of a read the byte, or 0x100 and the number of the no; of the others 0, or that number
abbrev pub number_of : Access → Answer → ℕ
number_of (reads addr) (gave b) = b
number_of (reads addr) took = 0
number_of (reads addr) (refused k) = 0x100 + k
number_of (writes addr byte) (gave b) = b
number_of (writes addr byte) took = 0
number_of (writes addr byte) (refused k) = k
number_of (clocks n) (gave b) = b
number_of (clocks n) took = 0
number_of (clocks n) (refused k) = k

abbrev pub numbers_of : List Access → List Answer → List ℕ
numbers_of [] xs = []
numbers_of (a ∷ as') [] = []
numbers_of (a ∷ as') (x ∷ xs) = number_of a x ∷ numbers_of as' xs

-- a cartridge and its area as a player keeps them
abbrev pub kept_of : Machine → Kept
kept_of m = kept (encode_of m.cart) m.area

-- an access to the cartridge, answered with its number; and a run as a player gets it
abbrev pub numbered : List ℕ → Machine → Access → Out ℕ Machine
numbered image m a = let x = step_of image m a in out (number_of a x.answer) x.left

abbrev pub called_of : List Access → Ran → Outs ℕ Kept
called_of accesses r = outs (numbers_of accesses r.answers) (kept_of r.left)

-- a fit cartridge, its time of 64 bits
pub record Sound (m : Machine) : Type 0 where
  pub fit : fit_cart m.cart ≡ true
  pub timed : InTime m.cart.mapper
