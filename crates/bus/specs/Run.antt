-- A sequence of accesses to a mounted cartridge: what each is answered, and what is left at the end. A refused access is
-- answered with its number, changes nothing, and the next one follows.
use Rattle.std.specs.Prelude.{true, List, [], ◌∷◌, ◌≡◌, ℕ, length, Ok, Err, Result}
use Rattle.clock.specs.Ticking as clock
use Rattle.clock.specs.declared.AdvanceRefusal.{AdvanceRefusal}
use Rattle.cartridge.specs.Fit.{fit_cart, area_of}
use Rattle.cartridge.specs.declared.Cartridge.{Cartridge}
use Rattle.access.specs.Verdict.{number_of}
use Rattle.access.specs.declared.BusRefusal.{BusRefusal}
use Rattle.bus.specs.Bus.{read_of, write_of, area_after}
use Rattle.bus.specs.Advance.{advance_of}

pub data Access : Type 0 where
  reads : ℕ → Access
  writes : ℕ → ℕ → Access
  clocks : ℕ → Access

pub data Answer : Type 0 where
  gave : ℕ → Answer
  took : Answer
  refused : ℕ → Answer

-- the cartridge and the RAM area that goes with it
pub record Machine : Type 0 where
  pub cart : Cartridge
  pub area : List ℕ

-- a fit cartridge that is lent the image and the area it was mounted with
pub record Ready (rom : List ℕ) (m : Machine) : Type 0 where
  pub fit : fit_cart m.cart ≡ true
  pub image : length rom ≡ m.cart.length
  pub area : length m.area ≡ area_of m.cart

-- the answer to an access, and what is left
pub record Left : Type 0 where
  pub answer : Answer
  pub left : Machine

abbrev pub after_read : Machine → Result ℕ BusRefusal → Left
after_read m (Ok b) = record { answer = gave b; left = m }
after_read m (Err w) = record { answer = refused (number_of w); left = m }

abbrev pub after_write : Machine → Result Cartridge BusRefusal → List ℕ → Left
after_write m (Ok c) area = record { answer = took; left = record { cart = c; area = area } }
after_write m (Err w) area =
    record { answer = refused (number_of w); left = record { cart = m.cart; area = area } }

abbrev pub after_clocks : Machine → Result Cartridge AdvanceRefusal → Left
after_clocks m (Ok c) = record { answer = took; left = record { cart = c; area = m.area } }
after_clocks m (Err w) = record { answer = refused (clock.number_of w); left = m }

-- one access to a cartridge mounted from rom
abbrev pub step_of : List ℕ → Machine → Access → Left
step_of rom m (reads addr) = after_read m (read_of m.cart rom m.area addr)
step_of rom m (writes addr byte) =
    after_write m (write_of m.cart m.area addr byte) (area_after m.cart m.area addr byte)
step_of rom m (clocks n) = after_clocks m (advance_of m.cart n)

-- all the answers, and what is left at the end
pub record Ran : Type 0 where
  pub answers : List Answer
  pub left : Machine

abbrev pub run_of : List ℕ → Machine → List Access → Ran
run_of rom m [] = record { answers = []; left = m }
run_of rom m (a ∷ as') =
    let s = step_of rom m a in
    let r = run_of rom s.left as' in
    record { answers = s.answer ∷ r.answers; left = r.left }
