-- The bytes of a state, as a player meets them.
use Rattle.std.specs.Prelude.{true, List, ◌≡◌, ℕ, Some}
use Rattle.cartridge.specs.Fit.{fit_cart, InTime}
use Rattle.cartridge.specs.declared.Cartridge.{Cartridge}
use Rattle.states.specs.Layout.{encode_of}
use Rattle.states.specs.Reading.{decode_of}

-- bytes that were written for a fit cartridge, its time of 64 bits
pub record Wrote (t : List ℕ) : Type 0 where
  pub cart : Cartridge
  pub is : t ≡ encode_of cart
  pub fit : fit_cart cart ≡ true
  pub timed : InTime cart.mapper

-- they are read as a fit cartridge, of which the library would write them again (Player 4 and 5)
pub record Comes (t : List ℕ) : Type 0 where
  pub cart : Cartridge
  pub decoded : decode_of t ≡ Some cart
  pub fit : fit_cart cart ≡ true
  pub timed : InTime cart.mapper
  pub again : encode_of cart ≡ t
