-- Whether bytes of some kind are a fit state, each part where the bytes have it.
use Rattle.std.specs.Prelude.{Bool, List, ℕ}
use Rattle.facts.specs.Choice.{both}
use Rattle.bytes_le.specs.Little.{field_at}
use Rattle.mapper.specs.Mappers.{holds, fit_registers}
use Rattle.cartridge.specs.Fit.{fit_cart}
use Rattle.states.specs.Reading.{mapper_at, cart_at, is_state}

-- whether bytes of a kind are a fit state
abbrev pub fit_at : List ℕ → ℕ → Bool
fit_at s kind = both (is_state s kind) (fit_cart (cart_at s kind))

-- of this what the kind alone decides
abbrev pub fit_kind : List ℕ → ℕ → Bool
fit_kind s kind =
    both (is_state s kind)
    (both (holds (mapper_at s kind) (field_at 2 s 8) (field_at 8 s 24)) (fit_registers (mapper_at s kind)))
