-- What a call makes of the bytes of a state: 13 where they are none, and else the call below it on the cartridge that they are.
use Rattle.std.specs.Prelude.{Some, None, Option}
use Rattle.cartridge.specs.declared.Cartridge.{Cartridge}

abbrev pub on_state : {A : Type 0} → (Cartridge → A) → A → Option Cartridge → A
on_state f a (Some c) = f c
on_state f a None = a
