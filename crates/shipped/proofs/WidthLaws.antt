-- The numbers that are read from bytes of eight bits have the widths of their types, fit or not.
use Rattle.std.specs.Prelude.{Some, None}
use mathlib.Core.Bool.{Bool, true, false}
use mathlib.Core.List.{List}
use mathlib.Core.Path.{◌≡◌, subst}
use Prim.Native.Nat.{ℕ, ◌+◌}
use native.Mathlib.Omega.{arith}
use Rattle.facts.specs.Choice.{pick}
use Rattle.facts.proofs.ChoiceLaws.{false≢true}
use Rattle.bytes_le.specs.Little.{field_at, Octets}
use Rattle.bytes_le.proofs.FieldLaws.{field_lt}
use Rattle.mapper.specs.declared.Mapper.{Mapper}
use Rattle.cartridge.specs.declared.Cartridge.{Cartridge}
use Rattle.state_fields.specs.ClockFields.{registers_in}
use Rattle.states.specs.Reading.{decode_of, is_state, mapper_at, cart_at}
use Rattle.states.specs.Widths.{RegisterWidths, MapperWidths, Widths}
use Rattle.states.proofs.Laws.{every_kind}

-- what holds of the cartridge read by its kind holds of the one that bytes are
pub decoded_has : (s : List ℕ) (c : Cartridge) (P : Cartridge → Type 0) → P (cart_at s (field_at 1 s 0)) → decode_of s ≡ Some c → P c
unfolding decode_of
decoded_has s c P h e = go (is_state s (field_at 1 s 0)) e
  where
    go : (b : Bool) → pick b (Some (cart_at s (field_at 1 s 0))) None ≡ Some c → P c
    go true p =
        let q : cart_at s (field_at 1 s 0) ≡ c = cc in subst P q h
    go false p = let z : ◌≡◌ {A = ℕ} 0 1 = cc in absurd (omega arith)

registers_widths : (s : List ℕ) (at : ℕ) → Octets s → RegisterWidths (registers_in s at)
registers_widths s at o =
    record {
      second = field_lt 1 s at o;
      minute = field_lt 1 s (at + 1) o;
      hour = field_lt 1 s (at + 2) o;
      day = field_lt 2 s (at + 3) o;
    }

mapper_widths_at : (s : List ℕ) → Octets s → (k : ℕ) → MapperWidths (mapper_at s k)
mapper_widths_at s o =
    let bank = field_lt 1 s 4 o in
    let ram = field_lt 1 s 6 o in
    every_kind s (λ (k : ℕ) (m : Mapper). MapperWidths m) tt (bank, ram) (bank, ram) bank
    (record { bank = bank; ram = ram; timed = λ e. false≢true e })
    (record {
      bank = bank;
      ram = ram;
      timed =
          λ _.
          record {
            register = field_lt 1 s 7 o;
            running = registers_widths s 45 o;
            sub = field_lt 4 s 40 o;
            time = field_lt 8 s 32 o;
            frozen = registers_widths s 52 o;
          };
    })
    (field_lt 2 s 4 o, ram) (λ k. tt)

pub decoded_widths : (s : List ℕ) (c : Cartridge) → Octets s → decode_of s ≡ Some c → Widths c
decoded_widths s c o =
    decoded_has s c Widths
    (record {
      length = field_lt 8 s 16 o;
      banks = field_lt 2 s 8 o;
      size = field_lt 8 s 24 o;
      mapper = mapper_widths_at s o (field_at 1 s 0);
    })
