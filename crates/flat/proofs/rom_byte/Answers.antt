-- `flat::rom_byte` meets its contract: what a fit state gives is what the banks ask.
use mathlib.Core.Path.{ap, ◌∙◌}
use native.Mathlib.Omega.{arith}
use Prim.Native.Nat.{ℕ}
use Rattle.bytes_le.specs.Little.{field_at}
use Rattle.image.specs.Image.{byte_at}
use Rattle.banking.specs.Banks.{rom_place}
use Rattle.cartridge.proofs.Laws.{fit_registers_lem, fit_banks}
use Rattle.states.specs.Reading.{cart_at}
use Rattle.flat.proofs.rom_byte.Goals as goal

pub bank_at-bank-requires : goal.bank_at-bank-requires
bank_at-bank-requires c =
    fit_registers_lem (cart_at c.args.s.now c.args.kind) c.requires

pub rom_place-requires : goal.rom_place-requires
rom_place-requires c =
    omega (arith, c.read-banks.ensures, fit_banks (cart_at c.args.s.now c.args.kind) c.requires)

pub returns : goal.returns
returns c =
    let a = c.args in
    c.byte_at.ensures
    ∙ ap (byte_at a.image.now)
    (c.rom_place.ensures ∙ ap (λ (n : ℕ). rom_place n c.bank_at-bank.result a.addr) c.read-banks.ensures
    ∙ ap (λ (b : ℕ). rom_place (field_at 2 a.s.now 8) b a.addr) c.bank_at-bank.ensures)
