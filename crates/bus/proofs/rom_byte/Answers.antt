-- `bus::rom_byte` meets its contract: what a fit cartridge gives is what the banks ask.
use mathlib.Core.Path.{ap, ◌∙◌}
use Rattle.cartridge.proofs.Laws.{fit_registers_lem, fit_banks}
use Rattle.image.specs.Image.{byte_at}
use Rattle.banking.specs.Banks.{rom_place}
use Rattle.bus.proofs.rom_byte.Goals as goal

pub bank_at-bank-requires : goal.bank_at-bank-requires
bank_at-bank-requires c =
    fit_registers_lem c.args.cart c.requires

pub rom_place-requires : goal.rom_place-requires
rom_place-requires c =
    fit_banks c.args.cart c.requires

pub returns : goal.returns
returns c =
    let a = c.args in
    c.byte_at.ensures
    ∙ ap (byte_at a.rom.now)
    (c.rom_place.ensures ∙ ap (λ b. rom_place a.cart.banks b a.addr) c.bank_at-bank.ensures)
