-- `save_file::ask_room` meets its contract: the two tests, and a sum that cannot wrap.
use Rattle.std.specs.Prelude.{Ok}
use mathlib.Core.Path.{refl, sym, ap, ◌∙◌}
use Prim.Native.Nat.{ℕ, ◌+◌}
use native.Mathlib.Omega.{arith}
use Rattle.mapper.specs.Mappers.{area_of}
use Rattle.mapper.proofs.Laws.{area_le}
use Rattle.battery.specs.Battery.{clock_in}
use Rattle.battery.proofs.Laws.{size_le}
use Rattle.cartridge.proofs.Laws.{fit_size}
use Rattle.save_file.proofs.Laws.{room_tested}
use Rattle.facts.proofs.ChoiceLaws.{not_true, not_false}
use Rattle.save_file.proofs.ask_room.Goals as goal

pub returns-then-not-fit : goal.returns-then-not-fit
returns-then-not-fit c =
    room_tested c.args.cart (sym c.if-not-fit.true ∙ c.fit.ensures) refl

pub returns-then-not-cart : goal.returns-then-not-cart
returns-then-not-cart c =
    room_tested c.args.cart (sym c.if-not-fit.false ∙ c.fit.ensures)
    (sym (not_true _ c.if-not-cart.true))

pub area-requires : goal.area-requires
area-requires c =
    fit_size c.args.cart (sym c.fit.ensures ∙ c.if-not-fit.false)

pub overflow_add-result : goal.overflow_add-result
overflow_add-result c =
    let a = c.args in
    omega (
      arith,
      c.save_battery_size.ensures,
      c.area.ensures,
      size_le (clock_in a.cart.mapper),
      area_le a.cart.mapper a.cart.size,
      fit_size a.cart (sym c.fit.ensures ∙ c.if-not-fit.false),
    )

pub returns : goal.returns
returns c =
    let a = c.args in
    ap Ok
    (ap (λ (n : ℕ). n + c.save_battery_size.result) c.area.ensures
    ∙ ap (λ (n : ℕ). area_of a.cart.mapper a.cart.size + n) c.save_battery_size.ensures)
    ∙ room_tested a.cart (sym c.if-not-fit.false ∙ c.fit.ensures) (sym (not_false _ c.if-not-cart.false))
