-- What a mapper does not use leaves no trace in the bytes and none in fitness.
use mathlib.Core.Bool.{Bool, true, false}
use mathlib.Core.Logic.{inl, inr}
use mathlib.Core.Path.{◌≡◌, refl, sym, ap}
use Rattle.facts.proofs.ChoiceLaws.{false≢true}
use Rattle.clock.specs.Access.{start_at}
use Rattle.mbc3.specs.Registers as mbc3
use Rattle.mbc3.specs.declared.Mbc3 as mbc3-state
use Rattle.mapper.specs.Mappers as mapper
use Rattle.mapper.specs.declared.Mapper.{Mapper}
use Rattle.mapper.specs.declared.Mapper.TheVariants.{NoMapper, Mbc1, Mbc2, Mbc3, Mbc5}
use Rattle.cartridge.specs.Fit.{fit_cart, fit_board}
use Rattle.cartridge.specs.With.{with_mapper}
use Rattle.cartridge.specs.declared.Cartridge.{Cartridge}
use Rattle.states.specs.Layout.{encode_of}
use Rattle.states.specs.Plain.{plain_mbc3, plain_mapper, Used}
use Rattle.states.proofs.Laws.{mbc3_of_lem}

-- what holds with a timer and without one holds of every MBC3
pub by_timer : (P : mbc3-state.Mbc3 → Type 0) (m : mbc3-state.Mbc3)
    → P (mbc3.mbc3 true m.enabled m.bank m.memory m.ram m.register m.clock)
    → P (mbc3.mbc3 false m.enabled m.bank m.memory m.ram m.register m.clock)
    → P m
by_timer P m p q = go m.timer
  where
    go : (t : Bool) → P (mbc3.mbc3 t m.enabled m.bank m.memory m.ram m.register m.clock)
    go true = p
    go false = q

pub plain_encodes : (c : Cartridge) (m : Mapper) → encode_of (with_mapper c (plain_mapper m)) ≡ encode_of (with_mapper c m)
unfolding encode_of
plain_encodes c (NoMapper m) = refl
plain_encodes c (Mbc1 m) = refl
plain_encodes c (Mbc2 m) = refl
plain_encodes c (Mbc3 m) =
    by_timer (λ (x : mbc3-state.Mbc3). encode_of (with_mapper c (Mbc3 (plain_mbc3 x))) ≡ encode_of (with_mapper c (Mbc3 x))) m refl refl
plain_encodes c (Mbc5 m) = refl

pub plain_fits : (c : Cartridge) (m : Mapper) → fit_cart (with_mapper c (plain_mapper m)) ≡ fit_cart (with_mapper c m)
unfolding fit_cart fit_board mapper.holds mbc3.fit_registers
plain_fits c (NoMapper m) = refl
plain_fits c (Mbc1 m) = refl
plain_fits c (Mbc2 m) = refl
plain_fits c (Mbc3 m) =
    by_timer (λ (x : mbc3-state.Mbc3). fit_cart (with_mapper c (Mbc3 (plain_mbc3 x))) ≡ fit_cart (with_mapper c (Mbc3 x))) m refl refl
plain_fits c (Mbc5 m) = refl

pub plain_again : (m : Mapper) → plain_mapper (plain_mapper m) ≡ plain_mapper m
plain_again (NoMapper m) = refl
plain_again (Mbc1 m) = refl
plain_again (Mbc2 m) = refl
plain_again (Mbc3 m) = by_timer (λ (x : mbc3-state.Mbc3). Mbc3 (plain_mbc3 (plain_mbc3 x)) ≡ Mbc3 (plain_mbc3 x)) m refl refl
plain_again (Mbc5 m) = refl

pub plain_used : (m : Mapper) → Used m → plain_mapper m ≡ m
plain_used (NoMapper m) u = refl
plain_used (Mbc1 m) u = refl
plain_used (Mbc2 m) u = refl
plain_used (Mbc3 m) u =
    ap Mbc3 (by_timer (λ (x : mbc3-state.Mbc3). Used (Mbc3 x) → plain_mbc3 x ≡ x) m (λ _. refl) zeroed u)
  where
    zeroed : Used (Mbc3 (mbc3.mbc3 false m.enabled m.bank m.memory m.ram m.register m.clock))
        → mbc3.mbc3 false m.enabled m.bank m.memory m.ram 0 (start_at 0)
        ≡ mbc3.mbc3 false m.enabled m.bank m.memory m.ram m.register m.clock
    zeroed (inl e) = false≢true e
    zeroed (inr e) = mbc3_of_lem refl refl refl refl (sym e.0) (sym e.1)
plain_used (Mbc5 m) u = refl
