-- The windows, the verdict by its tests, and what an accepted access may rely on.
use Rattle.std.specs.Prelude.{Ok, Err, Result}
use mathlib.Core.Bool.{Bool, true, false, not}
use mathlib.Core.List.{[], ◌∷◌}
use mathlib.Core.Path.{◌≡◌, refl, ap, ◌∙◌}
use Prim.Native.Nat.{ℕ, ◌<◌, ◌≤◌}
use native.Mathlib.Omega.{arith}
use lib.Dec.{leb}
use borrow.Author.Tests.{le-leb, lt-leb, leb-true}
use Rattle.facts.specs.Choice.{pick, both, either}
use Rattle.facts.specs.Refusals.{no, first_no, any_no}
use Rattle.facts.proofs.ChoiceLaws.{both_true, both_false, both_parts, not_false}
use Rattle.facts.proofs.RefusalLaws.{none_if, none_at}
use Rattle.cartridge.specs.Fit.{fit_cart}
use Rattle.cartridge.specs.declared.Cartridge.{Cartridge}
use Rattle.access.specs.Verdict.{in_rom, in_ram, noes_by, verdict_by, noes, verdict_of}
use Rattle.access.specs.declared.BusRefusal.TheVariants.{Unfit, WrongLength, BadAddress, BadSelection}
use Rattle.access.specs.declared.Target.{Target}
use Rattle.access.specs.declared.BusRefusal.{BusRefusal}
use Rattle.access.specs.declared.Target.TheVariants.{Rom, Ram}

-- ---- the windows

pub rom_window : (addr : ℕ) → addr < 0x8000 → in_rom addr ≡ true
rom_window addr h = le-leb addr 0x7FFF (omega arith)

pub above_rom : (addr : ℕ) → 0x8000 ≤ addr → in_rom addr ≡ false
above_rom addr h = lt-leb addr 0x7FFF (omega arith)

pub ram_window : (addr : ℕ) → 0xA000 ≤ addr → addr < 0xC000 → in_ram addr ≡ true
ram_window addr l h = both_true (le-leb 0xA000 addr l) (le-leb addr 0xBFFF (omega arith))

pub below_ram : (addr : ℕ) → addr < 0xA000 → in_ram addr ≡ false
below_ram addr h = ap (λ (t : Bool). both t (leb addr 0xBFFF)) (lt-leb 0xA000 addr h)

pub above_ram : (addr : ℕ) → 0xC000 ≤ addr → in_ram addr ≡ false
above_ram addr h = ap (both (leb 0xA000 addr)) (lt-leb addr 0xBFFF (omega arith)) ∙ both_false (leb 0xA000 addr)

pub ram_bounds : (addr : ℕ) → in_ram addr ≡ true → (0xA000 ≤ addr) × (addr ≤ 0xBFFF)
ram_bounds addr e =
    let p = both_parts (leb 0xA000 addr) (leb addr 0xBFFF) e in (leb-true 0xA000 addr p.0, leb-true addr 0xBFFF p.1)

-- ---- the verdict

-- by the five tests: whether the state is fit, what is lent right, the address in the ROM or in the RAM window, the selection bad
abbrev pub by_tests_lem : Bool → Bool → Bool → Bool → Bool → Result Target BusRefusal
by_tests_lem fit lent rom ram bad =
    first_no Err
    (no (not fit) Unfit ∷ no (not lent) WrongLength ∷ no (not (either rom ram)) BadAddress ∷ no bad BadSelection ∷ [])
    (pick rom (Ok Rom) (Ok Ram))

module _ (fit lent : Bool) (addr : ℕ) (bad : Bool) where
  pub decided : {f l i r b : Bool} → fit ≡ f → lent ≡ l → in_rom addr ≡ i → in_ram addr ≡ r → bad ≡ b
      → by_tests_lem f l i r b ≡ verdict_by addr (noes_by fit lent addr bad)
  decided p q s t u = rw (p, q, s, t, u)

module _ (c : Cartridge) (lent : Bool) (addr : ℕ) (bad : Bool) where
  pub by_tests : {f l i r b : Bool} → fit_cart c ≡ f → lent ≡ l → in_rom addr ≡ i → in_ram addr ≡ r → bad ≡ b
      → by_tests_lem f l i r b ≡ verdict_of c lent addr bad
  unfolding verdict_of noes
  by_tests = decided (fit_cart c) lent addr bad

  -- a fit state, lent its own: a window, 15 or 16
  module _ (f : fit_cart c ≡ true) (l : lent ≡ true) where
    pub window_given : either (in_rom addr) (in_ram addr) ≡ true → bad ≡ false → verdict_of c lent addr bad ≡ pick (in_rom addr) (Ok Rom) (Ok Ram)
    unfolding verdict_of noes
    window_given w b = rw (f, l, w, b) refl

    pub fifteen_given : either (in_rom addr) (in_ram addr) ≡ false → verdict_of c lent addr bad ≡ Err BadAddress
    unfolding verdict_of noes
    fifteen_given w = rw (f, l, w) refl

    pub sixteen_given : either (in_rom addr) (in_ram addr) ≡ true → bad ≡ true → verdict_of c lent addr bad ≡ Err BadSelection
    unfolding verdict_of noes
    sixteen_given w b = rw (f, l, w, b) refl

  -- an access that is not refused
  abbrev taken : Result Target BusRefusal → Bool
  taken (Ok Rom) = true
  taken (Ok Ram) = true
  taken (Err w) = false

  none : (v : Result Target BusRefusal) → verdict_of c lent addr bad ≡ v → taken v ≡ true → any_no (noes c lent addr bad) ≡ false
  unfolding verdict_of
  none v e t = none_if taken Err (λ w. refl) (noes c lent addr bad) (pick (in_rom addr) (Ok Rom) (Ok Ram)) (ap taken e ∙ t)

  pub taken_fit : (v : Result Target BusRefusal) → verdict_of c lent addr bad ≡ v → taken v ≡ true → fit_cart c ≡ true
  unfolding noes
  taken_fit v e t = not_false _ (none_at (noes c lent addr bad) 0 (no false Unfit) refl (none v e t))

  pub taken_lent : (v : Result Target BusRefusal) → verdict_of c lent addr bad ≡ v → taken v ≡ true → lent ≡ true
  unfolding noes
  taken_lent v e t = not_false _ (none_at (noes c lent addr bad) 1 (no false Unfit) refl (none v e t))
