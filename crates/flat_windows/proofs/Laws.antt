-- The windows of the bytes are those of the state: the RAM window kind by kind, and all three of bytes that are fit.
use Rattle.std.specs.Prelude.{Some, None, Option}
use mathlib.Core.Bool.{Bool, true, false, not}
use mathlib.Core.List.{List}
use mathlib.Core.Path.{◌≡◌, sym, ap, ◌∙◌}
use Prim.Native.Nat.{ℕ, ◌≤◌}
use Rattle.facts.specs.Choice.{pick}
use Rattle.banking.specs.Banks.{Inside}
use Rattle.bytes_le.specs.Little.{field_at}
use Rattle.mbc3.specs.Registers as mbc3
use Rattle.mbc3.specs.declared.Mbc3 as mbc3-state
use Rattle.mapper.specs.declared.Mapper.{Mapper}
use Rattle.mapper.specs.declared.Mapper.TheVariants.{Mbc3}
use Rattle.window.specs.Window.{way_of}
use Rattle.window.specs.declared.Way.{Way}
use Rattle.cartridge.specs.Fit.{fit_cart}
use Rattle.states.specs.Reading.{decode_of, mapper_at, cart_at}
use Rattle.states.specs.OnState.{on_state}
use Rattle.flat.specs.Kinds.{fit_at}
use Rattle.states.proofs.Laws.{of_kind}
use Rattle.flat.proofs.Laws.{selected_bytes, unfit_call, fit_cart_lem, fit_call}
use Rattle.windows.specs.Windows.{bytes_at, by_way, ram_at, windows_by, windows_of, Stands, ask_of}
use Rattle.windows.specs.declared.RamWindow.{RamWindow}
use Rattle.windows.specs.declared.Windows.{Windows}
use Rattle.windows.proofs.Laws.{way_small, way_shown, fit_stands}

-- ---- the RAM window

-- an MBC3 of either kind whose RAM is selected
module _ (m : mbc3-state.Mbc3) (size : ℕ) (e : m.memory ≡ true) {place : Option ℕ} (p : place ≡ mbc3.ram_at m size 0xA000) where
  pub selected_small : size ≤ 0x20000 → Inside place 0x20200
  selected_small h = way_small (Mbc3 m) size 0xA000 h (selected_bytes m size 0xA000 e p)

  pub selected_shown : {r : RamWindow} → r ≡ bytes_at place size → r ≡ ram_at (Mbc3 m) size
  selected_shown = way_shown (Mbc3 m) size (selected_bytes m size 0xA000 e p)

pub kind_shown : (s : List ℕ) (size : ℕ) {kind k : ℕ} {m : Mapper} {w : Way} {r : RamWindow} → kind ≡ k → m ≡ mapper_at s k
    → w ≡ way_of m size 0xA000 → r ≡ by_way w size
    → r ≡ ram_at (mapper_at s kind) size
kind_shown s size {m = m} e p q r = of_kind (λ (i : Mapper). ram_at i size) s e p (way_shown m size q r)

-- ---- the three windows

module _ (s : List ℕ) {k : ℕ} {f : Bool} (p : k ≡ field_at 1 s 0) (q : f ≡ fit_at s k) where
  asked : {b : Bool} → fit_cart (cart_at s k) ≡ b → pick b (Some (windows_of (cart_at s k))) None ≡ ask_of (cart_at s k)
  unfolding ask_of
  asked e = ap (λ (b : Bool). pick b (Some (windows_of (cart_at s k))) None) (sym e)

  pub unfit_asked : not f ≡ true → None ≡ on_state ask_of None (decode_of s)
  unfit_asked = unfit_call s p q ask_of None asked

  module _ (h : not f ≡ false) {n z : ℕ} (a : n ≡ field_at 2 s 8) (b : z ≡ field_at 8 s 24) where
    pub bytes_stand : Stands n z (mapper_at s k)
    bytes_stand = rw (a, b) (fit_stands (cart_at s k) (fit_cart_lem s p q h))

    pub fit_asked : {w : Windows} → w ≡ windows_by n z (mapper_at s k) → Some w ≡ on_state ask_of None (decode_of s)
    fit_asked e = ap Some (e ∙ rw (a, b)) ∙ asked (fit_cart_lem s p q h) ∙ fit_call s p q h ask_of None
