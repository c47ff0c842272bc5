-- What the tests of the code say of the definitions: the selection's nibble, fitness.
use mathlib.Core.Bool.{Bool, true, false, not}
use mathlib.Core.Path.{◌≡◌, refl, sym, ap, ◌∙◌}
use Prim.Native.Nat.{ℕ, ◌%◌, ◌<◌, ◌≤◌}
use native.Mathlib.Omega.{arith}
use lib.Bits.{bit_and, and_mask}
use lib.Dec.{leb}
use borrow.Author.Tests.{le-leb, lt-leb}
use Rattle.facts.specs.Choice.{both, either}
use Rattle.facts.proofs.ChoiceLaws.{both_true, both_false, not_false}
use Rattle.clock.specs.Fit.{fit_clock}
use Rattle.mbc3.specs.Registers.{for_ram, for_clock, selectable, bad_selection, fit_registers}
use Rattle.mbc3.specs.declared.Mbc3.{Mbc3}

-- ---- the selection's nibble

pub for_ram_lem : (byte : ℕ) → bit_and byte 15 < 4 → for_ram byte ≡ true
for_ram_lem byte h = le-leb (byte % 16) 3 (omega (arith, and_mask byte 4))

pub not_for_ram : (byte : ℕ) → 4 ≤ bit_and byte 15 → for_ram byte ≡ false
not_for_ram byte h = lt-leb (byte % 16) 3 (omega (arith, and_mask byte 4))

pub for_clock_lem : (byte : ℕ) → 8 ≤ bit_and byte 15 → bit_and byte 15 < 13 → for_clock byte ≡ true
for_clock_lem byte l h =
    both_true (le-leb 8 (byte % 16) (omega (arith, and_mask byte 4))) (le-leb (byte % 16) 12 (omega (arith, and_mask byte 4)))

pub below_clock : (byte : ℕ) → bit_and byte 15 < 8 → for_clock byte ≡ false
below_clock byte h =
    ap (λ (t : Bool). both t (leb (byte % 16) 12)) (lt-leb 8 (byte % 16) (omega (arith, and_mask byte 4)))

pub above_clock : (byte : ℕ) → 13 ≤ bit_and byte 15 → for_clock byte ≡ false
above_clock byte h =
    ap (both (leb 8 (byte % 16))) (lt-leb (byte % 16) 12 (omega (arith, and_mask byte 4))) ∙ both_false (leb 8 (byte % 16))

-- what a write selects that 16 does not refuse
pub good_selection : (addr byte : ℕ) → bad_selection addr byte ≡ false → both (leb 0x4000 addr) (leb addr 0x5FFF) ≡ true
    → selectable byte ≡ true
good_selection addr byte e h = not_false (selectable byte) (ap (λ (t : Bool). both t (not (selectable byte))) (sym h) ∙ e)

-- ---- fitness, as the code tests it: eight bits are at most 255

banks_tested : (a d : Bool) (n : ℕ) → n < 256 → both a d ≡ both (both a (leb n 255)) d
banks_tested true d n h = ap (λ (t : Bool). both t d) (sym (le-leb n 255 (omega arith)))
banks_tested false d n h = refl

joined : {a b d x y z : Bool} → a ≡ x → b ≡ y → d ≡ z → both a (either (not b) d) ≡ both x (either (not y) z)
joined p q r = rw (p, q, r)

pub fit_tested : (m : Mbc3) (b : Bool) {r x y : Bool} → m.bank < 256 → m.timer ≡ b
    → x ≡ both (leb 1 m.bank) (leb m.ram 3) → y ≡ both (leb m.register 4) (fit_clock m.clock)
    → r ≡ both x (either (not b) y) → r ≡ fit_registers m
unfolding fit_registers
fit_tested m b l q p s e =
    e ∙ joined (p ∙ banks_tested (leb 1 m.bank) (leb m.ram 3) m.bank l) (sym q) s
