-- The answers by the verdict, and of an advance by what it tests.
use Rattle.std.specs.Prelude.{Ok, Err, Result}
use mathlib.Core.Bool.{Bool, true, false, not}
use mathlib.Core.List.{List, [], ◌∷◌}
use mathlib.Core.Path.{◌≡◌, refl, sym, ap, ◌∙◌}
use Prim.Native.Nat.{ℕ}
use lib.Dec.{eqb}
use lib.ListN.{length}
use borrow.Author.Tests.{eqb-true}
use Rattle.facts.specs.Choice.{both}
use Rattle.facts.specs.Refusals.{no, first_no}
use Rattle.facts.proofs.ChoiceLaws.{both_right}
use Rattle.facts.proofs.RefusalLaws.{first_map}
use Rattle.clock.specs.declared.AdvanceRefusal.TheVariants as advance
use Rattle.clock.specs.declared.AdvanceRefusal.{AdvanceRefusal}
use Rattle.mapper.specs.Mappers as mapper
use Rattle.cartridge.specs.Fit.{fit_board, fit_cart, area_of}
use Rattle.cartridge.specs.declared.Cartridge.{Cartridge}
use Rattle.access.specs.Verdict.{verdict_of}
use Rattle.access.proofs.Laws.{taken_fit, taken_lent}
use Rattle.access.specs.declared.Target.{Target}
use Rattle.access.specs.declared.BusRefusal.{BusRefusal}
use Rattle.access.specs.declared.Target.TheVariants.{Rom, Ram}
use Rattle.cartridge.specs.With.{with_mapper}
use Rattle.bus.specs.Bus.{lent_area, read_verdict, write_verdict, read_by, read_of, write_by, area_by, write_of, area_after}
use Rattle.bus.specs.Advance.{advance_of, from_mapper}

-- ---- a read

module _ (c : Cartridge) (addr : ℕ) (rom ram : List ℕ) {lent a : Bool} {v : Result Target BusRefusal} (p : a ≡ eqb (length ram) (area_of c))
    (q : lent ≡ both (eqb (length rom) c.length) a) (e : v ≡ verdict_of c lent addr false) where
  pub read_answered : {u : Result Target BusRefusal} → v ≡ u → read_by c rom ram addr u ≡ read_of c rom ram addr
  unfolding read_of read_verdict
  read_answered g =
      ap (read_by c rom ram addr)
      (sym g ∙ e ∙ ap (λ (t : Bool). verdict_of c t addr false) (q ∙ ap (both (eqb (length rom) c.length)) p))

  pub read_fit : v ≡ (Ok Rom) → fit_cart c ≡ true
  read_fit g = taken_fit c lent addr false (Ok Rom) (sym e ∙ g) refl

  pub read_area : v ≡ (Ok Ram) → length ram ≡ area_of c
  read_area g =
      eqb-true (length ram) (area_of c)
      (sym p
      ∙ both_right (eqb (length rom) c.length) a (sym q ∙ taken_lent c lent addr false (Ok Ram) (sym e ∙ g) refl))

-- ---- a write

module _ (c : Cartridge) (addr byte : ℕ) (ram : List ℕ) {lent bad : Bool} {v : Result Target BusRefusal} (p : lent ≡ eqb (length ram) (area_of c))
    (q : bad ≡ mapper.bad_selection c.mapper addr byte) (e : v ≡ verdict_of c lent addr bad) where
  judged : {u : Result Target BusRefusal} → v ≡ u → u ≡ write_verdict c ram addr byte
  unfolding write_verdict
  judged g = sym g ∙ e ∙ ap (λ (t : Bool). verdict_of c t addr bad) p ∙ ap (verdict_of c (lent_area c (length ram)) addr) q

  pub write_answered : {u : Result Target BusRefusal} → v ≡ u → write_by c addr byte u ≡ write_of c ram addr byte
  unfolding write_of
  write_answered g = ap (write_by c addr byte) (judged g)

  pub area_answered : {u : Result Target BusRefusal} → v ≡ u → area_by c ram addr byte u ≡ area_after c ram addr byte
  unfolding area_after
  area_answered g = ap (area_by c ram addr byte) (judged g)

  pub write_area : v ≡ (Ok Ram) → length ram ≡ area_of c
  write_area g = eqb-true (length ram) (area_of c) (sym p ∙ taken_lent c lent addr bad (Ok Ram) (sym e ∙ g) refl)

-- ---- an advance

module _ (c : Cartridge) (n : ℕ) where
  -- the answer by whether what was mounted is fit
  abbrev by : Bool → Result Cartridge AdvanceRefusal
  by b =
      first_no Err
      (no (not (both b (mapper.fit_registers c.mapper))) advance.Unfit ∷ no (mapper.late c.mapper n) advance.Late ∷ [])
      (Ok (with_mapper c (mapper.clocks_on c.mapper n)))

  split : {b : Bool} → fit_board c ≡ b → by b ≡ advance_of c n
  unfolding advance_of fit_cart
  split p = ap by (sym p)

  -- an unfit cartridge is refused with 13
  pub unfit_answer : fit_cart c ≡ false → Err advance.Unfit ≡ advance_of c n
  unfolding advance_of
  unfit_answer f = rw f refl

  pub board_answer : fit_board c ≡ false → Err advance.Unfit ≡ advance_of c n
  board_answer p = split p

  pub mapper_answer : fit_board c ≡ true → from_mapper c (mapper.advance_of c.mapper n) ≡ advance_of c n
  unfolding mapper.advance_of
  mapper_answer p =
      first_map (from_mapper c) Err
      (no (not (mapper.fit_registers c.mapper)) advance.Unfit ∷ no (mapper.late c.mapper n) advance.Late ∷ [])
      (Ok (mapper.clocks_on c.mapper n))
      ∙ split p
