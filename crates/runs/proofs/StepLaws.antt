-- An access to a fit cartridge that is lent its own: what it is answered in the windows, and the numbers outside them.
use Rattle.std.specs.Prelude.{Ok, Result}
use mathlib.Core.Bool.{true, false}
use mathlib.Core.List.{List}
use mathlib.Core.Path.{◌≡◌, refl, ap}
use Prim.Native.Nat.{ℕ}
use lib.ListN.{length}
use borrow.Author.Tests.{eq-eqb}
use Rattle.facts.specs.Choice.{pick, either}
use Rattle.facts.proofs.ChoiceLaws.{both_true}
use Rattle.mapper.specs.Mappers as mapper
use Rattle.cartridge.specs.With.{with_mapper}
use Rattle.access.specs.Verdict.{in_rom, in_ram}
use Rattle.access.proofs.Laws.{window_given, fifteen_given, sixteen_given}
use Rattle.access.specs.declared.Target.{Target}
use Rattle.access.specs.declared.BusRefusal.{BusRefusal}
use Rattle.access.specs.declared.Target.TheVariants.{Rom, Ram}
use Rattle.bus.specs.Bus.{lent_both, read_verdict, write_verdict, read_by, read_of, write_by, write_of, area_by, area_after}
use Rattle.bus.specs.Advance.{advance_of}
use Rattle.bus.specs.Run.{Machine, Left, reads, writes, clocks, refused, after_read, after_write, after_clocks, step_of, Ready}

module _ {image : List ℕ} {m : Machine} (r : Ready image m) where
  lent : lent_both m.cart (length image) (length m.area) ≡ true
  lent = both_true (eq-eqb _ _ r.image) (eq-eqb _ _ r.area)

  -- a read, by its verdict,
  read_by_lem : (addr : ℕ) {v : Result Target BusRefusal} → read_verdict m.cart image m.area addr ≡ v
      → step_of image m (reads addr) ≡ after_read m (read_by m.cart image m.area addr v)
  unfolding read_of
  read_by_lem addr e = ap (λ (v : Result Target BusRefusal). after_read m (read_by m.cart image m.area addr v)) e

  pub read_step : (addr : ℕ) → either (in_rom addr) (in_ram addr) ≡ true
      → step_of image m (reads addr) ≡ after_read m (read_by m.cart image m.area addr (pick (in_rom addr) (Ok Rom) (Ok Ram)))
  unfolding read_verdict
  read_step addr w = read_by_lem addr (window_given m.cart _ addr false r.fit lent w refl)

  pub outside_read_lem : (addr : ℕ) → either (in_rom addr) (in_ram addr) ≡ false → (step_of image m (reads addr)).answer ≡ refused 15
  unfolding read_verdict
  outside_read_lem addr w =
      ap (λ (x : Left). x.answer) (read_by_lem addr (fifteen_given m.cart _ addr false r.fit lent w))

  -- and a write
  module _ (addr byte : ℕ) where
    write_by_lem : {v : Result Target BusRefusal} → write_verdict m.cart m.area addr byte ≡ v
        → step_of image m (writes addr byte)
        ≡ after_write m (write_by m.cart addr byte v) (area_by m.cart m.area addr byte v)
    unfolding write_of area_after
    write_by_lem e =
        ap (λ (v : Result Target BusRefusal). after_write m (write_by m.cart addr byte v) (area_by m.cart m.area addr byte v)) e

    pub write_step : either (in_rom addr) (in_ram addr) ≡ true → mapper.bad_selection m.cart.mapper addr byte ≡ false
        → step_of image m (writes addr byte)
        ≡ after_write m (write_by m.cart addr byte (pick (in_rom addr) (Ok Rom) (Ok Ram)))
        (area_by m.cart m.area addr byte (pick (in_rom addr) (Ok Rom) (Ok Ram)))
    unfolding write_verdict
    write_step w b = write_by_lem (window_given m.cart _ addr _ r.fit (eq-eqb _ _ r.area) w b)

    pub outside_write : either (in_rom addr) (in_ram addr) ≡ false → (step_of image m (writes addr byte)).answer ≡ refused 15
    unfolding write_verdict
    outside_write w =
        ap (λ (x : Left). x.answer) (write_by_lem (fifteen_given m.cart _ addr _ r.fit (eq-eqb _ _ r.area) w))

    pub bad_write : either (in_rom addr) (in_ram addr) ≡ true → mapper.bad_selection m.cart.mapper addr byte ≡ true
        → (step_of image m (writes addr byte)).answer ≡ refused 16
    unfolding write_verdict
    bad_write w b =
        ap (λ (x : Left). x.answer) (write_by_lem (sixteen_given m.cart _ addr _ r.fit (eq-eqb _ _ r.area) w b))

  -- clocks
  pub clock_step : (n : ℕ) → mapper.late m.cart.mapper n ≡ false
      → step_of image m (clocks n) ≡ after_clocks m (Ok (with_mapper m.cart (mapper.clocks_on m.cart.mapper n)))
  unfolding advance_of
  clock_step n e = rw (r.fit, e)

  pub late_answer : (n : ℕ) → mapper.late m.cart.mapper n ≡ true → (step_of image m (clocks n)).answer ≡ refused 17
  unfolding advance_of
  late_answer n e = rw (r.fit, e) refl
