-- A fit cartridge's numbers are within their widths, but for a clock's time, of which fitness says nothing.
use mathlib.Core.Bool.{Bool, true, false, not}
use mathlib.Core.Path.{◌≡◌, refl, sym, ap, ◌∙◌}
use Prim.Native.Nat.{ℕ, ◌*◌, ◌^◌, ◌<◌, ◌≤◌}
use native.Mathlib.Omega.{arith}
use lib.Dec.{eqb, leb}
use borrow.Author.Tests.{leb-true, eqb-true}
use Rattle.facts.specs.Choice.{both, either}
use Rattle.facts.specs.Listed.{one_of}
use Rattle.facts.proofs.ChoiceLaws.{both_parts, both_left, both_right}
use Rattle.facts.proofs.ListLaws.{one_of_le}
use Rattle.banking.specs.Banks.{from_one}
use Rattle.image.specs.Image.{padded_length}
use Rattle.header.specs.Size.{ram_sizes}
use Rattle.clock_registers.specs.Fit as fit-clock-registers
use Rattle.clock_registers.proofs.FitLaws as registers
use Rattle.clock_registers.specs.declared.Registers.{Registers}
use Rattle.clock.specs.Fit.{fit_clock}
use Rattle.clock.proofs.FitLaws.{fit_parts}
use Rattle.mbc1.proofs.Laws as mbc1-laws
use Rattle.mbc2.specs.Registers as mbc2
use Rattle.mbc3.specs.Registers as mbc3
use Rattle.mbc5.specs.Registers as mbc5
use Rattle.mapper.specs.Mappers as mapper
use Rattle.mapper.specs.declared.Mapper.{Mapper}
use Rattle.mapper.specs.declared.Mapper.TheVariants.{NoMapper, Mbc1, Mbc2, Mbc3, Mbc5}
use Rattle.cartridge.specs.Fit.{bank_counts, fit_cart, fit_board, InTime}
use Rattle.cartridge.proofs.Laws.{fit_board_lem, fit_padded, fit_registers_lem}
use Rattle.cartridge.specs.declared.Cartridge.{Cartridge}
use Rattle.states.specs.Widths.{RegisterWidths, TimerWidths, MapperWidths, Widths}

register_widths : (r : Registers) → fit-clock-registers.fit_registers r ≡ true → RegisterWidths r
register_widths r e =
    let f = registers.fit_bounds r e in
    let s = f.second in
    let m = f.minute in
    let h = f.hour in
    let d = f.day in
    record { second = omega arith; minute = omega arith; hour = omega arith; day = omega arith }

low_width : (t : Bool) (n : ℕ) → n < 2 ^ mbc1-laws.low_bits t → n < 256
low_width true n l = omega arith
low_width false n l = omega arith

mapper_widths : (m : Mapper) → mapper.fit_registers m ≡ true → InTime m → MapperWidths m
unfolding mbc2.fit_registers mbc3.fit_registers mbc5.fit_registers
mapper_widths (NoMapper m) e t = tt
mapper_widths (Mbc1 m) e t =
    let f = mbc1-laws.fit_bounds m e in
    let two = f.two in
    (low_width m.multicart m.low f.low, omega arith)
mapper_widths (Mbc2 m) e t = let h = leb-true m.bank 15 (both_right (leb 1 m.bank) (leb m.bank 15) e) in omega arith
mapper_widths (Mbc3 m) e t =
    let p = both_parts (both (from_one 255 m.bank) (leb m.ram 3)) _ e in
    let q = both_parts (from_one 255 m.bank) (leb m.ram 3) p.0 in
    let b = leb-true m.bank 255 (both_right (leb 1 m.bank) (leb m.bank 255) q.0) in
    let r = leb-true m.ram 3 q.1 in
    record {
      bank = omega arith;
      ram = omega arith;
      timed = λ u. timer (ap (λ (x : Bool). either (not x) (both (leb m.register 4) (fit_clock m.clock))) (sym u) ∙ p.1) (t u);
    }
  where
    timer : both (leb m.register 4) (fit_clock m.clock) ≡ true → m.clock.time < 2 ^ 64 → TimerWidths m
    timer f l =
        let g = both_parts (leb m.register 4) (fit_clock m.clock) f in
        let k = fit_parts m.clock g.1 in
        let n = leb-true m.register 4 g.0 in
        let s = k.sub in
        record {
          register = omega arith;
          running = register_widths m.clock.running k.running;
          sub = omega arith;
          time = l;
          frozen = register_widths m.clock.frozen k.frozen;
        }
mapper_widths (Mbc5 m) e t =
    let p = both_parts (leb m.bank 511) (leb m.ram 15) e in
    let b = leb-true m.bank 511 p.0 in
    let r = leb-true m.ram 15 p.1 in
    (omega arith, omega arith)

padded_length_lem : (n : ℕ) → n ≤ padded_length n
unfolding padded_length
padded_length_lem n = omega arith

firsts : (a b x y : Bool) → both (both a b) (both x y) ≡ true → (a ≡ true) × (x ≡ true)
firsts a b x y e = (both_left a b (both_left (both a b) (both x y) e), both_left x y (both_right (both a b) (both x y) e))

pub widths : (c : Cartridge) → fit_cart c ≡ true → InTime c.mapper → Widths c
unfolding fit_board
widths c e t =
    let b =
    firsts (one_of c.banks bank_counts) (eqb (padded_length c.length) (c.banks * 0x4000)) (one_of c.size ram_sizes)
    (mapper.holds c.mapper c.banks c.size) (fit_board_lem c e) in
    let n = one_of_le 512 c.banks bank_counts refl b.0 in
    let s = one_of_le 0x20000 c.size ram_sizes refl b.1 in
    let p = eqb-true (padded_length c.length) (c.banks * 0x4000) (fit_padded c e) in
    record {
      length = omega (arith, padded_length_lem c.length, p, n);
      banks = omega arith;
      size = omega arith;
      mapper = mapper_widths c.mapper (fit_registers_lem c e) t;
    }
