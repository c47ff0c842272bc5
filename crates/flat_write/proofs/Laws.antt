-- A write to a state's bytes, and clocks that pass on them, are the bus's on what the bytes are.
use Rattle.std.specs.Prelude.{Ok, Err, Result}
use mathlib.Core.Bool.{Bool, true, false, not}
use mathlib.Core.List.{List, [], ◌∷◌}
use mathlib.Core.Path.{◌≡◌, refl, sym, ap, ◌∙◌}
use Prim.Native.Nat.{ℕ, ◌<◌, ◌≤◌}
use native.Mathlib.Omega.{arith}
use lib.Dec.{eqb}
use lib.ListN.{length}
use Rattle.facts.specs.Choice.{pick, both}
use Rattle.facts.specs.Refusals.{no, first_no}
use Rattle.facts.proofs.ChoiceLaws.{pick_has}
use Rattle.bytes_le.specs.Little.{field_at}
use Rattle.clock.specs.Ticking.{late}
use Rattle.clock.specs.declared.AdvanceRefusal.TheVariants as advance
use Rattle.clock.specs.declared.AdvanceRefusal.{AdvanceRefusal}
use Rattle.mbc3.specs.Registers as mbc3
use Rattle.mbc3.specs.declared.Mbc3 as mbc3-state
use Rattle.timer.specs.Advance as timer
use Rattle.mapper.specs.Mappers as mapper
use Rattle.mapper.specs.declared.Mapper.{Mapper}
use Rattle.mapper.specs.declared.Mapper.TheVariants.{NoMapper, Mbc1, Mbc2, Mbc3, Mbc5}
use Rattle.window.specs.Window as window
use Rattle.cartridge.specs.Fit.{fit_cart, area_of}
use Rattle.cartridge.specs.declared.Cartridge.{Cartridge}
use Rattle.cartridge.specs.With.{with_mapper}
use Rattle.cartridge.proofs.Laws.{fit_board_lem}
use Rattle.access.specs.Verdict.{noes_by, verdict_by, verdict_of}
use Rattle.access.specs.declared.BusRefusal.{BusRefusal}
use Rattle.access.specs.declared.BusRefusal.TheVariants.{Unfit}
use Rattle.access.proofs.Laws.{by_tests}
use Rattle.access.specs.declared.Target.{Target}
use Rattle.access.specs.declared.Target.TheVariants.{Rom, Ram}
use Rattle.bus.specs.Bus.{write_verdict, write_by, area_by, write_of, area_after}
use Rattle.bus.specs.Advance.{advance_of, from_mapper}
use Rattle.bus.proofs.Laws.{write_answered, area_answered, write_area, unfit_answer, mapper_answer}
use Rattle.states.specs.Layout.{encode_of}
use Rattle.states.specs.Reading.{cart_in, mapper_at, cart_at}
use Rattle.flat.specs.Kinds.{fit_at}
use Rattle.states.proofs.Laws.{every_kind, of_kind}
use Rattle.flat.proofs.Laws.{area_at, unfit_call, fit_cart_lem, fit_call, fit_judged}
use Rattle.flat_write.specs.Calls.{wrote_by, write_state, wrote_of, state_written, area_written, passed_by, timed, advance_state, passed_of, state_advanced}

-- ---- a write to the registers, by the kind

-- kinds 4 and 5 are the MBC3's
pub selection_at : (s : List ℕ) (k addr byte : ℕ) → 4 ≤ k → k < 6 → mbc3.bad_selection addr byte ≡ mapper.bad_selection (mapper_at s k) addr byte
selection_at s k addr byte =
    every_kind s (λ (k : ℕ) (m : Mapper). 4 ≤ k → k < 6 → mbc3.bad_selection addr byte ≡ mapper.bad_selection m addr byte)
    (λ l h. absurd (omega arith)) (λ l h. absurd (omega arith)) (λ l h. absurd (omega arith)) (λ l h. absurd (omega arith))
    (λ l h. refl) (λ l h. refl) (λ l h. absurd (omega arith)) (λ k l h. absurd (omega arith)) k

pub no_selection : (s : List ℕ) (k addr byte : ℕ) → (4 ≤ k → 6 ≤ k) → false ≡ mapper.bad_selection (mapper_at s k) addr byte
no_selection s k addr byte =
    every_kind s (λ (k : ℕ) (m : Mapper). (4 ≤ k → 6 ≤ k) → false ≡ mapper.bad_selection m addr byte) (λ h. refl) (λ h. refl) (λ h. refl)
    (λ h. refl) (λ h. absurd (omega (arith, h (omega arith)))) (λ h. absurd (omega (arith, h (omega arith)))) (λ h. refl) (λ k h. refl) k

pub register_at : (s : List ℕ) (addr byte : ℕ) {kind k : ℕ} {m n : Mapper} {t : List ℕ} → kind ≡ k → m ≡ mapper_at s k
    → n ≡ mapper.written m addr byte → t ≡ encode_of (cart_in s n)
    → t ≡ encode_of (cart_in s (mapper.written (mapper_at s kind) addr byte))
register_at s addr byte e p d h =
    of_kind (λ (i : Mapper). encode_of (cart_in s (mapper.written i addr byte))) s e p
    (h ∙ ap (λ (i : Mapper). encode_of (cart_in s i)) d)

-- ---- a write to a fit state, by the verdict

module _ (s ram : List ℕ) (addr byte kind : ℕ) {lent bad : Bool} {v : Result Target BusRefusal} (f : fit_cart (cart_at s kind) ≡ true)
    (p : lent ≡ eqb (length ram) (area_of (cart_at s kind))) (q : bad ≡ mapper.bad_selection (mapper_at s kind) addr byte)
    (e : v ≡ verdict_by addr (noes_by true lent addr bad)) where
  abbrev cart : Cartridge
  cart = cart_at s kind

  judged : v ≡ verdict_of cart lent addr bad
  judged = fit_judged cart addr lent bad f e

  pub area_lent : {m : Mapper} {z : ℕ} → v ≡ (Ok Ram) → m ≡ mapper_at s kind → z ≡ field_at 8 s 24 → length ram ≡ mapper.area_of m z
  area_lent g d h = area_at s {kind = kind} refl d h (write_area cart addr byte ram p q judged g)

  -- the answer, and what is left of the state and the area
  abbrev Left : Result (Unit {0}) BusRefusal → List ℕ → List ℕ → Type 0
  Left r t a =
      (r ≡ wrote_by (write_of cart ram addr byte))
      × ((t ≡ write_state s (write_of cart ram addr byte)) × (a ≡ area_after cart ram addr byte))

  left : {u : Result Target BusRefusal} {r : Result (Unit {0}) BusRefusal} {t a : List ℕ} → v ≡ u → r ≡ wrote_by (write_by cart addr byte u)
      → t ≡ write_state s (write_by cart addr byte u) → a ≡ area_by cart ram addr byte u
      → Left r t a
  left g x y w =
      let answer = write_answered cart addr byte ram p q judged g in (
        x ∙ ap wrote_by answer,
        (y ∙ ap (write_state s) answer, w ∙ area_answered cart addr byte ram p q judged g),
      )

  pub rom_left : {t : List ℕ} → v ≡ (Ok Rom) → t ≡ encode_of (cart_in s (mapper.written (mapper_at s kind) addr byte)) → Left (Ok tt) t ram
  rom_left g h = left g refl h refl

  pub ram_left : {m n : Mapper} {z : ℕ} {t a : List ℕ} → v ≡ (Ok Ram) → m ≡ mapper_at s kind → z ≡ field_at 8 s 24
      → n ≡ window.mapper_after m z addr byte → t ≡ encode_of (cart_in s n) → a ≡ window.area_after m z ram addr byte
      → Left (Ok tt) t a
  ram_left {z = z} g x y d h w =
      left g refl
      (h
      ∙ ap (λ (i : Mapper). encode_of (cart_in s i))
      (d ∙ ap (λ (i : Mapper). window.mapper_after i z addr byte) x
      ∙ ap (λ (i : ℕ). window.mapper_after (mapper_at s kind) i addr byte) y))
      (w ∙ ap (λ (i : Mapper). window.area_after i z ram addr byte) x
      ∙ ap (λ (i : ℕ). window.area_after (mapper_at s kind) i ram addr byte) y)

  pub refused_left : {w : BusRefusal} → v ≡ Err w → Left (Err w) s ram
  refused_left g = left g refl refl refl

-- ---- a write to any bytes

unfit_verdict : (c : Cartridge) (ram : List ℕ) (addr byte : ℕ) → fit_cart c ≡ false → Err Unfit ≡ write_verdict c ram addr byte
unfolding write_verdict
unfit_verdict c ram addr byte e = by_tests c _ addr _ e refl refl refl refl

module _ (s ram : List ℕ) (addr byte : ℕ) {k : ℕ} {f : Bool} (p : k ≡ field_at 1 s 0) (q : f ≡ fit_at s k) where
  abbrev Written : Result (Unit {0}) BusRefusal → List ℕ → List ℕ → Type 0
  Written r t a =
      (r ≡ wrote_of s ram addr byte) × ((t ≡ state_written s ram addr byte) × (a ≡ area_written s ram addr byte))

  pub unfit_written : not f ≡ true → Written (Err Unfit) s ram
  unfolding wrote_of state_written area_written write_of area_after
  unfit_written h =
      let x = cart_at s k in (
        unfit_call s p q (λ c. wrote_by (write_of c ram addr byte)) (Err Unfit)
            (λ e. ap (λ (v : Result Target BusRefusal). wrote_by (write_by x addr byte v)) (unfit_verdict x ram addr byte e)) h,
        (
          unfit_call s p q (λ c. write_state s (write_of c ram addr byte)) s
              (λ e. ap (λ (v : Result Target BusRefusal). write_state s (write_by x addr byte v)) (unfit_verdict x ram addr byte e)) h,
          unfit_call s p q (λ c. area_after c ram addr byte) ram
              (λ e. ap (area_by x ram addr byte) (unfit_verdict x ram addr byte e)) h,
        ),
      )

  pub fit_written : not f ≡ false → {r : Result (Unit {0}) BusRefusal} {t a : List ℕ}
      → (r ≡ wrote_by (write_of (cart_at s k) ram addr byte))
      × ((t ≡ write_state s (write_of (cart_at s k) ram addr byte)) × (a ≡ area_after (cart_at s k) ram addr byte))
      → Written r t a
  unfolding wrote_of state_written area_written
  fit_written h e = (
    e.0 ∙ fit_call s p q h (λ c. wrote_by (write_of c ram addr byte)) (Err Unfit),
    (
      e.1.0 ∙ fit_call s p q h (λ c. write_state s (write_of c ram addr byte)) s,
      e.1.1 ∙ fit_call s p q h (λ c. area_after c ram addr byte) ram,
    ),
  )

-- ---- whether there is a timer

pub timed_at : (s : List ℕ) {k : ℕ} {m : Mapper} → k ≡ 5 → m ≡ mapper_at s k → timed m ≡ true
unfolding mapper_at
timed_at s e g = ap timed g ∙ ap (λ (i : ℕ). timed (mapper_at s i)) e

pub untimed_at : (s : List ℕ) (k : ℕ) → (k ≡ 5 → ⊥) → timed (mapper_at s k) ≡ false
untimed_at s =
    every_kind s (λ (k : ℕ) (m : Mapper). (k ≡ 5 → ⊥) → timed m ≡ false) (λ h. refl) (λ h. refl) (λ h. refl) (λ h. refl) (λ h. refl)
    (λ h. absurd (h refl)) (λ h. refl) (λ k h. refl)

-- it stays where clocks pass
pub timed_on : (m : Mapper) (n : ℕ) → timed (mapper.clocks_on m n) ≡ timed m
unfolding timer.clocks_on
timed_on (NoMapper m) n = refl
timed_on (Mbc1 m) n = refl
timed_on (Mbc2 m) n = refl
timed_on (Mbc3 m) n = pick_has (λ (x : mbc3-state.Mbc3). x.timer ≡ m.timer) m.timer refl refl
timed_on (Mbc5 m) n = refl

abbrev timed_by : Result Mapper AdvanceRefusal → Bool
timed_by (Ok m) = timed m
timed_by (Err w) = true

pub timed_after : (m : Mapper) (n : ℕ) {next : Mapper} → Ok next ≡ mapper.advance_of m n → timed m ≡ true → timed next ≡ true
unfolding mapper.advance_of
timed_after m n e t = ap timed_by e ∙ go (not (mapper.fit_registers m)) (mapper.late m n)
  where
    go : (a b : Bool)
        → timed_by (first_no Err (no a advance.Unfit ∷ no b advance.Late ∷ []) (Ok (mapper.clocks_on m n))) ≡ true
    go true b = refl
    go false true = refl
    go false false = timed_on m n ∙ t

-- so the next mapper's bytes are what is left
pub put_timed : (s : List ℕ) (m : Mapper) (n : ℕ) {next : Mapper} {t : List ℕ} → Ok next ≡ mapper.advance_of m n → timed m ≡ true
    → t ≡ encode_of (cart_in s next) → t ≡ advance_state s (from_mapper (cart_in s m) (mapper.advance_of m n))
put_timed s m n {next} e h p =
    p ∙ ap (λ (b : Bool). pick b (encode_of (cart_in s next)) s) (sym (timed_after m n e h))
    ∙ ap (λ (x : Result Mapper AdvanceRefusal). advance_state s (from_mapper (cart_in s m) x)) e

-- without one an advance of a fit cartridge is accepted
untimed_late : (m : Mapper) (n : ℕ) → timed m ≡ false → mapper.late m n ≡ false
untimed_late (NoMapper m) n e = refl
untimed_late (Mbc1 m) n e = refl
untimed_late (Mbc2 m) n e = refl
untimed_late (Mbc3 m) n e = ap (λ (b : Bool). both b (late m.clock n)) e
untimed_late (Mbc5 m) n e = refl

pub untimed_taken : (c : Cartridge) (n : ℕ) → fit_cart c ≡ true → timed c.mapper ≡ false
    → advance_of c n ≡ Ok (with_mapper c (mapper.clocks_on c.mapper n))
unfolding advance_of
untimed_taken c n f e =
    ap (λ (b : Bool). first_no Err (no (not b) advance.Unfit ∷ no (mapper.late c.mapper n) advance.Late ∷ [])
    (Ok (with_mapper c (mapper.clocks_on c.mapper n)))) f
    ∙ ap (λ (b : Bool). first_no Err (no b advance.Late ∷ []) (Ok (with_mapper c (mapper.clocks_on c.mapper n))))
    (untimed_late c.mapper n e)

-- ---- passing clocks

module _ (s : List ℕ) (n : ℕ) {k : ℕ} {f : Bool} (p : k ≡ field_at 1 s 0) (q : f ≡ fit_at s k) where
  abbrev Clocked : Result (Unit {0}) AdvanceRefusal → List ℕ → Type 0
  Clocked r t = (r ≡ passed_of s n) × (t ≡ state_advanced s n)

  pub unfit_clocked : not f ≡ true → Clocked (Err advance.Unfit) s
  unfolding passed_of state_advanced
  unfit_clocked h =
      let x = cart_at s k in (
        unfit_call s p q (λ c. passed_by (advance_of c n)) (Err advance.Unfit) (λ e. ap passed_by (unfit_answer x n e)) h,
        unfit_call s p q (λ c. advance_state s (advance_of c n)) s (λ e. ap (advance_state s) (unfit_answer x n e)) h,
      )

  pub fit_still : not f ≡ false → timed (mapper_at s k) ≡ false → Clocked (Ok tt) s
  unfolding passed_of state_advanced
  fit_still h e =
      let c = cart_at s k in
      let t = untimed_taken c n (fit_cart_lem s p q h) e in (
        sym (ap passed_by t) ∙ fit_call s p q h (λ c. passed_by (advance_of c n)) (Err advance.Unfit),
        sym (ap (advance_state s) t ∙ ap (λ (b : Bool). pick b (encode_of (with_mapper c (mapper.clocks_on c.mapper n))) s)
            (timed_on c.mapper n ∙ e))
            ∙ fit_call s p q h (λ c. advance_state s (advance_of c n)) s,
      )

  module _ (h : not f ≡ false) {m : Mapper} (g : m ≡ mapper_at s k) where
    moved_on : from_mapper (cart_in s m) (mapper.advance_of m n) ≡ advance_of (cart_at s k) n
    moved_on =
        ap (λ (i : Mapper). from_mapper (cart_in s i) (mapper.advance_of i n)) g
        ∙ mapper_answer (cart_at s k) n (fit_board_lem (cart_at s k) (fit_cart_lem s p q h))

    pub fit_clocked : {r : Result (Unit {0}) AdvanceRefusal} {t : List ℕ}
        → (r ≡ passed_by (from_mapper (cart_in s m) (mapper.advance_of m n)))
        × (t ≡ advance_state s (from_mapper (cart_in s m) (mapper.advance_of m n)))
        → Clocked r t
    unfolding passed_of state_advanced
    fit_clocked e = (
      e.0 ∙ ap passed_by moved_on ∙ fit_call s p q h (λ c. passed_by (advance_of c n)) (Err advance.Unfit),
      e.1 ∙ ap (advance_state s) moved_on ∙ fit_call s p q h (λ c. advance_state s (advance_of c n)) s,
    )
