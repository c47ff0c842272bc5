-- Bytes by their kind: which state they are, whether a fit one, and that a call on the bytes is one on the state.
use Rattle.std.specs.Prelude.{Ok, Err, Some, None, Result, Option}
use mathlib.Core.Bool.{Bool, true, false, not}
use mathlib.Core.List.{List}
use mathlib.Core.Path.{◌≡◌, refl, sym, ap, ◌∙◌}
use Prim.Native.Nat.{ℕ, ◌*◌, ◌≤◌}
use lib.Dec.{eqb, ltb, leb}
use lib.ListN.{length}
use borrow.Author.Tests.{le-ltb}
use Rattle.facts.specs.Choice.{pick, both}
use Rattle.facts.specs.Listed.{one_of}
use Rattle.facts.proofs.ChoiceLaws.{both_left, both_right, both_one, both_false, not_true, not_false}
use Rattle.banking.specs.Banks.{from_one, Inside}
use Rattle.bytes_le.specs.Little.{field_at}
use Rattle.image.specs.Image.{padded_length}
use Rattle.header.specs.Size.{ram_sizes}
use Rattle.types.specs.Types.{beyond_of}
use Rattle.types.specs.declared.Kind.{Kind}
use Rattle.clock_registers.specs.Fit.{fit_registers}
use Rattle.clock.specs.Fit.{fit_clock}
use Rattle.mbc3.specs.Registers as mbc3
use Rattle.mbc3.specs.declared.Mbc3 as mbc3-state
use Rattle.mapper.specs.Mappers as mapper
use Rattle.mapper.specs.Mappers.{kind_of, multicart_banks, holds, area_of, bank0}
use Rattle.mapper.specs.declared.Mapper.{Mapper}
use Rattle.mapper.specs.declared.Mapper.TheVariants.{Mbc3}
use Rattle.window.specs.Window as window
use Rattle.window.specs.declared.Way.TheVariants.{Bytes, Timer}
use Rattle.window.proofs.Laws.{lent_within}
use Rattle.cartridge.specs.Fit.{bank_counts, fit_board, fit_cart}
use Rattle.cartridge.specs.Fit as cartridge
use Rattle.cartridge.specs.declared.Cartridge.{Cartridge}
use Rattle.access.specs.Verdict.{noes_by, verdict_by, noes, verdict_of}
use Rattle.access.specs.declared.BusRefusal.TheVariants.{Unfit}
use Rattle.access.proofs.Laws.{by_tests}
use Rattle.access.specs.declared.Target.{Target}
use Rattle.access.specs.declared.BusRefusal.{BusRefusal}
use Rattle.access.specs.declared.Target.TheVariants.{Ram}
use Rattle.bus.specs.Bus.{lent_both, read_verdict, read_by, read_of}
use Rattle.bus.proofs.Laws.{read_answered, read_area}
use Rattle.state_fields.specs.Fields.{are_flags}
use Rattle.state_fields.specs.ClockFields.{registers_in, clock_in}
use Rattle.states.specs.Reading.{flags_of, untimed_in, timed_in, mapper_at, cart_at, is_state, decode_of}
use Rattle.states.specs.OnState.{on_state}
use Rattle.states.proofs.Laws.{every_kind, of_kind, decoded_at}
use Rattle.flat.specs.Kinds.{fit_at, fit_kind}

-- ---- the state, by its kind

-- only an MBC1 moves the low window, only an MBC2 has more than the header's RAM
pub low_bank_0 : (s : List ℕ) (k : ℕ) → (k ≡ 1 → ⊥) → (k ≡ 2 → ⊥) → 0 ≡ bank0 (mapper_at s k)
low_bank_0 s =
    every_kind s (λ (k : ℕ) (m : Mapper). (k ≡ 1 → ⊥) → (k ≡ 2 → ⊥) → 0 ≡ bank0 m) (λ a b. refl) (λ a b. absurd (a refl))
    (λ a b. absurd (b refl)) (λ a b. refl) (λ a b. refl) (λ a b. refl) (λ a b. refl) (λ k a b. refl)

pub area_of_size : (s : List ℕ) (k size : ℕ) → (k ≡ 3 → ⊥) → size ≡ area_of (mapper_at s k) size
area_of_size s k size =
    every_kind s (λ (k : ℕ) (m : Mapper). (k ≡ 3 → ⊥) → size ≡ area_of m size) (λ a. refl) (λ a. refl) (λ a. refl)
    (λ a. absurd (a refl)) (λ a. refl) (λ a. refl) (λ a. refl) (λ k a. refl) k

-- ---- fitness

pub clock_tested : (s : List ℕ) {n : ℕ} {a b x t : Bool} → n ≡ field_at 4 s 40 → a ≡ fit_registers (registers_in s 45)
    → b ≡ fit_registers (registers_in s 52) → x ≡ both b (ltb n 2097152) → t ≡ both a x
    → t ≡ fit_clock (clock_in s)
unfolding fit_clock
clock_tested s p q r x t = rw (sym p, sym q, sym r, sym x) t

pub timed_tested : (s : List ℕ) {n : ℕ} {m : mbc3-state.Mbc3} {a k x t : Bool} → m ≡ untimed_in s → a ≡ mbc3.fit_registers m
    → n ≡ field_at 1 s 7 → k ≡ fit_clock (clock_in s) → x ≡ both (leb n 4) k → t ≡ both a x
    → t ≡ mbc3.fit_registers (timed_in s)
unfolding mbc3.fit_registers
timed_tested s {n} {x = x} p q r e y t =
    let banks = both (from_one 255 (field_at 1 s 4)) (leb (field_at 1 s 6) 3) in
    t ∙ ap (λ (b : Bool). both b x) (q ∙ ap mbc3.fit_registers p ∙ both_one banks)
    ∙ ap (both banks) (y ∙ ap (both (leb n 4)) e ∙ ap (λ (i : ℕ). both (leb i 4) (fit_clock (clock_in s))) r)

pub limits_tested : (s : List ℕ) (kind : ℕ) (l : Kind) (t : Bool) {n z : ℕ} {f b h r : Bool} → f ≡ are_flags s (flags_of kind)
    → n ≡ field_at 2 s 8 → z ≡ field_at 8 s 24 → b ≡ beyond_of l n z → h ≡ both f (not b) → r ≡ both h t
    → r ≡ both (both (are_flags s (flags_of kind)) (not (beyond_of l (field_at 2 s 8) (field_at 8 s 24)))) t
limits_tested s kind l t p q r b h e = rw (sym p, sym q, sym r, sym b, sym h) e

limits_first : (f b g r : Bool) → both (both f (not b)) (both g r) ≡ both (both f true) (both (both (not b) g) r)
limits_first true true g r = refl
limits_first true false g r = refl
limits_first false b g r = refl

pub kind_fits : (s : List ℕ) {kind : ℕ} (k : ℕ) {l : Kind} {m : Mapper} {t r : Bool} → kind ≡ k → m ≡ mapper_at s k → ltb k 7 ≡ true
    → l ≡ kind_of m
    → t ≡ both (multicart_banks m (field_at 2 s 8)) (mapper.fit_registers m)
    → r ≡ both (both (are_flags s (flags_of k)) (not (beyond_of l (field_at 2 s 8) (field_at 8 s 24)))) t
    → r ≡ fit_kind s kind
unfolding holds
kind_fits s k {l} {m} {t} e p b q x y =
    let f = are_flags s (flags_of k) in
    let n = field_at 2 s 8 in
    let z = field_at 8 s 24 in
    y
    ∙ ap (λ (i : Kind). both (both f (not (beyond_of i n z))) t) q
    ∙ ap (both (both f (not (beyond_of (kind_of m) n z)))) x
    ∙ limits_first f (beyond_of (kind_of m) n z) (multicart_banks m n) (mapper.fit_registers m)
    ∙ ap (λ (i : Bool). both (both f i) (both (holds m n z) (mapper.fit_registers m))) (sym b)
    ∙ ap (λ (i : Mapper). both (is_state s k) (both (holds i n z) (mapper.fit_registers i))) p
    ∙ ap (fit_kind s) (sym e)

pub unknown_unfit : (s : List ℕ) (k : ℕ) → 7 ≤ k → false ≡ fit_kind s k
unknown_unfit s k h =
    ap (λ (i : Bool). both i (both (holds (mapper_at s k) (field_at 2 s 8) (field_at 8 s 24)) (mapper.fit_registers (mapper_at s k))))
    (sym (both_false (are_flags s (flags_of k))) ∙ ap (both (are_flags s (flags_of k))) (sym (le-ltb k 7 h)))

board_first : (f a b z h r : Bool)
    → both (both (both a b) z) (both f (both h r)) ≡ both f (both (both (both a b) (both z h)) r)
board_first true true true true h r = refl
board_first true true true false h r = refl
board_first true true false z h r = refl
board_first true false b z h r = refl
board_first false a b z h r = both_false (both (both a b) z)

pub fit_tested : (s : List ℕ) (kind : ℕ) {n l z : ℕ} {a b d : Bool} → n ≡ field_at 2 s 8 → l ≡ field_at 8 s 16 → z ≡ field_at 8 s 24
    → one_of n bank_counts ≡ a → eqb (padded_length l) (n * 0x4000) ≡ b → one_of z ram_sizes ≡ d
    → both (both (both a b) d) (fit_kind s kind) ≡ fit_at s kind
unfolding fit_cart fit_board
fit_tested s kind {n} {l} {z} {b = b} {d = d} p q r x y w =
    let k = fit_kind s kind in
    let m = mapper_at s kind in
    let banks = field_at 2 s 8 in
    let size = field_at 8 s 24 in
    ap (λ (i : Bool). both (both (both i b) d) k) (sym x ∙ ap (λ (i : ℕ). one_of i bank_counts) p)
    ∙ ap (λ (i : Bool). both (both (both (one_of banks bank_counts) i) d) k)
    (sym y ∙ ap (λ (i : ℕ). eqb (padded_length l) (i * 0x4000)) p ∙ ap (λ (i : ℕ). eqb (padded_length i) (banks * 0x4000)) q)
    ∙ ap (λ (i : Bool). both (both (both (one_of banks bank_counts) (eqb (padded_length (field_at 8 s 16)) (banks * 0x4000))) i) k)
    (sym w ∙ ap (λ (i : ℕ). one_of i ram_sizes) r)
    ∙ board_first (is_state s kind) (one_of banks bank_counts) (eqb (padded_length (field_at 8 s 16)) (banks * 0x4000)) (one_of size ram_sizes)
    (holds m banks size) (mapper.fit_registers m)

-- ---- the RAM area

pub area_at : (s : List ℕ) {kind k z n : ℕ} {m : Mapper} → kind ≡ k → m ≡ mapper_at s k → z ≡ field_at 8 s 24
    → n ≡ cartridge.area_of (cart_at s kind)
    → n ≡ area_of m z
area_at s {k = k} {m = m} e p q r =
    r ∙ ap (λ (i : ℕ). area_of (mapper_at s i) (field_at 8 s 24)) e ∙ ap (λ (i : Mapper). area_of i (field_at 8 s 24)) (sym p)
    ∙ ap (area_of m) (sym q)

pub read_at : (s ram : List ℕ) (addr : ℕ) {kind k z r : ℕ} {m : Mapper} → kind ≡ k → m ≡ mapper_at s k → z ≡ field_at 8 s 24
    → r ≡ window.read_of m z ram addr
    → r ≡ window.read_of (mapper_at s kind) (field_at 8 s 24) ram addr
read_at s ram addr {m = m} e p q r =
    of_kind (λ (i : Mapper). window.read_of i (field_at 8 s 24) ram addr) s e p
    (r ∙ ap (λ (i : ℕ). window.read_of m i ram addr) q)

-- an MBC3 of either kind, by what is selected
pub selected_way : (m : mbc3-state.Mbc3) (size addr : ℕ) {t : Bool} → m.memory ≡ t
    → pick t (Bytes (mbc3.ram_at m size addr)) (Timer m) ≡ window.way_of (Mbc3 m) size addr
selected_way m size addr e = ap (λ (t : Bool). pick t (Bytes (mbc3.ram_at m size addr)) (Timer m)) (sym e)

-- and one whose RAM is selected
module _ (m : mbc3-state.Mbc3) (size addr : ℕ) (e : m.memory ≡ true) {place : Option ℕ} (p : place ≡ mbc3.ram_at m size addr) where
  pub selected_bytes : Bytes place ≡ window.way_of (Mbc3 m) size addr
  selected_bytes = ap Bytes p ∙ selected_way m size addr e

  pub selected_within : {n : ℕ} → n ≡ size → Inside place n
  selected_within = lent_within (Mbc3 m) size addr selected_bytes

  pub selected_read : (ram : List ℕ) {b : ℕ} → b ≡ window.loaded ram place → b ≡ window.read_of (Mbc3 m) size ram addr
  unfolding window.read_of
  selected_read ram h = simp (e, h, p)

-- ---- a call on the bytes is one on the state

module _ (s : List ℕ) {k : ℕ} {f : Bool} (p : k ≡ field_at 1 s 0) (q : f ≡ fit_at s k) where
  module _ {A : Type 0} (g : Cartridge → A) (x : A) (u : fit_cart (cart_at s k) ≡ false → x ≡ g (cart_at s k)) where
    unfit : (b : Bool) → both b (fit_cart (cart_at s k)) ≡ false → x ≡ on_state g x (pick b (Some (cart_at s k)) None)
    unfit true e = u e
    unfit false e = refl

    -- where an unfit cartridge is answered as bytes that are none
    pub unfit_call : not f ≡ true → x ≡ on_state g x (decode_of s)
    unfit_call h = unfit (is_state s k) (sym q ∙ not_true f h) ∙ ap (on_state g x) (decoded_at s p)

  module _ (h : not f ≡ false) where
    fit_state : fit_at s k ≡ true
    fit_state = sym q ∙ not_false f h

    pub fit_cart_lem : fit_cart (cart_at s k) ≡ true
    fit_cart_lem = both_right (is_state s k) _ fit_state

    pub is_decoded : Some (cart_at s k) ≡ decode_of s
    is_decoded =
        ap (λ (b : Bool). pick b (Some (cart_at s k)) None) (sym (both_left (is_state s k) _ fit_state)) ∙ decoded_at s p

    pub fit_call : {A : Type 0} (g : Cartridge → A) (x : A) → g (cart_at s k) ≡ on_state g x (decode_of s)
    fit_call g x = ap (on_state g x) is_decoded

-- the verdict on an access to a fit cartridge, whose fitness is not asked again
pub fit_judged : (c : Cartridge) (addr : ℕ) (l bad : Bool) {v : Result Target BusRefusal} → fit_cart c ≡ true → v ≡ verdict_by addr (noes_by true l addr bad)
    → v ≡ verdict_of c l addr bad
unfolding verdict_of noes
fit_judged c addr l bad f e = e ∙ ap (λ (b : Bool). verdict_by addr (noes_by b l addr bad)) (sym f)

-- ---- and so a read

module _ (s rom ram : List ℕ) (addr : ℕ) {k : ℕ} {f : Bool} (p : k ≡ field_at 1 s 0) (q : f ≡ fit_at s k) where
  abbrev reads : Cartridge → Result ℕ BusRefusal
  reads c = read_of c rom ram addr

  unfit_refused : fit_cart (cart_at s k) ≡ false → Err Unfit ≡ reads (cart_at s k)
  unfolding read_of read_verdict
  unfit_refused e = ap (read_by (cart_at s k) rom ram addr) (by_tests (cart_at s k) _ addr false e refl refl refl refl)

  pub unfit_read : not f ≡ true → Err Unfit ≡ on_state reads (Err Unfit) (decode_of s)
  unfit_read = unfit_call s p q reads (Err Unfit) unfit_refused

  module _ (h : not f ≡ false) {l : Bool} {v : Result Target BusRefusal} (r : l ≡ lent_both (cart_at s k) (length rom) (length ram))
      (e : v ≡ verdict_by addr (noes_by true l addr false)) where
    judged : v ≡ verdict_of (cart_at s k) l addr false
    judged = fit_judged (cart_at s k) addr l false (fit_cart_lem s p q h) e

    pub area_lent : v ≡ (Ok Ram) → length ram ≡ cartridge.area_of (cart_at s k)
    area_lent = read_area (cart_at s k) addr rom ram refl r judged

    pub fit_read : {u : Result Target BusRefusal} → v ≡ u → read_by (cart_at s k) rom ram addr u ≡ on_state reads (Err Unfit) (decode_of s)
    fit_read g = read_answered (cart_at s k) addr rom ram refl r judged g ∙ fit_call s p q h reads (Err Unfit)
