-- A mapper's fields stored, a cartridge read field by field, and the answer by its kind.
use Rattle.std.specs.Prelude.{Some, None, Option}
use mathlib.Core.Bool.{Bool, true, false}
use mathlib.Core.List.{List, [], ◌∷◌}
use mathlib.Core.Path.{◌≡◌, refl, sym, ap, ◌∙◌}
use Prim.Native.Nat.{ℕ, zero, suc, ◌≤◌}
use native.Mathlib.Omega.{arith}
use lib.Dec.{ltb}
use lib.ListN.{replicate, get_or-eq_default}
use Rattle.facts.specs.Choice.{pick, both}
use Rattle.bytes_le.specs.Little.{field_at}
use Rattle.clock.specs.declared.Clock.{Clock}
use Rattle.no_mapper.specs.Registers as none
use Rattle.mbc1.specs.Registers as mbc1
use Rattle.mbc2.specs.Registers as mbc2
use Rattle.mbc3.specs.Registers as mbc3
use Rattle.mbc3.specs.declared.Mbc3 as mbc3-state
use Rattle.mbc5.specs.Registers as mbc5
use Rattle.mapper.specs.declared.Mapper.{Mapper}
use Rattle.mapper.specs.declared.Mapper.TheVariants.{NoMapper, Mbc1, Mbc2, Mbc3, Mbc5}
use Rattle.state_fields.specs.Fields.{stored, flag_at, is_flag, are_flags}
use Rattle.state_fields.specs.ClockFields.{clock}
use Rattle.state_fields.proofs.Laws.{store_on, flags_one, flags_both}
use Rattle.states.specs.Layout.{kind_of, board_of, registers, mbc3_fields, mapper, cart_from, encode_of}
use Rattle.states.specs.Reading.{flag_lists, flags_of, mbc1_in, mbc2_in, mbc3_in, untimed_in, timed_in, mbc5_in, cleared, cart_in, mappers_in, mapper_at, cart_at, is_state, decode_of}
use Rattle.cartridge.specs.declared.Cartridge.{Cartridge}

-- ---- writing

-- an MBC3 with a timer: its registers, then its clock
pub timed_stored : (m : mbc3-state.Mbc3) (s : List ℕ) {r t : List ℕ} → m.timer ≡ true
    → r ≡ stored (registers m.enabled m.memory m.bank m.ram m.register) s → t ≡ stored (clock m.clock) r
    → t ≡ stored (mapper (Mbc3 m)) s
unfolding stored
timed_stored m s e p q = store_on (clock m.clock) p q ∙ ap (λ (b : Bool). stored (mbc3_fields m b) s) (sym e)

pub untimed_stored : (m : mbc3-state.Mbc3) (s : List ℕ) {r : List ℕ} → m.timer ≡ false
    → r ≡ stored (registers m.enabled m.memory m.bank m.ram 0) s → r ≡ stored (mapper (Mbc3 m)) s
untimed_stored m s e p = p ∙ ap (λ (b : Bool). stored (mbc3_fields m b) s) (sym e)

-- what was mounted, then the mapper
pub encoded : (m : Mapper) (battery : Bool) (banks length size : ℕ) {k : ℕ} {r t : List ℕ} → k ≡ kind_of m
    → r ≡ stored (board_of k battery banks length size) (replicate 64 0) → t ≡ stored (mapper m) r
    → t ≡ encode_of (cart_from m battery banks length size)
unfolding encode_of stored
encoded m battery banks length size e p q =
    store_on (mapper m) (p ∙ ap (λ (k : ℕ). stored (board_of k battery banks length size) (replicate 64 0)) e) q

-- and the same where what was mounted stays
pub cleared_in : (s : List ℕ) (kind : ℕ) {b : Bool} {n l z : ℕ} {r : List ℕ} → b ≡ flag_at s 1 → n ≡ field_at 2 s 8 → l ≡ field_at 8 s 16
    → z ≡ field_at 8 s 24 → r ≡ stored (board_of kind b n l z) (replicate 64 0)
    → r ≡ cleared s kind
cleared_in s kind p q e f g = cc

pub put_in : (s : List ℕ) (m : Mapper) {k : ℕ} {r t : List ℕ} → k ≡ kind_of m → r ≡ cleared s k → t ≡ stored (mapper m) r
    → t ≡ encode_of (cart_in s m)
put_in s m = encoded m (flag_at s 1) (field_at 2 s 8) (field_at 8 s 16) (field_at 8 s 24)

-- ---- flags

pub two_flags : (s : List ℕ) {a b r : Bool} → a ≡ is_flag s 1 → b ≡ is_flag s 2 → r ≡ both a b → r ≡ are_flags s (1 ∷ 2 ∷ [])
two_flags s p q e = flags_both s (1 ∷ []) (2 ∷ []) (flags_one s 1 p) (flags_one s 2 q) e

pub three_flags : (s : List ℕ) {a b d r t : Bool} → a ≡ is_flag s 1 → b ≡ is_flag s 2 → r ≡ both a b → d ≡ is_flag s 3 → t ≡ both r d
    → t ≡ are_flags s (1 ∷ 2 ∷ 3 ∷ [])
three_flags s p q e x y = flags_both s (1 ∷ 2 ∷ []) (3 ∷ []) (two_flags s p q e) (flags_one s 3 x) y

pub kind_flags : (s : List ℕ) {kind k : ℕ} {r : Bool} → kind ≡ k → r ≡ are_flags s (flags_of k) → r ≡ are_flags s (flags_of kind)
kind_flags s e p = p ∙ ap (λ (k : ℕ). are_flags s (flags_of k)) (sym e)

above : (n k : ℕ) → n ≤ k → (k ≡ n → ⊥) → suc n ≤ k
above n k l h = omega arith

-- none of the seven kinds
pub past_last : (k : ℕ) → (k ≡ 0 → ⊥) → (k ≡ 1 → ⊥) → (k ≡ 2 → ⊥) → (k ≡ 3 → ⊥) → (k ≡ 4 → ⊥) → (k ≡ 5 → ⊥) → (k ≡ 6 → ⊥) → 7 ≤ k
past_last k a b d e f g h =
    above 6 k (above 5 k (above 4 k (above 3 k (above 2 k (above 1 k (above 0 k (omega arith) a) b) d) e) f) g) h

-- a kind beyond the last has no flags, and is no state
pub flags_unknown : (s : List ℕ) (kind : ℕ) → 7 ≤ kind → true ≡ are_flags s (flags_of kind)
unfolding are_flags flags_of
flags_unknown s kind h = ap (are_flags s) (sym (get_or-eq_default flag_lists [] h))

pub no_mapper_at : (s : List ℕ) (kind : ℕ) → 7 ≤ kind → NoMapper none.start ≡ mapper_at s kind
unfolding mapper_at
no_mapper_at s kind h = sym (get_or-eq_default (mappers_in s) (NoMapper none.start) h)

-- what holds of each of the seven, and of none beyond them, holds at every kind
pub every_kind : (s : List ℕ) (P : ℕ → Mapper → Type 0) → P 0 (NoMapper none.start) → P 1 (Mbc1 (mbc1_in s false))
    → P 2 (Mbc1 (mbc1_in s true)) → P 3 (Mbc2 (mbc2_in s)) → P 4 (Mbc3 (untimed_in s)) → P 5 (Mbc3 (timed_in s)) → P 6 (Mbc5 (mbc5_in s))
    → ((k : ℕ) → P (suc (suc (suc (suc (suc (suc (suc k))))))) (NoMapper none.start))
    → (k : ℕ) → P k (mapper_at s k)
unfolding mapper_at
every_kind s P p0 p1 p2 p3 p4 p5 p6 p7 zero = p0
every_kind s P p0 p1 p2 p3 p4 p5 p6 p7 (suc zero) = p1
every_kind s P p0 p1 p2 p3 p4 p5 p6 p7 (suc (suc zero)) = p2
every_kind s P p0 p1 p2 p3 p4 p5 p6 p7 (suc (suc (suc zero))) = p3
every_kind s P p0 p1 p2 p3 p4 p5 p6 p7 (suc (suc (suc (suc zero)))) = p4
every_kind s P p0 p1 p2 p3 p4 p5 p6 p7 (suc (suc (suc (suc (suc zero))))) = p5
every_kind s P p0 p1 p2 p3 p4 p5 p6 p7 (suc (suc (suc (suc (suc (suc zero)))))) = p6
every_kind s P p0 p1 p2 p3 p4 p5 p6 p7 (suc (suc (suc (suc (suc (suc (suc k))))))) = p7 k

-- what holds of the mapper of a kind holds of the bytes of that kind
pub of_kind : {A : Type 0} (f : Mapper → A) (s : List ℕ) {kind k : ℕ} {m : Mapper} {r : A} → kind ≡ k → m ≡ mapper_at s k → r ≡ f m
    → r ≡ f (mapper_at s kind)
of_kind f s e p q = q ∙ ap f p ∙ ap (λ (n : ℕ). f (mapper_at s n)) (sym e)

-- ---- the answer

pub decoded_at : (s : List ℕ) {kind : ℕ} → kind ≡ field_at 1 s 0 → pick (is_state s kind) (Some (cart_at s kind)) None ≡ decode_of s
unfolding decode_of
decoded_at s p = ap (λ (k : ℕ). pick (is_state s k) (Some (cart_at s k)) None) p

pub decoded : (s : List ℕ) {kind : ℕ} {f b : Bool} {r : Option Cartridge} (u : Bool) → kind ≡ field_at 1 s 0 → f ≡ are_flags s (flags_of kind)
    → b ≡ both f (ltb kind 7) → b ≡ u → r ≡ pick u (Some (cart_at s kind)) None
    → r ≡ decode_of s
decoded s {kind} u p q e g h =
    h
    ∙ ap (λ (b : Bool). pick b (Some (cart_at s kind)) None) (sym g ∙ e ∙ ap (λ (f : Bool). both f (ltb kind 7)) q)
    ∙ decoded_at s p

-- ---- reading, field by field

pub cart_of_lem : {l l' b b' s s' : ℕ} {t t' : Bool} (m : Mapper) → l ≡ l' → b ≡ b' → s ≡ s' → t ≡ t'
    → ◌≡◌ {A = Cartridge} (record { length = l; banks = b; size = s; battery = t; mapper = m })
    (record { length = l'; banks = b'; size = s'; battery = t'; mapper = m })
cart_of_lem m p q r e = cc

pub mbc1_of_lem : {a b b' d d' : Bool} {x x' y y' : ℕ} → b ≡ b' → d ≡ d' → x ≡ x' → y ≡ y' → mbc1.mbc1 a b d x y ≡ mbc1.mbc1 a b' d' x' y'
mbc1_of_lem p q r e = cc

pub mbc2_of_lem : {b b' : Bool} {x x' : ℕ} → b ≡ b' → x ≡ x' → mbc2.mbc2 b x ≡ mbc2.mbc2 b' x'
mbc2_of_lem p q = cc

pub mbc3_of_lem : {t a a' b b' : Bool} {x x' y y' z z' : ℕ} {k k' : Clock} → a ≡ a' → x ≡ x' → b ≡ b' → y ≡ y' → z ≡ z' → k ≡ k'
    → mbc3.mbc3 t a x b y z k ≡ mbc3.mbc3 t a' x' b' y' z' k'
mbc3_of_lem p q r e f g = cc

pub mbc3_to : (s : List ℕ) (t : Bool) {x : mbc3-state.Mbc3} {n n' : ℕ} {k k' : Clock} → x ≡ mbc3_in s t n k → n ≡ n' → k ≡ k'
    → x ≡ mbc3_in s t n' k'
mbc3_to s t p q r = p ∙ mbc3_of_lem refl refl refl refl q r

pub mbc5_of_lem : {b b' : Bool} {x x' y y' : ℕ} → b ≡ b' → x ≡ x' → y ≡ y' → mbc5.mbc5 b x y ≡ mbc5.mbc5 b' x' y'
mbc5_of_lem p q r = cc
