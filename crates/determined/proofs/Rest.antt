-- The functions whose contracts are no plain equality: a record of `specs/`, a part of a lent slice, a trait's, whose clauses speak of its
-- ghost members, and the reader, whose walk is by hand, so that its clause is met as the program logic states it.
use mathlib.Core.Path.{◌≡◌, ap, ◌∙◌}
use Prim.Native.Nat.{ℕ}
use seplogic.Ra.Ura.{Ura}
use base.Logic.{ent}
use denote.RattleType.{RattleType}
use denote.Param.Laws.{Laws, IsCopy}
use mir.Syntax.{Dict}
use contract.Monad.{conj, conj_l, conj_r, fact, fact_i, fact_use}
use Rattle.facts.proofs.ChoiceLaws.{coincide}
use Rattle.facts.proofs.from_below.Reads as from-below
use Rattle.facts.specs.declared.Counted.{Counted}
use Rattle.bytes_le.specs.declared.Field.{Ghosts}
use Rattle.bytes_le.proofs.Field.read.Reads as field-read
use Rattle.bytes_le.proofs.Field.write.Reads as field-write
use Rattle.bytes_le.proofs.U8Field.read.Reads as u8-read
use Rattle.bytes_le.proofs.U8Field.write.Reads as u8-write
use Rattle.bytes_le.proofs.U16Field.read.Reads as u16-read
use Rattle.bytes_le.proofs.U16Field.write.Reads as u16-write
use Rattle.bytes_le.proofs.U32Field.read.Reads as u32-read
use Rattle.bytes_le.proofs.U32Field.write.Reads as u32-write
use Rattle.bytes_le.proofs.U64Field.read.Reads as u64-read
use Rattle.bytes_le.proofs.U64Field.write.Reads as u64-write
use Rattle.std.specs.declared.clone.Clone as clone
use Rattle.states.specs.declared.Kept as kept
use Rattle.states.proofs.Kept.kind.Reads as kept-kind
use Rattle.states.proofs.Kept.put_fields.Reads as kept-put_fields
use Rattle.states.proofs.NoMapperKept.kind.Reads as no_mapper-kind
use Rattle.states.proofs.NoMapperKept.put_fields.Reads as no_mapper-put_fields
use Rattle.states.proofs.Mbc1Kept.kind.Reads as mbc1-kind
use Rattle.states.proofs.Mbc1Kept.put_fields.Reads as mbc1-put_fields
use Rattle.states.proofs.Mbc2Kept.kind.Reads as mbc2-kind
use Rattle.states.proofs.Mbc2Kept.put_fields.Reads as mbc2-put_fields
use Rattle.states.proofs.Mbc3Kept.kind.Reads as mbc3-kind
use Rattle.states.proofs.Mbc3Kept.put_fields.Reads as mbc3-put_fields
use Rattle.states.proofs.Mbc5Kept.kind.Reads as mbc5-kind
use Rattle.states.proofs.Mbc5Kept.put_fields.Reads as mbc5-put_fields
use Rattle.states.proofs.MapperKept.kind.Reads as mapper-kind
use Rattle.states.proofs.MapperKept.put_fields.Reads as mapper-put_fields
use Rattle.states.proofs.put.Reads as put
use Rattle.mount.proofs.MountRefusalFromHeaderRefusal.from.Reads as mount_refusal-from
use Rattle.save_file.proofs.SaveRefusalFromBlockRefusal.from.Reads as save_refusal-from
use Rattle.image.proofs.title.Reads as title
use Rattle.digits.proofs.put_text.Reads as put-text
use Rattle.digits.proofs.put_hex.Reads as put-hex
use Rattle.digits.proofs.put_decimal.Reads as put-decimal
use Rattle.lines.proofs.put_numbered.Reads as put-numbered
use Rattle.lines.proofs.put_addressed.Reads as put-addressed
use Rattle.lines.proofs.put_end.Reads as put-end
use Rattle.bus.specs.Run.{Machine}
use Rattle.replay_step.proofs.step.Reads as step
use Rattle.replay_text.proofs.run.Reads as run
use Rattle.trace.specs.contracts.Reader.new as reader-new
use Rattle.trace.specs.contracts.Reader.moved as reader-moved
use Rattle.trace.specs.contracts.Reader.next as reader-next
use Rattle.cartridge.specs.declared.Cartridge.{Cartridge}
use Rattle.replay_step.specs.declared.Reached.{Reached}
use Rattle.determined.specs.Determined.{Answers, Leaves, Shows, Determined}

abbrev counted : ℕ → ℕ → Counted
counted v n = record { value = v; carried = n }

abbrev reached : Cartridge → ℕ → Reached
reached c n = record { cart = c; end = n }

-- `facts::from_below`
pub from_below_answer : Answers from-below.Learnt
from_below_answer k a x y s t p q =
    ap (λ (n : ℕ). counted n x.carried) (coincide p.0 q.0) ∙ ap (λ (n : ℕ). counted y.value n) (coincide p.1 q.1)

-- `bytes_le::Field`: at any type whose numbers its law tells apart, and so at each of the four
pub field_read_answer : (T : RattleType) (L : Laws T) (F : Ghosts T.Denot) (d : Dict) → ((m n : T.Denot) → F.value m ≡ F.value n → m ≡ n)
    → Answers (field-read.Learnt T L F d)
field_read_answer T L F d told_apart k a x y s t p q = told_apart x y (coincide p q)

pub field_write_bytes : (T : RattleType) (L : Laws T) (F : Ghosts T.Denot) (d : Dict) → Leaves (field-write.Learnt T L F d) (λ k s. s.0.now)
field_write_bytes T L F d k a x y s t p q = coincide p q

pub u8_read_answer : Answers u8-read.Learnt
u8_read_answer k a x y s t p q = coincide p q

pub u8_write_bytes : Leaves u8-write.Learnt (λ k s. s.0.now)
u8_write_bytes k a x y s t p q = coincide p q

pub u16_read_answer : Answers u16-read.Learnt
u16_read_answer k a x y s t p q = coincide p q

pub u16_write_bytes : Leaves u16-write.Learnt (λ k s. s.0.now)
u16_write_bytes k a x y s t p q = coincide p q

pub u32_read_answer : Answers u32-read.Learnt
u32_read_answer k a x y s t p q = coincide p q

pub u32_write_bytes : Leaves u32-write.Learnt (λ k s. s.0.now)
u32_write_bytes k a x y s t p q = coincide p q

pub u64_read_answer : Answers u64-read.Learnt
u64_read_answer k a x y s t p q = coincide p q

pub u64_write_bytes : Leaves u64-write.Learnt (λ k s. s.0.now)
u64_write_bytes k a x y s t p q = coincide p q

-- `states::Kept`, at any type and so at each of the six, and `put`
pub kept_kind_answer : (T : RattleType) (L : Laws T) (C : IsCopy T) (F : kept.Ghosts T.Denot) (d : Dict) (G : clone.Ghosts T.Denot) (e : Dict)
    → Answers (kept-kind.Learnt T L C F d G e)
kept_kind_answer T L C F d G e k a x y s t p q = coincide p q

pub kept_put_fields_s : (T : RattleType) (L : Laws T) (C : IsCopy T) (F : kept.Ghosts T.Denot) (d : Dict) (G : clone.Ghosts T.Denot) (e : Dict)
    → Leaves (kept-put_fields.Learnt T L C F d G e) (λ k s. s.1.0.now)
kept_put_fields_s T L C F d G e k a x y s t p q = coincide p q

pub no_mapper_kind_answer : Answers no_mapper-kind.Learnt
no_mapper_kind_answer k a x y s t p q = coincide p q

pub no_mapper_put_fields_s : Leaves no_mapper-put_fields.Learnt (λ k s. s.1.0.now)
no_mapper_put_fields_s k a x y s t p q = coincide p q

pub mbc1_kind_answer : Answers mbc1-kind.Learnt
mbc1_kind_answer k a x y s t p q = coincide p q

pub mbc1_put_fields_s : Leaves mbc1-put_fields.Learnt (λ k s. s.1.0.now)
mbc1_put_fields_s k a x y s t p q = coincide p q

pub mbc2_kind_answer : Answers mbc2-kind.Learnt
mbc2_kind_answer k a x y s t p q = coincide p q

pub mbc2_put_fields_s : Leaves mbc2-put_fields.Learnt (λ k s. s.1.0.now)
mbc2_put_fields_s k a x y s t p q = coincide p q

pub mbc3_kind_answer : Answers mbc3-kind.Learnt
mbc3_kind_answer k a x y s t p q = coincide p q

pub mbc3_put_fields_s : Leaves mbc3-put_fields.Learnt (λ k s. s.1.0.now)
mbc3_put_fields_s k a x y s t p q = coincide p q

pub mbc5_kind_answer : Answers mbc5-kind.Learnt
mbc5_kind_answer k a x y s t p q = coincide p q

pub mbc5_put_fields_s : Leaves mbc5-put_fields.Learnt (λ k s. s.1.0.now)
mbc5_put_fields_s k a x y s t p q = coincide p q

pub mapper_kind_answer : Answers mapper-kind.Learnt
mapper_kind_answer k a x y s t p q = coincide p q

pub mapper_put_fields_s : Leaves mapper-put_fields.Learnt (λ k s. s.1.0.now)
mapper_put_fields_s k a x y s t p q = coincide p q

pub put_s : (T : RattleType) (L : Laws T) (C : IsCopy T) (F : kept.Ghosts T.Denot) (d : Dict) (G : clone.Ghosts T.Denot) (e : Dict)
    → Leaves (put.Learnt T L C F d G e) (λ k s. s.0.now)
put_s T L C F d G e k a x y s t p q = coincide p q

-- `image::title`: the bytes of the part, and where it lies
pub title_answer : Shows title.Learnt (λ k r. r.now)
title_answer k a x y s t p q = coincide p.0 q.0

pub title_place : Shows title.Learnt (λ k r. r.ref_ptr)
title_place k a x y s t p q = coincide p.1 q.1

-- `digits` and `lines`: the place behind the text, and the room
pub put_text_answer : Answers put-text.Learnt
put_text_answer k a x y s t p q = coincide p.behind q.behind

pub put_text_room : Leaves put-text.Learnt (λ k s. s.0.now)
put_text_room k a x y s t p q = coincide p.is q.is

pub put_hex_answer : Answers put-hex.Learnt
put_hex_answer k a x y s t p q = coincide p.behind q.behind

pub put_hex_room : Leaves put-hex.Learnt (λ k s. s.0.now)
put_hex_room k a x y s t p q = coincide p.is q.is

pub put_decimal_answer : Answers put-decimal.Learnt
put_decimal_answer k a x y s t p q = coincide p.behind q.behind

pub put_decimal_room : Leaves put-decimal.Learnt (λ k s. s.0.now)
put_decimal_room k a x y s t p q = coincide p.is q.is

pub put_numbered_answer : Answers put-numbered.Learnt
put_numbered_answer k a x y s t p q = coincide p.behind q.behind

pub put_numbered_room : Leaves put-numbered.Learnt (λ k s. s.0.now)
put_numbered_room k a x y s t p q = coincide p.is q.is

pub put_addressed_answer : Answers put-addressed.Learnt
put_addressed_answer k a x y s t p q = coincide p.behind q.behind

pub put_addressed_room : Leaves put-addressed.Learnt (λ k s. s.0.now)
put_addressed_room k a x y s t p q = coincide p.is q.is

pub put_end_answer : Answers put-end.Learnt
put_end_answer k a x y s t p q = coincide p.behind q.behind

pub put_end_room : Leaves put-end.Learnt (λ k s. s.0.now)
put_end_room k a x y s t p q = coincide p.is q.is

-- `replay_step::step`: the cartridge and the place behind the line, the area, and the room
pub step_answer : Answers step.Learnt
step_answer k a x y s t p q =
    ap (λ (c : Cartridge). reached c x.end) (ap (λ (m : Machine). m.cart) (coincide p.0.leaves q.0.leaves))
    ∙ ap (λ (n : ℕ). reached y.cart n) (coincide p.0.line.behind q.0.line.behind)

pub step_ram : Leaves step.Learnt (λ k s. s.1.1.0.now)
step_ram k a x y s t p q = ap (λ (m : Machine). m.area) (coincide p.0.leaves q.0.leaves)

pub step_room : Leaves step.Learnt (λ k s. s.1.1.1.0.now)
step_room k a x y s t p q = coincide p.0.line.is q.0.line.is

-- `replay_text::run`: the cartridge and the place behind the text, the area, and the room
pub run_answer : Answers run.Learnt
run_answer k a x y s t p q =
    ap (λ (c : Cartridge). reached c x.end) (ap (λ (m : Machine). m.cart) (coincide p.0 q.0))
    ∙ ap (λ (n : ℕ). reached y.cart n) (coincide p.1.0.behind q.1.0.behind)

pub run_ram : Leaves run.Learnt (λ k s. s.1.1.0.now)
run_ram k a x y s t p q = ap (λ (m : Machine). m.area) (coincide p.0 q.0)

pub run_room : Leaves run.Learnt (λ k s. s.1.1.1.1.0.now)
run_room k a x y s t p q = coincide p.1.0.is q.1.0.is

-- `Reader::new`, `moved` and `next`
both_hold : {M : Type 1} (𝓤 : Ura M) {X : Type 0} {x y : X} (d : X) → ent 𝓤 (conj 𝓤 (fact 𝓤 (x ≡ d)) (fact 𝓤 (y ≡ d))) (fact 𝓤 (x ≡ y))
both_hold 𝓤 {x = x} {y = y} d =
    let P = fact 𝓤 (x ≡ d) in
    let Q = fact 𝓤 (y ≡ d) in
    fact_use 𝓤 (x ≡ d) (conj_l 𝓤 P Q) (λ p. fact_use 𝓤 (y ≡ d) (conj_r 𝓤 P Q) (λ q. fact_i 𝓤 (x ≡ y) (conj 𝓤 P Q) (coincide p q)))

pub reader_new_answer : {M : Type 1} (𝓤 : Ura M) → Determined 𝓤 reader-new.ended (reader-new.clauses {𝓤 = 𝓤})
reader_new_answer 𝓤 𝓛 mem run κs a g x y s t = both_hold 𝓤 _

pub reader_moved_answer : {M : Type 1} (𝓤 : Ura M) → Determined 𝓤 reader-moved.ended (reader-moved.clauses {𝓤 = 𝓤})
reader_moved_answer 𝓤 𝓛 mem run κs a g x y s t = both_hold 𝓤 _

pub reader_next_answer : {M : Type 1} (𝓤 : Ura M) → Determined 𝓤 reader-next.ended (reader-next.clauses {𝓤 = 𝓤})
reader_next_answer 𝓤 𝓛 mem run κs a g x y s t = both_hold 𝓤 _

-- the refusals that hold another's
pub mount_refusal_from_answer : Answers mount_refusal-from.Learnt
mount_refusal_from_answer k a x y s t p q = coincide p q

pub save_refusal_from_answer : Answers save_refusal-from.Learnt
save_refusal_from_answer k a x y s t p q = coincide p q
