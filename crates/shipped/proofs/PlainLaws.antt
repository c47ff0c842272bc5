-- The bus's calls on a cartridge and on its plain one: answered alike, and what they leave has the same bytes.
use Rattle.std.specs.Prelude.{Ok, Err, Result}
use mathlib.Core.Bool.{Bool, true, false, not}
use mathlib.Core.List.{List, [], ◌∷◌}
use mathlib.Core.Path.{◌≡◌, refl, sym, ap, ◌∙◌}
use Prim.Native.Nat.{ℕ}
use lib.Dec.{eqb}
use lib.ListN.{length}
use Rattle.facts.specs.Choice.{pick, both}
use Rattle.facts.specs.Refusals.{no, first_no}
use Rattle.facts.proofs.ChoiceLaws.{pick_has}
use Rattle.banking.specs.Banks.{rom_place}
use Rattle.clock.specs.Ticking.{ticks}
use Rattle.clock.specs.declared.AdvanceRefusal.TheVariants.{Unfit, Late}
use Rattle.clock.specs.declared.AdvanceRefusal.{AdvanceRefusal}
use Rattle.image.specs.Image.{byte_at}
use Rattle.mbc3.specs.Registers.{with_clock}
use Rattle.mbc3.specs.declared.Mbc3 as mbc3-state
use Rattle.timer.specs.Advance as timer
use Rattle.mapper.specs.Mappers as mapper
use Rattle.mapper.specs.declared.Mapper.{Mapper}
use Rattle.mapper.specs.declared.Mapper.TheVariants.{NoMapper, Mbc1, Mbc2, Mbc3, Mbc5}
use Rattle.cartridge.specs.Fit.{fit_cart}
use Rattle.cartridge.specs.With.{with_mapper}
use Rattle.cartridge.specs.declared.Cartridge.{Cartridge}
use Rattle.access.specs.Verdict.{noes_by, verdict_by, noes, verdict_of}
use Rattle.access.specs.declared.Target.{Target}
use Rattle.access.specs.declared.BusRefusal.{BusRefusal}
use Rattle.access.specs.declared.Target.TheVariants.{Rom, Ram}
use Rattle.bus.specs.Bus as bus
use Rattle.bus.specs.Advance as advance
use Rattle.states.specs.Layout.{encode_of}
use Rattle.states.specs.Plain.{plain_mapper, plain}
use Rattle.states.proofs.Back.{encode_plain, fit_plain}
use Rattle.states.proofs.Unused as unused
use Rattle.flat_write.specs.Calls.{write_state, timed, advance_state}
use Rattle.flat_write.proofs.Laws.{timed_on}
use Rattle.player.specs.Bus.{write_number, advance_number}
use Rattle.runs.proofs.BusLaws as laws

pub area_plain : (m : Mapper) (size : ℕ) → mapper.area_of (plain_mapper m) size ≡ mapper.area_of m size
area_plain (NoMapper m) size = refl
area_plain (Mbc1 m) size = refl
area_plain (Mbc2 m) size = refl
area_plain (Mbc3 m) size = refl
area_plain (Mbc5 m) size = refl

-- ---- the verdicts

verdict_by_lem : (c : Cartridge) (lent lent' : Bool) (addr : ℕ) (bad bad' : Bool) → lent ≡ lent' → bad ≡ bad'
    → verdict_of (plain c) lent addr bad ≡ verdict_of c lent' addr bad'
unfolding verdict_of noes
verdict_by_lem c lent lent' addr bad bad' p q =
    ap (λ (t : Bool). verdict_by addr (noes_by t lent addr bad)) (fit_plain c)
    ∙ ap (λ (t : Bool). verdict_by addr (noes_by (fit_cart c) t addr bad)) p
    ∙ ap (λ (t : Bool). verdict_by addr (noes_by (fit_cart c) lent' addr t)) q

read_verdict_lem : (c : Cartridge) (rom ram : List ℕ) (addr : ℕ) → bus.read_verdict (plain c) rom ram addr ≡ bus.read_verdict c rom ram addr
unfolding bus.read_verdict plain
read_verdict_lem c rom ram addr =
    verdict_by_lem c _ _ addr false false
    (ap (λ (n : ℕ). both (eqb (length rom) c.length) (eqb (length ram) n)) (area_plain c.mapper c.size)) refl

write_verdict_lem : (c : Cartridge) (ram : List ℕ) (addr byte : ℕ) → bus.write_verdict (plain c) ram addr byte ≡ bus.write_verdict c ram addr byte
unfolding bus.write_verdict plain
write_verdict_lem c ram addr byte =
    verdict_by_lem c _ _ addr _ _ (ap (eqb (length ram)) (area_plain c.mapper c.size))
    (unused.selection_plain c.mapper addr byte)

-- ---- a read

pub read_plain : (c : Cartridge) (rom ram : List ℕ) (addr : ℕ) → bus.read_of (plain c) rom ram addr ≡ bus.read_of c rom ram addr
unfolding bus.read_of plain
read_plain c rom ram addr =
    ap (bus.read_by (plain c) rom ram addr) (read_verdict_lem c rom ram addr) ∙ go (bus.read_verdict c rom ram addr)
  where
    go : (v : Result Target BusRefusal) → bus.read_by (plain c) rom ram addr v ≡ bus.read_by c rom ram addr v
    go (Ok Rom) =
        ap (λ (n : ℕ). Ok (byte_at rom (rom_place c.banks n addr))) (unused.bank_plain c.mapper addr)
    go (Ok Ram) = ap Ok (unused.read_plain c.mapper c.size ram addr)
    go (Err w) = refl

-- ---- a write

-- two answers that a player cannot tell apart
pub record SameWrite (x y : Result Cartridge BusRefusal) : Type 0 where
  pub number : write_number x ≡ write_number y
  pub state : (s : List ℕ) → write_state s x ≡ write_state s y

-- cartridges whose plain mappers are the same have the same bytes
pub same_bytes : (c : Cartridge) (m n : Mapper) → plain_mapper m ≡ plain_mapper n → encode_of (with_mapper c m) ≡ encode_of (with_mapper c n)
unfolding plain
same_bytes c m n e =
    sym (encode_plain (with_mapper c m)) ∙ ap (λ (x : Mapper). encode_of (with_mapper c x)) e ∙ encode_plain (with_mapper c n)

pub write_plain : (c : Cartridge) (ram : List ℕ) (addr byte : ℕ) → SameWrite (bus.write_of (plain c) ram addr byte) (bus.write_of c ram addr byte)
unfolding bus.write_of plain
write_plain c ram addr byte =
    let both = go (bus.write_verdict c ram addr byte) in
    let e = ap (bus.write_by (plain c) addr byte) (write_verdict_lem c ram addr byte) in
    record { number = ap write_number e ∙ both.number; state = λ s. ap (write_state s) e ∙ both.state s }
  where
    go : (v : Result Target BusRefusal) → SameWrite (bus.write_by (plain c) addr byte v) (bus.write_by c addr byte v)
    go (Ok Rom) =
        record { number = refl; state = λ s. same_bytes c _ _ (unused.written_plain c.mapper addr byte) }
    go (Ok Ram) =
        record { number = refl; state = λ s. same_bytes c _ _ (unused.after_plain c.mapper c.size addr byte) }
    go (Err w) = record { number = refl; state = λ s. refl }

pub store_plain : (c : Cartridge) (ram : List ℕ) (addr byte : ℕ) → bus.area_after (plain c) ram addr byte ≡ bus.area_after c ram addr byte
unfolding bus.area_after plain
store_plain c ram addr byte =
    ap (bus.area_by (plain c) ram addr byte) (write_verdict_lem c ram addr byte) ∙ go (bus.write_verdict c ram addr byte)
  where
    go : (v : Result Target BusRefusal) → bus.area_by (plain c) ram addr byte v ≡ bus.area_by c ram addr byte v
    go (Ok Rom) = refl
    go (Ok Ram) = unused.area_plain c.mapper c.size ram addr byte
    go (Err w) = refl

-- ---- passing clocks

timed_plain : (m : Mapper) → timed (plain_mapper m) ≡ timed m
timed_plain (NoMapper m) = refl
timed_plain (Mbc1 m) = refl
timed_plain (Mbc2 m) = refl
timed_plain (Mbc3 m) = pick_has (λ (x : mbc3-state.Mbc3). x.timer ≡ m.timer) m.timer refl refl
timed_plain (Mbc5 m) = refl

untimed_on : (m : Mapper) (n : ℕ) → timed m ≡ false → mapper.clocks_on m n ≡ m
unfolding timer.clocks_on
untimed_on (NoMapper m) n e = refl
untimed_on (Mbc1 m) n e = refl
untimed_on (Mbc2 m) n e = refl
untimed_on (Mbc3 m) n e = ap (λ (b : Bool). Mbc3 (pick b (with_clock m (ticks n m.clock)) m)) e
untimed_on (Mbc5 m) n e = refl

-- whether there is a timer stays, and without one so does all else
pub timed_stays : (c d : Cartridge) (n : ℕ) → advance.advance_of c n ≡ Ok d → timed d.mapper ≡ timed c.mapper
timed_stays c d n e = ap (λ (x : Cartridge). timed x.mapper) (laws.advance_taken c d n e).is ∙ timed_on c.mapper n

pub untimed_still : (c d : Cartridge) (n : ℕ) → advance.advance_of c n ≡ Ok d → timed d.mapper ≡ false → d ≡ c
untimed_still c d n e h =
    (laws.advance_taken c d n e).is ∙ ap (with_mapper c) (untimed_on c.mapper n (sym (timed_stays c d n e) ∙ h))

pub record SameAdvance (x y : Result Cartridge AdvanceRefusal) : Type 0 where
  pub number : advance_number x ≡ advance_number y
  pub state : (s : List ℕ) → advance_state s x ≡ advance_state s y

pub advance_plain : (c : Cartridge) (n : ℕ) → SameAdvance (advance.advance_of (plain c) n) (advance.advance_of c n)
unfolding advance.advance_of plain
advance_plain c n =
    let next = Ok (with_mapper c (mapper.clocks_on (plain_mapper c.mapper) n)) in
    let e = ap (λ (t : Bool). first_no Err (no (not t) Unfit ∷ no (mapper.late (plain_mapper c.mapper) n) Late ∷ []) next) (fit_plain c)
    ∙ ap (λ (t : Bool). first_no Err (no (not (fit_cart c)) Unfit ∷ no t Late ∷ []) next) (unused.late_plain c.mapper n) in
    let both = go (not (fit_cart c)) (mapper.late c.mapper n) in
    record { number = ap advance_number e ∙ both.number; state = λ s. ap (advance_state s) e ∙ both.state s }
  where
    go : (t u : Bool)
        → SameAdvance
        (first_no Err (no t Unfit ∷ no u Late ∷ []) (Ok (with_mapper c (mapper.clocks_on (plain_mapper c.mapper) n))))
        (first_no Err (no t Unfit ∷ no u Late ∷ []) (Ok (with_mapper c (mapper.clocks_on c.mapper n))))
    go true u = record { number = refl; state = λ s. refl }
    go false true = record { number = refl; state = λ s. refl }
    go false false =
        let m = mapper.clocks_on (plain_mapper c.mapper) n in
        let k = mapper.clocks_on c.mapper n in
        let t = timed_on (plain_mapper c.mapper) n ∙ timed_plain c.mapper ∙ sym (timed_on c.mapper n) in
        record {
          number = refl;
          state = λ s.
              ap (λ (b : Bool). pick b (encode_of (with_mapper c m)) s) t
              ∙ ap (λ (l : List ℕ). pick (timed k) l s) (same_bytes c m k (unused.clocks_plain c.mapper n));
        }
