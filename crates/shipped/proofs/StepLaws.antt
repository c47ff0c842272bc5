-- One exported call on the bytes of a cartridge is the bus's call on the cartridge.
use Rattle.std.specs.Prelude.{Ok, Err, Some, Result, Option}
use mathlib.Core.List.{List}
use mathlib.Core.Logic.{◌⊎◌, inl, inr}
use mathlib.Core.Path.{◌≡◌, refl, sym, ap, ◌∙◌, subst}
use Prim.Native.Nat.{ℕ}
use Rattle.facts.proofs.ChoiceLaws.{pick_cases}
use Rattle.mapper.specs.Mappers as mapper
use Rattle.mapper.specs.declared.Mapper.{Mapper}
use Rattle.window.specs.Window as window
use Rattle.cartridge.specs.With.{with_mapper}
use Rattle.cartridge.specs.declared.Cartridge.{Cartridge}
use Rattle.cartridge.specs.Fit.{InTime}
use Rattle.bus.specs.Bus as bus
use Rattle.bus.specs.Advance as advance
use Rattle.bus.specs.Run.{Access, Machine, after_read, after_write, after_clocks, step_of}
use Rattle.bus.specs.Run as run
use Rattle.states.specs.Layout.{encode_of}
use Rattle.states.specs.Reading.{decode_of}
use Rattle.states.specs.Plain.{plain}
use Rattle.states.specs.OnState.{on_state}
use Rattle.states.proofs.Back.{fit_decode_encode}
use Rattle.flat_write.specs.Calls.{write_state, state_written, area_written, timed, advance_state, state_advanced}
use Rattle.player.specs.Bus.{read_number, read_of, write_number, write_of, advance_number, advance_of}
use Rattle.runs.specs.Calls.{Octet}
use Rattle.runs.proofs.BusLaws as laws
use Rattle.runs.proofs.RunLaws.{read_left}
use Rattle.shipped.specs.Sequence.{call_of, Kept, kept}
use Rattle.shipped.specs.Ships.{number_of, kept_of, Sound}
use Rattle.shipped.specs.Along.{Out, out}
use Rattle.shipped.proofs.InTimeLaws as timing
use Rattle.shipped.proofs.PartLaws.{out_same, kept_same}
use Rattle.shipped.proofs.PlainLaws.{read_plain, write_plain, store_plain, untimed_still, advance_plain}
use Rattle.access.specs.declared.BusRefusal.{BusRefusal}
use Rattle.clock.specs.declared.AdvanceRefusal.{AdvanceRefusal}

-- the bytes of a sound cartridge are read as its plain one
pub decoded : (m : Machine) → Sound m → decode_of (encode_of m.cart) ≡ Some (plain m.cart)
decoded m h = fit_decode_encode m.cart h.fit h.timed

abbrev answered : ℕ → List ℕ → List ℕ → Out ℕ Kept
answered x s ram = out x (kept s ram)

-- the bytes that a call leaves of s, by what the cartridge answers
abbrev pub state_of : List ℕ → Machine → Access → List ℕ
state_of s m (run.reads addr) = s
state_of s m (run.writes addr byte) = write_state s (bus.write_of m.cart m.area addr byte)
state_of s m (run.clocks n) = advance_state s (advance.advance_of m.cart n)

-- of any bytes that are read so
pub step_any : (image s : List ℕ) (m : Machine) → decode_of s ≡ Some (plain m.cart) → (a : Access)
    → call_of image (record { state = s; area = m.area }) a
    ≡ answered (number_of a (step_of image m a).answer) (state_of s m a) (step_of image m a).left.area
unfolding read_of write_of state_written area_written advance_of state_advanced
step_any image s m e (run.reads addr) =
    ap (λ (d : Option Cartridge). answered (on_state (λ c. read_number (bus.read_of c image m.area addr)) 0x10D d) s m.area) e
    ∙ ap (λ (r : Result ℕ BusRefusal). answered (read_number r) s m.area) (read_plain m.cart image m.area addr)
    ∙ go (bus.read_of m.cart image m.area addr)
  where
    go : (r : Result ℕ BusRefusal)
        → answered (read_number r) s m.area ≡ answered (number_of (run.reads addr) (after_read m r).answer) s (after_read m r).left.area
    go (Ok b) = refl
    go (Err w) = refl
step_any image s m e (run.writes addr byte) =
    let same = write_plain m.cart m.area addr byte in
    ap (λ (d : Option Cartridge). answered (on_state (λ c. write_number (bus.write_of c m.area addr byte)) 13 d)
    (on_state (λ c. write_state s (bus.write_of c m.area addr byte)) s d)
    (on_state (λ c. bus.area_after c m.area addr byte) m.area d)) e
    ∙ out_same same.number (kept_same (same.state s) (store_plain m.cart m.area addr byte))
    ∙ go (bus.write_of m.cart m.area addr byte)
  where
    after : List ℕ
    after = bus.area_after m.cart m.area addr byte

    go : (r : Result Cartridge BusRefusal)
        → answered (write_number r) (write_state s r) after
        ≡ answered (number_of (run.writes addr byte) (after_write m r after).answer) (write_state s r) (after_write m r after).left.area
    go (Ok c) = refl
    go (Err w) = refl
step_any image s m e (run.clocks n) =
    let same = advance_plain m.cart n in
    ap (λ (d : Option Cartridge). answered (on_state (λ c. advance_number (advance.advance_of c n)) 13 d)
    (on_state (λ c. advance_state s (advance.advance_of c n)) s d) m.area) e
    ∙ out_same same.number (kept_same (same.state s) refl)
    ∙ go (advance.advance_of m.cart n)
  where
    go : (r : Result Cartridge AdvanceRefusal)
        → answered (advance_number r) (advance_state s r) m.area
        ≡ answered (number_of (run.clocks n) (after_clocks m r).answer) (advance_state s r) (after_clocks m r).left.area
    go (Ok c) = refl
    go (Err w) = refl

-- of the cartridge's own they are the next one's own
pub own : (image : List ℕ) (m : Machine) (a : Access) → state_of (encode_of m.cart) m a ≡ encode_of (step_of image m a).left.cart
own image m (run.reads addr) = ap (λ (x : Machine). encode_of x.cart) (sym (read_left image m addr))
own image m (run.writes addr byte) = go (bus.write_of m.cart m.area addr byte)
  where
    go : (r : Result Cartridge BusRefusal)
        → write_state (encode_of m.cart) r ≡ encode_of (after_write m r (bus.area_after m.cart m.area addr byte)).left.cart
    go (Ok c) = refl
    go (Err w) = refl
own image m (run.clocks n) = go (advance.advance_of m.cart n) refl
  where
    go : (r : Result Cartridge AdvanceRefusal) → advance.advance_of m.cart n ≡ r → advance_state (encode_of m.cart) r ≡ encode_of (after_clocks m r).left.cart
    go (Ok c) e =
        pick_cases (λ (l : List ℕ). l ≡ encode_of c) (timed c.mapper) (λ t. refl)
        (λ t. ap encode_of (sym (untimed_still m.cart c n e t)))
    go (Err w) e = refl

pub step_ships : (image : List ℕ) (m : Machine) → Sound m → (a : Access)
    → call_of image (kept_of m) a ≡ out (number_of a (step_of image m a).answer) (kept_of (step_of image m a).left)
step_ships image m h a = step_any image (encode_of m.cart) m (decoded m h) a ∙ out_same refl (kept_same (own image m a) refl)

-- ---- and leaves a sound one

in_time_lem : (c d : Cartridge) (m : Mapper) → d ≡ with_mapper c m → InTime m → InTime d.mapper
in_time_lem c d m e h = subst (λ (x : Cartridge). InTime x.mapper) (sym e) h

pub step_sound : (image : List ℕ) (m : Machine) → Sound m → (a : Access) → Octet a → Sound (step_of image m a).left
step_sound image m h (run.reads addr) o = subst Sound (sym (read_left image m addr)) h
step_sound image m h (run.writes addr byte) o = go (bus.write_of m.cart m.area addr byte) refl
  where
    in_time' : (x : Mapper)
        → (x ≡ mapper.written m.cart.mapper addr byte) ⊎ (x ≡ window.mapper_after m.cart.mapper m.cart.size addr byte)
        → InTime x
    in_time' x (inl e) = subst InTime (sym e) (timing.written_in_time m.cart.mapper addr byte h.timed)
    in_time' x (inr e) = subst InTime (sym e) (timing.after_in_time m.cart.mapper m.cart.size addr byte h.timed)

    go : (r : Result Cartridge BusRefusal) → bus.write_of m.cart m.area addr byte ≡ r
        → Sound (after_write m r (bus.area_after m.cart m.area addr byte)).left
    go (Ok d) e =
        let t = laws.write_taken m.cart d m.area addr byte e in
        record {
          fit = laws.write_fit m.cart d m.area addr byte o e;
          timed = in_time_lem m.cart d t.next t.is (in_time' t.next t.way);
        }
    go (Err w) e = record { fit = h.fit; timed = h.timed }
step_sound image m h (run.clocks n) o = go (advance.advance_of m.cart n) refl
  where
    go : (r : Result Cartridge AdvanceRefusal) → advance.advance_of m.cart n ≡ r → Sound (after_clocks m r).left
    go (Ok d) e =
        let t = laws.advance_taken m.cart d n e in
        record {
          fit = laws.advance_fit m.cart d n e;
          timed =
              in_time_lem m.cart d (mapper.clocks_on m.cart.mapper n) t.is
              (timing.clocks_in_time m.cart.mapper n t.early h.timed);
        }
    go (Err w) e = h

-- and bytes that are read as its plain one
pub step_read : (image s : List ℕ) (m : Machine) → Sound m → decode_of s ≡ Some (plain m.cart) → (a : Access) → Octet a
    → decode_of (state_of s m a) ≡ Some (plain (step_of image m a).left.cart)
step_read image s m h e (run.reads addr) o = e ∙ ap (λ (x : Machine). Some (plain x.cart)) (sym (read_left image m addr))
step_read image s m h e (run.writes addr byte) o =
    go (bus.write_of m.cart m.area addr byte) (step_sound image m h (run.writes addr byte) o)
  where
    after : List ℕ
    after = bus.area_after m.cart m.area addr byte

    go : (r : Result Cartridge BusRefusal) → Sound (after_write m r after).left → decode_of (write_state s r) ≡ Some (plain (after_write m r after).left.cart)
    go (Ok d) l = decoded (record { cart = d; area = after }) l
    go (Err w) l = e
step_read image s m h e (run.clocks n) o = go (advance.advance_of m.cart n) refl (step_sound image m h (run.clocks n) o)
  where
    go : (r : Result Cartridge AdvanceRefusal) → advance.advance_of m.cart n ≡ r → Sound (after_clocks m r).left
        → decode_of (advance_state s r) ≡ Some (plain (after_clocks m r).left.cart)
    go (Ok d) a l =
        pick_cases (λ (t : List ℕ). decode_of t ≡ Some (plain d)) (timed d.mapper) (λ t. decoded (record { cart = d; area = m.area }) l)
        (λ t. e ∙ ap (λ (c : Cartridge). Some (plain c)) (sym (untimed_still m.cart d n a t)))
    go (Err w) a l = e
