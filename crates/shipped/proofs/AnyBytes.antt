-- The exported calls on any bytes at all: those of a fit cartridge, in the library's own form or not, and all others.
use Rattle.std.specs.Prelude.{Ok, Err, Some, None, Result, Option}
use mathlib.Core.Bool.{Bool, false}
use mathlib.Core.List.{List}
use mathlib.Core.Path.{◌≡◌, refl, sym, ap, ◌∙◌, subst}
use Prim.Native.Nat.{ℕ}
use lib.ListN.{length}
use Rattle.facts.proofs.ChoiceLaws.{pick_cases}
use Rattle.bytes_le.specs.Little as bytes
use Rattle.mapper.specs.Mappers as mapper
use Rattle.mapper.specs.declared.Mapper.{Mapper}
use Rattle.cartridge.specs.Fit.{fit_cart}
use Rattle.cartridge.specs.With.{with_mapper}
use Rattle.cartridge.specs.declared.Cartridge.{Cartridge}
use Rattle.mount.specs.Mount as mount
use Rattle.mount.specs.declared.MountRefusal.{MountRefusal}
use Rattle.save_file.specs.Admit.{admit_noes}
use Rattle.save_file.specs.Save as save
use Rattle.save_file.specs.Load as load
use Rattle.save_file.specs.declared.SaveRefusal.TheVariants as unsaved
use Rattle.access.specs.Verdict.{noes_by, verdict_by, noes, verdict_of}
use Rattle.access.specs.declared.BusRefusal.TheVariants.{Unfit}
use Rattle.access.specs.declared.Target.{Target}
use Rattle.access.specs.declared.BusRefusal.{BusRefusal}
use Rattle.bus.specs.Bus as bus
use Rattle.bus.specs.Advance as advance
use Rattle.bus.specs.Run.{Machine}
use Rattle.bus.specs.Run as run
use Rattle.bus.proofs.Laws.{unfit_answer}
use Rattle.states.specs.Reading.{decode_of, mapper_at, cart_at}
use Rattle.states.specs.Plain.{plain_mapper, plain}
use Rattle.states.specs.OnState.{on_state}
use Rattle.states.proofs.Laws.{every_kind}
use Rattle.windows.specs.Windows.{ask_of}
use Rattle.flat_write.specs.Calls.{write_state, state_written, area_written, advance_state, state_advanced}
use Rattle.player.specs.Bus.{mount_state, mount_of, state_mounted, read_number, read_of, write_number, write_of, advance_number, advance_of}
use Rattle.player.specs.Save.{size_number, size_told, size_of, size_asked, save_of, room_saved, size_saved, loaded_number, loaded_state, loaded_clock, load_of, state_loaded, area_loaded, clock_loaded}
use Rattle.player.specs.Windows.{asked_number, asked_windows, windows_number, windows_after}
use Rattle.shipped.specs.Along.{Out, Outs, out}
use Rattle.shipped.specs.Sequence.{Kept, kept}
use Rattle.shipped.specs.Ships.{Sound}
use Rattle.shipped.specs.Requests.{Request, Reply, request_of, Typed, AllTyped}
use Rattle.shipped.specs.Requests as request
use Rattle.shipped.specs.Held.{Held, cart, others, held_by, Lent, lent, lent_of, on_others, held_mounted, on_lent, on_lents, Stands, Own}
use Rattle.shipped.specs.Made.{MadeRequest, AllRequested}
use Rattle.shipped.proofs.StepLaws.{decoded}
use Rattle.shipped.proofs.WidthLaws.{decoded_has}
use Rattle.shipped.proofs.Shipped.{decoded_in_time, mount_sound}
use Rattle.shipped.proofs.Saves.{state_after, request_any, own_after, serve_sound, request_read}
use Rattle.shipped.proofs.MadeSaves.{request_is, replied}
use Rattle.shipped.proofs.AlongLaws.{along_follows}

-- ---- 1. bytes that are read as a cartridge

-- What is read has nothing that its mapper does not use.
plain_at : (s : List ℕ) (k : ℕ) → plain_mapper (mapper_at s k) ≡ mapper_at s k
plain_at s = every_kind s (λ (k : ℕ) (m : Mapper). plain_mapper m ≡ m) refl refl refl refl refl refl refl (λ k. refl)

decoded_plain : (s : List ℕ) (c : Cartridge) → decode_of s ≡ Some c → plain c ≡ c
unfolding plain
decoded_plain s c =
    let k = bytes.field_at 1 s 0 in
    decoded_has s c (λ (x : Cartridge). with_mapper x (plain_mapper x.mapper) ≡ x) (ap (with_mapper (cart_at s k)) (plain_at s k))

-- ---- 2. bytes that are no fit cartridge

-- no state, or that of an unfit cartridge
pub data Other (s : List ℕ) : Type 0 where
  none : decode_of s ≡ None → Other s
  unfit : (c : Cartridge) → decode_of s ≡ Some c → fit_cart c ≡ false → Other s

-- what a call on a state answers and leaves is there what it does on none
on_other : {A : Type 0} {s : List ℕ} (f : Cartridge → A) (z : A) → ((c : Cartridge) → fit_cart c ≡ false → f c ≡ z) → Other s
    → on_state f z (decode_of s) ≡ z
on_other f z h (none e) = ap (on_state f z) e
on_other f z h (unfit c e n) = ap (on_state f z) e ∙ h c n

unfit_verdict : (c : Cartridge) (lent : Bool) (addr : ℕ) (bad : Bool) → fit_cart c ≡ false → verdict_of c lent addr bad ≡ Err Unfit
unfolding verdict_of noes
unfit_verdict c lent addr bad f = ap (λ (t : Bool). verdict_by addr (noes_by t lent addr bad)) f

module _ (c : Cartridge) (n : fit_cart c ≡ false) where
  unfit_read : (image ram : List ℕ) (addr : ℕ) → bus.read_of c image ram addr ≡ Err Unfit
  unfolding bus.read_of bus.read_verdict
  unfit_read image ram addr = ap (bus.read_by c image ram addr) (unfit_verdict c (bus.lent_both c (length image) (length ram)) addr false n)

  unfit_write : (ram : List ℕ) (addr byte : ℕ) → bus.write_verdict c ram addr byte ≡ Err Unfit
  unfolding bus.write_verdict
  unfit_write ram addr byte = unfit_verdict c (bus.lent_area c (length ram)) addr (mapper.bad_selection c.mapper addr byte) n

  unfit_room : save.room_for c ≡ Err unsaved.Unfit
  unfolding save.room_for
  unfit_room = rw n refl

  unfit_save : (ram : List ℕ) (size wall : ℕ) → save.save_of c ram size wall ≡ Err unsaved.Unfit
  unfolding save.save_of save.save_noes admit_noes
  unfit_save ram size wall = rw n refl

  unfit_load : (area : ℕ) (file : List ℕ) (wall : ℕ) → load.load_of c area file wall ≡ Err unsaved.Unfit
  unfolding load.load_of load.load_noes admit_noes
  unfit_load area file wall = rw n refl

  unfit_ask : ask_of c ≡ None
  unfolding ask_of
  unfit_ask = rw n refl

-- the bytes that a call leaves of such
abbrev other_after : List ℕ → List ℕ → List ℕ → Request → List ℕ
other_after image s area (request.bus a) = s
other_after image s area (request.asks size) = s
other_after image s area (request.saves room wall size) = s
other_after image s area (request.loads file wall clock) = s
other_after image s area (request.looks words) = s
other_after image s area (request.mounts wall) = mount_state s (mount.mount_of image area wall)

other_any : (image s area : List ℕ) → Other s → (q : Request)
    → request_of image (kept s area) q
    ≡ out (on_others image s area q).answer (kept (other_after image s area q) (on_others image s area q).left.area)
unfolding read_of write_of state_written area_written advance_of state_advanced bus.write_of bus.area_after size_of size_asked save_of room_saved size_saved load_of state_loaded area_loaded clock_loaded save.room_after load.area_after windows_number windows_after mount_of state_mounted
other_any image s area o (request.bus (run.reads addr)) =
    replied (on_other (λ c. read_number (bus.read_of c image area addr)) 0x10D (λ c n. ap read_number (unfit_read c n image area addr)) o)
    refl refl refl refl
other_any image s area o (request.bus (run.writes addr byte)) =
    replied
    (on_other (λ c. write_number (bus.write_of c area addr byte)) 13
    (λ c n. ap (λ (v : Result Target BusRefusal). write_number (bus.write_by c addr byte v)) (unfit_write c n area addr byte)) o)
    refl refl
    (on_other (λ c. write_state s (bus.write_of c area addr byte)) s
    (λ c n. ap (λ (v : Result Target BusRefusal). write_state s (bus.write_by c addr byte v)) (unfit_write c n area addr byte)) o)
    (on_other (λ c. bus.area_after c area addr byte) area (λ c n. ap (bus.area_by c area addr byte) (unfit_write c n area addr byte)) o)
other_any image s area o (request.bus (run.clocks k)) =
    replied
    (on_other (λ c. advance_number (advance.advance_of c k)) 13 (λ c n. ap advance_number (sym (unfit_answer c k n))) o)
    refl refl
    (on_other (λ c. advance_state s (advance.advance_of c k)) s (λ c n. ap (advance_state s) (sym (unfit_answer c k n))) o) refl
other_any image s area o (request.asks size) =
    replied (on_other (λ c. size_number (save.room_for c)) 13 (λ c n. ap size_number (unfit_room c n)) o) refl
    (on_other (λ c. size_told size (save.room_for c)) size (λ c n. ap (size_told size) (unfit_room c n)) o) refl refl
other_any image s area o (request.saves room wall size) =
    let l = length room in
    replied (on_other (λ c. size_number (save.save_of c area l wall)) 13 (λ c n. ap size_number (unfit_save c n area l wall)) o)
    (on_other (λ c. save.room_after c area room wall) room
    (λ c n. ap (save.room_by (save.bytes_of c.mapper area wall) room) (unfit_save c n area l wall)) o)
    (on_other (λ c. size_told size (save.save_of c area l wall)) size (λ c n. ap (size_told size) (unfit_save c n area l wall)) o) refl refl
other_any image s area o (request.loads file wall clock) =
    let l = length area in
    replied (on_other (λ c. loaded_number (load.load_of c l file wall)) 13 (λ c n. ap loaded_number (unfit_load c n l file wall)) o) refl
    (on_other (λ c. loaded_clock clock (load.load_of c l file wall)) clock (λ c n. ap (loaded_clock clock) (unfit_load c n l file wall)) o)
    (on_other (λ c. loaded_state s (load.load_of c l file wall)) s (λ c n. ap (loaded_state s) (unfit_load c n l file wall)) o)
    (on_other (λ c. load.area_by area file (load.load_of c l file wall)) area (λ c n. ap (load.area_by area file) (unfit_load c n l file wall)) o)
other_any image s area o (request.looks words) =
    replied (on_other (λ c. asked_number (ask_of c)) 13 (λ c n. ap asked_number (unfit_ask c n)) o)
    (on_other (λ c. asked_windows words (ask_of c)) words (λ c n. ap (asked_windows words) (unfit_ask c n)) o) refl refl refl
other_any image s area o (request.mounts wall) = refl

-- ---- 3. any bytes

abbrev SoundIn : List ℕ → Held → Type 0
SoundIn area (cart c) = Sound (record { cart = c; area = area })
SoundIn area (others s) = Other s

record Holds (own : Type 0) (l : Lent) (k : Kept) : Type 0 where
  pub stands : Stands own l k
  pub sound : SoundIn l.area l.held

begins : (k : Kept) → bytes.Octets k.state → Holds (Own k.state) (lent_of k) k
begins k o = go (decode_of k.state) refl
  where
    go : (d : Option Cartridge) → decode_of k.state ≡ d → Holds (Own k.state) (lent (held_by k.state d) k.area) k
    go (Some c) e =
        pick_cases (λ (h : Held). Holds (Own k.state) (lent h k.area) k) (fit_cart c)
        (λ f.
        record {
          stands = record { state = (e ∙ ap Some (sym (decoded_plain k.state c e)), λ p. sym (p c e)); area = refl };
          sound = record { fit = f; timed = decoded_in_time k.state c o e };
        }) (λ f. record { stands = record { state = refl; area = refl }; sound = unfit c e f })
    go None e = record { stands = record { state = refl; area = refl }; sound = none e }

other_holds : {own : Type 0} (image s area : List ℕ) → Other s → (q : Request) → Typed q
    → Holds own (on_others image s area q).left (kept (other_after image s area q) (on_others image s area q).left.area)
other_holds image s area o (request.bus a) b = record { stands = record { state = refl; area = refl }; sound = o }
other_holds image s area o (request.asks size) b = record { stands = record { state = refl; area = refl }; sound = o }
other_holds image s area o (request.saves room wall size) b = record { stands = record { state = refl; area = refl }; sound = o }
other_holds image s area o (request.loads file wall clock) b = record { stands = record { state = refl; area = refl }; sound = o }
other_holds image s area o (request.looks words) b = record { stands = record { state = refl; area = refl }; sound = o }
other_holds {own} image s area o (request.mounts wall) b = go (mount.mount_of image area wall) refl
  where
    after : List ℕ
    after = mount.area_after image area wall

    go : (r : Result Cartridge MountRefusal) → mount.mount_of image area wall ≡ r → Holds own (lent (held_mounted s r) after) (kept (mount_state s r) after)
    go (Ok c) e =
        let sound = mount_sound image area wall c b e in
        record {
          stands = record { state = (decoded (record { cart = c; area = after }) sound, λ _. refl); area = refl };
          sound = sound;
        }
    go (Err w) e = record { stands = record { state = refl; area = refl }; sound = o }

held_step : {own : Type 0} (image : List ℕ) (h : Held) (area : List ℕ) (k : Kept) → Holds own (lent h area) k → (q : Request) → Typed q
    → (x : Out Reply Kept) → MadeRequest image k q x
    → (x.answer ≡ (on_lent image (lent h area) q).answer) × Holds own (on_lent image (lent h area) q).left x.left
held_step image (cart c) area k r q o x made =
    let m : Machine = record { cart = c; area = area } in
    let s = k.state in
    let st = r.stands in
    let e =
    request_is made ∙ ap (λ (l : List ℕ). request_of image (kept s l) q) st.area ∙ request_any image s m st.state.0 q in
    let left = ap (λ (y : Out Reply Kept). y.left.state) e in (
      ap (λ (y : Out Reply Kept). y.answer) e,
      record {
        stands =
            record {
              state = (
                ap decode_of left ∙ request_read image s m r.sound st.state.0 q o,
                λ p. left ∙ ap (λ (t : List ℕ). state_after image t m q) (st.state.1 p) ∙ own_after image m q,
              );
              area = ap (λ (y : Out Reply Kept). y.left.area) e;
            };
        sound = serve_sound image m r.sound q o;
      },
    )
held_step {own} image (others t) area k r q o x made =
    let st = r.stands in
    let e =
    request_is made ∙ ap (λ (l : List ℕ). request_of image (kept k.state l) q) st.area
    ∙ ap (λ (s : List ℕ). request_of image (kept s area) q) st.state ∙ other_any image t area r.sound q in (
      ap (λ (y : Out Reply Kept). y.answer) e,
      subst (λ (y : Out Reply Kept). Holds own (on_others image t area q).left y.left) (sym e) (other_holds image t area r.sound q o),
    )

-- Any list of calls that were made, on any bytes, answers and leaves what the calls on what is held do.
pub any_bytes_ship : (image : List ℕ) (k : Kept) → bytes.Octets k.state → (qs : List Request) → AllTyped qs
    → {got : Outs Reply Kept} → AllRequested image k qs got
    → let served = on_lents image (lent_of k) qs in (got.answers ≡ served.answers) × Stands (Own k.state) served.left got.left
any_bytes_ship image k octets qs o {got} made =
    let all =
    along_follows (MadeRequest image) (on_lent image) (Holds (Own k.state)) Typed AllTyped (λ q rest os. os)
    (λ l j r q b x m. held_step image l.held l.area j r q b x m) (lent_of k) k (begins k octets) qs o got made in
    (all.0, all.1.stands)
