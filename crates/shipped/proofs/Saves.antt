-- What ships, with every call among them that is lent a state.
use Rattle.std.specs.Prelude.{Ok, Err, Some, None, Result, Option}
use mathlib.Core.List.{List, []}
use mathlib.Core.Path.{◌≡◌, refl, sym, ap, ◌∙◌, subst}
use Prim.Native.Nat.{ℕ}
use lib.ListN.{length}
use Rattle.cartridge.specs.declared.Cartridge.{Cartridge}
use Rattle.cartridge.specs.Fit.{InTime}
use Rattle.mount.specs.Mount as mount
use Rattle.mount.specs.declared.MountRefusal.{MountRefusal}
use Rattle.save_file.specs.Save as save
use Rattle.save_file.specs.Load as load
use Rattle.save_file.specs.declared.SaveRefusal.{SaveRefusal}
use Rattle.bus.specs.Run.{Machine}
use Rattle.states.specs.Layout.{encode_of}
use Rattle.states.specs.Plain.{plain}
use Rattle.states.specs.OnState.{on_state}
use Rattle.states.specs.Reading.{decode_of}
use Rattle.windows.specs.Windows.{ask_of}
use Rattle.windows.specs.declared.Windows.{Windows}
use Rattle.player.specs.Bus.{mount_state, mount_of, state_mounted}
use Rattle.player.specs.Save.{size_number, size_told, size_of, size_asked, save_of, room_saved, size_saved, loaded_number, loaded_state, loaded_clock, load_of, state_loaded, area_loaded, clock_loaded}
use Rattle.player.specs.Windows.{asked_number, asked_windows, windows_number, windows_after}
use Rattle.runs.proofs.SaveLaws as saves
use Rattle.runs.specs.Game.{cart_by}
use Rattle.shipped.specs.Ships.{kept_of, Sound}
use Rattle.shipped.specs.Requests.{Request, reply, request_of, requests_of, serve_of, serves_of, cart_mounted, Typed, AllTyped, Reply, bare}
use Rattle.shipped.specs.Requests as request
use Rattle.shipped.specs.Along.{Out, out, outs}
use Rattle.shipped.specs.Sequence.{Kept, kept}
use Rattle.shipped.proofs.InTimeLaws as timing
use Rattle.shipped.proofs.StepLaws.{decoded, state_of, step_any, own, step_sound, step_read}
use Rattle.shipped.proofs.PartLaws.{out_same, kept_same, reply_same}
use Rattle.shipped.proofs.PlainSaves.{room_plain, save_plain, room_after_plain, load_plain}
use Rattle.shipped.proofs.PlainWindows.{ask_plain}
use Rattle.shipped.proofs.Shipped.{mount_sound}
use Rattle.shipped.proofs.AlongLaws.{along_ships}

abbrev gives : ℕ → List ℕ → ℕ → List ℕ → List ℕ → Out Reply Kept
gives n room word s ram = out (reply n room word) (kept s ram)

-- ---- one call

-- the bytes that it leaves of s, by what the cartridge answers
abbrev pub state_after : List ℕ → List ℕ → Machine → Request → List ℕ
state_after image s m (request.bus a) = state_of s m a
state_after image s m (request.asks size) = s
state_after image s m (request.saves room wall size) = s
state_after image s m (request.loads bytes wall clock) = loaded_state s (load.load_of m.cart (length m.area) bytes wall)
state_after image s m (request.looks words) = s
state_after image s m (request.mounts wall) = mount_state s (mount.mount_of image m.area wall)

-- of any bytes that are read as the plain cartridge
pub request_any : (image s : List ℕ) (m : Machine) → decode_of s ≡ Some (plain m.cart) → (q : Request)
    → request_of image (kept s m.area) q
    ≡ out (serve_of image m q).answer (kept (state_after image s m q) (serve_of image m q).left.area)
unfolding size_of size_asked save_of room_saved size_saved load_of state_loaded area_loaded clock_loaded load.area_after windows_number windows_after mount_of state_mounted
request_any image s m e (request.bus a) = ap bare (step_any image s m e a)
request_any image s m e (request.asks size) =
    ap (λ (d : Option Cartridge). gives (on_state (λ c. size_number (save.room_for c)) 13 d) []
    (on_state (λ c. size_told size (save.room_for c)) size d) s m.area) e
    ∙ ap (λ (r : Result ℕ SaveRefusal). gives (size_number r) [] (size_told size r) s m.area) (room_plain m.cart)
request_any image s m e (request.saves room wall size) =
    ap (λ (d : Option Cartridge). gives (on_state (λ c. size_number (save.save_of c m.area (length room) wall)) 13 d)
    (on_state (λ c. save.room_after c m.area room wall) room d)
    (on_state (λ c. size_told size (save.save_of c m.area (length room) wall)) size d) s m.area) e
    ∙ ap (λ (r : Result ℕ SaveRefusal). gives (size_number r) (save.room_after (plain m.cart) m.area room wall) (size_told size r) s m.area)
    (save_plain m.cart m.area (length room) wall)
    ∙ ap (λ (l : List ℕ). gives (size_number (save.save_of m.cart m.area (length room) wall)) l
    (size_told size (save.save_of m.cart m.area (length room) wall)) s m.area) (room_after_plain m.cart m.area room wall)
request_any image s m e (request.loads bytes wall clock) =
    let n = length m.area in
    let same = load_plain m.cart n bytes wall in
    ap (λ (d : Option Cartridge). gives (on_state (λ c. loaded_number (load.load_of c n bytes wall)) 13 d) []
    (on_state (λ c. loaded_clock clock (load.load_of c n bytes wall)) clock d)
    (on_state (λ c. loaded_state s (load.load_of c n bytes wall)) s d)
    (on_state (λ c. load.area_by m.area bytes (load.load_of c n bytes wall)) m.area d)) e
    ∙ out_same (reply_same same.number refl (same.clock clock)) (kept_same (same.state s) (same.area m.area bytes))
request_any image s m e (request.looks words) =
    ap (λ (d : Option Cartridge). gives (on_state (λ c. asked_number (ask_of c)) 13 d) (on_state (λ c. asked_windows words (ask_of c)) words d) 0 s m.area) e
    ∙ ap (λ (r : Option Windows). gives (asked_number r) (asked_windows words r) 0 s m.area) (ask_plain m.cart)
request_any image s m e (request.mounts wall) = refl

-- of the cartridge's own they are the next one's own
pub own_after : (image : List ℕ) (m : Machine) (q : Request) → state_after image (encode_of m.cart) m q ≡ encode_of (serve_of image m q).left.cart
own_after image m (request.bus a) = own image m a
own_after image m (request.asks size) = refl
own_after image m (request.saves room wall size) = refl
own_after image m (request.loads bytes wall clock) = go (load.load_of m.cart (length m.area) bytes wall)
  where
    go : (r : Result (Option Cartridge) SaveRefusal) → loaded_state (encode_of m.cart) r ≡ encode_of (cart_by m.cart r)
    go (Ok (Some d)) = refl
    go (Ok None) = refl
    go (Err w) = refl
own_after image m (request.looks words) = refl
own_after image m (request.mounts wall) = go (mount.mount_of image m.area wall)
  where
    go : (r : Result Cartridge MountRefusal) → mount_state (encode_of m.cart) r ≡ encode_of (cart_mounted m.cart r)
    go (Ok d) = refl
    go (Err w) = refl

pub request_ships : (image : List ℕ) (m : Machine) → Sound m → (q : Request)
    → request_of image (kept_of m) q ≡ out (serve_of image m q).answer (kept_of (serve_of image m q).left)
request_ships image m h q =
    request_any image (encode_of m.cart) m (decoded m h) q
    ∙ out_same refl (kept_same (own_after image m q) refl)

pub serve_sound : (image : List ℕ) (m : Machine) → Sound m → (q : Request) → Typed q → Sound (serve_of image m q).left
serve_sound image m h (request.bus a) o = step_sound image m h a o
serve_sound image m h (request.asks size) o = h
serve_sound image m h (request.saves room wall size) o = h
serve_sound image m h (request.loads bytes wall clock) o = go (load.load_of m.cart (length m.area) bytes wall) refl
  where
    go : (r : Result (Option Cartridge) SaveRefusal) → load.load_of m.cart (length m.area) bytes wall ≡ r
        → Sound (record { cart = cart_by m.cart r; area = load.area_after m.cart m.area bytes wall })
    go (Ok (Some d)) e =
        let t = saves.whole_taken m.cart (length m.area) bytes wall d e in
        record {
          fit = saves.load_fit m.cart d (length m.area) bytes wall e;
          timed =
              subst (λ (x : Cartridge). InTime x.mapper) (sym t.is) (timing.woken_in_time m.cart.mapper _ wall (t.load.early t.block));
        }
    go (Ok None) e = record { fit = h.fit; timed = h.timed }
    go (Err w) e = record { fit = h.fit; timed = h.timed }
serve_sound image m h (request.looks words) o = h
serve_sound image m h (request.mounts wall) o = go (mount.mount_of image m.area wall) refl
  where
    go : (r : Result Cartridge MountRefusal) → mount.mount_of image m.area wall ≡ r
        → Sound (record { cart = cart_mounted m.cart r; area = mount.area_after image m.area wall })
    go (Ok d) e = mount_sound image m.area wall d o e
    go (Err w) e = record { fit = h.fit; timed = h.timed }

-- and what it leaves of such bytes is read as what is then left
pub request_read : (image s : List ℕ) (m : Machine) → Sound m → decode_of s ≡ Some (plain m.cart) → (q : Request) → Typed q
    → decode_of (state_after image s m q) ≡ Some (plain (serve_of image m q).left.cart)
request_read image s m h e (request.bus a) o = step_read image s m h e a o
request_read image s m h e (request.asks size) o = e
request_read image s m h e (request.saves room wall size) o = e
request_read image s m h e (request.loads bytes wall clock) o =
    go (load.load_of m.cart (length m.area) bytes wall) (serve_sound image m h (request.loads bytes wall clock) o)
  where
    after : List ℕ
    after = load.area_after m.cart m.area bytes wall

    go : (r : Result (Option Cartridge) SaveRefusal) → Sound (record { cart = cart_by m.cart r; area = after }) → decode_of (loaded_state s r) ≡ Some (plain (cart_by m.cart r))
    go (Ok (Some d)) l = decoded (record { cart = d; area = after }) l
    go (Ok None) l = e
    go (Err w) l = e
request_read image s m h e (request.looks words) o = e
request_read image s m h e (request.mounts wall) o =
    go (mount.mount_of image m.area wall) (serve_sound image m h (request.mounts wall) o)
  where
    after : List ℕ
    after = mount.area_after image m.area wall

    go : (r : Result Cartridge MountRefusal) → Sound (record { cart = cart_mounted m.cart r; area = after })
        → decode_of (mount_state s r) ≡ Some (plain (cart_mounted m.cart r))
    go (Ok d) l = decoded (record { cart = d; area = after }) l
    go (Err w) l = e

-- ---- any list of calls

-- Reads, writes, advances, saves out and in, windows and mountings, in any order: the numbers, the rooms and the words are those of the calls on the
-- cartridge, and so are the bytes and the area that are left.
pub requests_ship : (image : List ℕ) (m : Machine) → Sound m → (qs : List Request) → AllTyped qs
    → requests_of image (kept_of m) qs ≡ outs (serves_of image m qs).answers (kept_of (serves_of image m qs).left)
requests_ship image m h qs o =
    along_ships (request_of image) (serve_of image) kept_of Sound Typed AllTyped (λ q rest os. os) (λ k s q _. request_ships image k s q)
    (serve_sound image) m h qs o
