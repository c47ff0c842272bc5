-- What ships, all of it: accesses through windows or not, saves out and in, windows and mountings, in any order.
use Rattle.std.specs.Prelude.{Ok, Err, Some, None, Result, Option}
use mathlib.Core.List.{List, [], ◌∷◌}
use mathlib.Core.Path.{◌≡◌, refl, sym, ap, ◌∙◌, subst}
use Prim.Native.Nat.{ℕ}
use Rattle.mount.specs.Mount as mount
use Rattle.mount.specs.declared.MountRefusal.{MountRefusal}
use Rattle.bus.specs.Run.{Machine, Ready}
use Rattle.windows.specs.Windows.{windows_of}
use Rattle.player.specs.Bus.{mount_number}
use Rattle.player.specs.Save.{loaded_number}
use Rattle.player.specs.Windows.{numbers_of}
use Rattle.runs.specs.Game.{answer_to, cart_by}
use Rattle.runs.proofs.RunLaws.{run_ready, mount_ready}
use Rattle.runs.proofs.SaveLaws.{load_ready}
use Rattle.shipped.specs.Ships.{Sound}
use Rattle.shipped.specs.Requests.{Request, serve_of, serves_of, cart_mounted, Typed, AllTyped, Reply, bare}
use Rattle.shipped.specs.Requests as request
use Rattle.shipped.specs.Through.{Watched, watched_of, Watches}
use Rattle.shipped.specs.Along.{Out, Outs, out, outs}
use Rattle.shipped.specs.Sequence.{Kept}
use Rattle.shipped.specs.Made.{Stays, MadeAny, AllMadeAny, access, other}
use Rattle.shipped.proofs.Saves.{request_ships, serve_sound}
use Rattle.shipped.proofs.MadeSaves.{other_is}
use Rattle.shipped.proofs.Through.{renewed_are, access_stays, through_step}
use Rattle.shipped.proofs.PartLaws.{outs_same, passed_same}
use Rattle.shipped.proofs.MadeThrough.{taken_apart}
use Rattle.shipped.proofs.AlongLaws.{along_follows}
use Rattle.cartridge.specs.declared.Cartridge.{Cartridge}
use Rattle.save_file.specs.declared.SaveRefusal.{SaveRefusal}

-- ---- the image and the area stay those of the mounting

serve_ready : (image : List ℕ) (m : Machine) → Ready image m → (q : Request) → Typed q → Ready image (serve_of image m q).left
unfolding mount.area_after
serve_ready image m r (request.bus a) o = run_ready image m (a ∷ []) r (o, tt)
serve_ready image m r (request.asks size) o = r
serve_ready image m r (request.saves room wall size) o = r
serve_ready image m r (request.loads bytes wall clock) o = load_ready bytes wall r
serve_ready image m r (request.looks words) o = r
serve_ready image m r (request.mounts wall) o = go (mount.mount_of image m.area wall) refl
  where
    go : (x : Result Cartridge MountRefusal) → mount.mount_of image m.area wall ≡ x
        → Ready image (record { cart = cart_mounted m.cart x; area = mount.area_after image m.area wall })
    go (Ok d) e = mount_ready image m.area wall d e
    go (Err w) e =
        subst (λ (l : List ℕ). Ready image (record { cart = m.cart; area = l })) (ap (λ (x : Result Cartridge MountRefusal). mount.area_by x m.area) (sym e))
        (record { fit = r.fit; image = r.image; area = r.area })

-- ---- and the windows where they were

module _ (image : List ℕ) (m : Machine) (h : Sound m) (r : Ready image m) where
  serve_stays : (q : Request) → Stays q (serve_of image m q).answer.number → windows_of (serve_of image m q).left.cart ≡ windows_of m.cart
  serve_stays (request.bus a) s = access_stays image m h r a s
  serve_stays (request.asks size) s = refl
  serve_stays (request.saves room wall size) s = refl
  serve_stays (request.loads bytes wall clock) s = go (answer_to m bytes wall) s
    where
      go : (x : Result (Option Cartridge) SaveRefusal) → (loaded_number x ≡ 0 → ⊥) → windows_of (cart_by m.cart x) ≡ windows_of m.cart
      go (Ok (Some d)) n = absurd (n refl)
      go (Ok None) n = refl
      go (Err w) n = refl
  serve_stays (request.looks words) s = refl
  serve_stays (request.mounts wall) s = go (mount.mount_of image m.area wall) s
    where
      go : (x : Result Cartridge MountRefusal) → (mount_number x ≡ 0 → ⊥) → windows_of (cart_mounted m.cart x) ≡ windows_of m.cart
      go (Ok d) n = absurd (n refl)
      go (Err w) n = refl

  -- ---- one call

  any_ships : {q : Request} → Typed q → {x : Out Reply Watched} → MadeAny image (watched_of m) q x
      → x ≡ out (serve_of image m q).answer (watched_of (serve_of image m q).left)
  any_ships o (access made) = ap bare (through_step image m h r o made)
  any_ships {q} o (other made n) =
      let e = other_is made ∙ request_ships image m h q in
      passed_same e
      (renewed_are (serve_of image m q).left (serve_sound image m h q o) (ap (λ (y : Out Reply Kept). y.left.state) e)
      (λ s. ap numbers_of (sym (serve_stays q (subst (λ (y : Out Reply Kept). Stays q y.answer.number) e s)))) n)

-- ---- any list of them

-- Any list of exported calls that were made, accesses through windows or not and saves among them, answers and leaves what the calls on
-- that cartridge do.
pub made_all_ship : (image : List ℕ) (m : Machine) (k : Watched) → Watches image m k → (qs : List Request) → AllTyped qs
    → {got : Outs Reply Watched} → AllMadeAny image k qs got
    → let served = serves_of image m qs in got ≡ outs served.answers (watched_of served.left)
made_all_ship image m k h qs o {got} made =
    let all =
    along_follows (MadeAny image) (serve_of image) (Watches image) Typed AllTyped (λ q rest os. os)
    (λ n j w q b y x. taken_apart
    (any_ships image n w.sound w.ready b (subst (λ (i : Watched). MadeAny image i q y) w.is x))
    (serve_sound image n w.sound q b) (serve_ready image n w.ready q b))
    m k h qs o got made in
    outs_same all.0 all.1.is
