-- Accesses that were made through windows, one after the other.
use Rattle.std.specs.Prelude.{Some}
use mathlib.Core.List.{List, [], ◌∷◌}
use mathlib.Core.Path.{◌≡◌, sym, ap, ◌∙◌, subst}
use Prim.Native.Nat.{ℕ}
use Rattle.bytes_le.specs.Little as bytes
use Rattle.cartridge.specs.declared.Cartridge.{Cartridge}
use Rattle.bus.specs.Run.{Access, Machine, run_of, Ready}
use Rattle.states.specs.Layout.{encode_of}
use Rattle.states.specs.Reading.{decode_of}
use Rattle.player.specs.Windows.{windows_after}
use Rattle.player.proofs.imf_mount.Reads as imf-mount
use Rattle.player.proofs.imf_windows.Reads as imf-windows
use Rattle.runs.specs.Calls.{Octet, Octets}
use Rattle.runs.proofs.RunLaws.{mount_ready, run_ready}
use Rattle.shipped.specs.Sequence.{Kept, kept}
use Rattle.shipped.specs.Ships.{numbers_of, numbered, kept_of, Sound}
use Rattle.shipped.specs.Through.{Watched, watched, watched_of, Watches}
use Rattle.shipped.specs.Along.{Out, Outs, outs}
use Rattle.shipped.specs.Made.{Call, MadeThrough, AllMadeThrough}
use Rattle.shipped.specs.Mounted.{kept_by, MountsBy, mounted_by, watched_by}
use Rattle.shipped.proofs.PartLaws.{outs_same, watched_same}
use Rattle.shipped.proofs.Made.{of_one}
use Rattle.shipped.proofs.Mounted.{mount_leaves}
use Rattle.shipped.proofs.StepLaws.{step_sound}
use Rattle.shipped.proofs.Shipped.{numbered_run, decoded_in_time}
use Rattle.shipped.proofs.Through.{windows_are, through_step}
use Rattle.shipped.proofs.AlongLaws.{along_follows}

-- An `imf_windows` on the bytes of a sound cartridge: the player then keeps that one.
pub windows_watch : (image : List ℕ) (m : Machine) {k : Kept} (d : Call imf-windows.Learnt) → d.passed.0.now ≡ k.state → k ≡ kept_of m → Sound m
    → Ready image m → Watches image m (watched k d.left.1.0.now)
windows_watch image m d e left s r =
    record {
      is =
          watched_same left
          (of_one (λ s. windows_after s d.passed.1.0.now) (e ∙ ap (λ (k : Kept). k.state) left) d.known.1
          ∙ windows_are m s d.passed.1.0.now);
      sound = s;
      ready = r;
    }

pub mounted_ready : (c : Call imf-mount.Learnt) (x : MountsBy c) → Ready c.passed.1.0.now (mounted_by c x)
mounted_ready c x = mount_ready c.passed.1.0.now c.passed.1.1.0.now c.passed.1.1.1.0 x.cart x.mounted

-- An `imf_mount` that answered 0, and an `imf_windows` on what it left: what the player then keeps is the mounted cartridge's.
pub watched_mounted : (c : Call imf-mount.Learnt) (x : MountsBy c) (d : Call imf-windows.Learnt) → d.passed.0.now ≡ (kept_by c).state
    → Watches c.passed.1.0.now (mounted_by c x) (watched_by c d)
watched_mounted c x d e =
    windows_watch c.passed.1.0.now (mounted_by c x) d e (mount_leaves c ∙ x.left) x.sound (mounted_ready c x)

-- So it is with bytes that were kept, as the library wrote them, and an image and an area of the lengths that they want.
pub watched_again : (image s ram : List ℕ) (c : Cartridge) → bytes.Octets s → decode_of s ≡ Some c → encode_of c ≡ s
    → Ready image (record { cart = c; area = ram }) → (d : Call imf-windows.Learnt) → d.passed.0.now ≡ s
    → Watches image (record { cart = c; area = ram }) (watched (kept s ram) d.left.1.0.now)
watched_again image s ram c o e own r d p =
    windows_watch image (record { cart = c; area = ram }) d p (ap (λ (t : List ℕ). kept t ram) (sym own))
    (record { fit = r.fit; timed = decoded_in_time s c o e }) r

-- what follows of the answer and of what is left
pub taken_apart : {X : Type 0} {image : List ℕ} {x : Out X Watched} {y : Out X Machine} → x ≡ record { answer = y.answer; left = watched_of y.left }
    → Sound y.left → Ready image y.left → (x.answer ≡ y.answer) × Watches image y.left x.left
taken_apart {X} e s r =
    (ap (λ (z : Out X Watched). z.answer) e, record { is = ap (λ (z : Out X Watched). z.left) e; sound = s; ready = r })

-- Any list of accesses that were made through windows from there on answers, and leaves, what the run of that cartridge does.
pub made_through_ships : (image : List ℕ) (m : Machine) (k : Watched) → Watches image m k → (accesses : List Access) → Octets accesses
    → {got : Outs ℕ Watched} → AllMadeThrough image k accesses got
    → let r = run_of image m accesses in got ≡ outs (numbers_of accesses r.answers) (watched_of r.left)
made_through_ships image m k h accesses o {got} made =
    let all =
    along_follows (MadeThrough image) (numbered image) (Watches image) Octet Octets (λ a as' os. os)
    (λ n j w a b y x. taken_apart
    (through_step image n w.sound w.ready b (subst (λ (i : Watched). MadeThrough image i a y) w.is x))
    (step_sound image n w.sound a b) (run_ready image n (a ∷ []) w.ready (b, tt)))
    m k h accesses o got made in
    outs_same all.0 all.1.is ∙ ap (λ (y : Outs ℕ Machine). outs y.answers (watched_of y.left)) (numbered_run image m accesses)
