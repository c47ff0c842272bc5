-- Calls that were made, saves out and in among them, each with what its caller learns from the contract of the exported function
-- itself: they are the calls of `requests_of`.
use mathlib.Core.List.{List}
use mathlib.Core.Path.{◌≡◌, refl, ap, ◌∙◌}
use Prim.Native.Nat.{ℕ}
use lib.ListN.{length}
use Rattle.mount.specs.Mount as mount
use Rattle.player.specs.Bus.{mount_of, state_mounted}
use Rattle.player.specs.Save.{size_of, size_asked, save_of, room_saved, size_saved, load_of, state_loaded, area_loaded, clock_loaded}
use Rattle.player.specs.Windows.{windows_number, windows_after}
use Rattle.player.proofs.imf_mount.Reads as imf-mount
use Rattle.shipped.specs.Sequence.{Kept, kept}
use Rattle.shipped.specs.Requests.{Request, reply, request_of, requests_of, serves_of, AllTyped, Reply, bare}
use Rattle.shipped.specs.Along.{Out, Outs, out, outs}
use Rattle.shipped.specs.Ships.{kept_of}
use Rattle.shipped.specs.Made.{Call, MadeOther, asked, saved, loaded, looked, mounted, MadeRequest, AllRequested, access, other}
use Rattle.shipped.specs.Mounted.{kept_by, MountsBy, mounted_by}
use Rattle.shipped.proofs.PartLaws.{out_same, kept_same, reply_same}
use Rattle.shipped.proofs.Made.{of_one, of_two, made_is}
use Rattle.shipped.proofs.Mounted.{mount_leaves}
use Rattle.shipped.proofs.Saves.{requests_ship}
use Rattle.shipped.proofs.AlongLaws.{along_are}

-- an answered call, by its number, room and word, and what is kept
pub replied : {x y v w : ℕ} {a b s t ram area : List ℕ} → x ≡ y → a ≡ b → v ≡ w → s ≡ t → ram ≡ area
    → out (reply x a v) (kept s ram) ≡ out (reply y b w) (kept t area)
replied p q r e f = out_same (reply_same p q r) (kept_same e f)

pub other_is : {image : List ℕ} {k : Kept} {q : Request} {x : Out Reply Kept} → MadeOther image k q x → x ≡ request_of image k q
other_is (asked c p) =
    let size = c.passed.1.0.now in
    replied (of_one size_of p c.known.0) refl (of_one (λ s. size_asked s size) p c.known.1) refl refl
other_is (saved c p q) =
    let room = c.passed.1.1.0.now in
    let wall = c.passed.1.1.1.0 in
    let size = c.passed.1.1.1.1.0.now in
    replied (of_two (λ s ram. save_of s ram (length room) wall) p q c.known.0)
    (of_two (λ s ram. room_saved s ram room wall) p q c.known.1.0)
    (of_two (λ s ram. size_saved s ram (length room) wall size) p q c.known.1.1) refl refl
other_is (loaded c p q) =
    let bytes = c.passed.1.1.0.now in
    let wall = c.passed.1.1.1.0 in
    let clock = c.passed.1.1.1.1.0.now in
    replied (of_two (λ s ram. load_of s (length ram) bytes wall) p q c.known.0) refl
    (of_two (λ s ram. clock_loaded s (length ram) bytes wall clock) p q c.known.1.1.1)
    (of_two (λ s ram. state_loaded s (length ram) bytes wall) p q c.known.1.0)
    (of_two (λ s ram. area_loaded s ram bytes wall) p q c.known.1.1.0)
other_is (looked c p) =
    let words = c.passed.1.0.now in
    replied (of_one windows_number p c.known.0) (of_one (λ s. windows_after s words) p c.known.1) refl refl refl
other_is {image} {k} (mounted c p q r) =
    let s = c.passed.0.now in
    let ram = c.passed.1.1.0.now in
    let wall = c.passed.1.1.1.0 in
    replied (of_two (λ l area. mount_of l area wall) q r c.known.0) refl refl
    (of_one (λ s. state_mounted s image k.area wall) p (of_two (λ l area. state_mounted s l area wall) q r c.known.1.0))
    (of_two (λ l area. mount.area_after l area wall) q r c.known.1.1)

pub request_is : {image : List ℕ} {k : Kept} {q : Request} {x : Out Reply Kept} → MadeRequest image k q x → x ≡ request_of image k q
request_is (access m) = ap bare (made_is m)
request_is (other m) = other_is m

-- So after an `imf_mount` that answered 0 any list of calls that were made answers, and leaves, what the calls on the cartridge do.
pub made_requests_ship : (c : Call imf-mount.Learnt) (x : MountsBy c) (qs : List Request) → AllTyped qs
    → {got : Outs Reply Kept} → AllRequested c.passed.1.0.now (kept_by c) qs got
    → let served = serves_of c.passed.1.0.now (mounted_by c x) qs in got ≡ outs served.answers (kept_of served.left)
made_requests_ship c x qs o made =
    let image = c.passed.1.0.now in
    along_are (request_of image) (λ k q r m. request_is m) made
    ∙ ap (λ (k : Kept). requests_of image k qs) (mount_leaves c ∙ x.left)
    ∙ requests_ship image (mounted_by c x) x.sound qs o
