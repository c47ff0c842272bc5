-- The same with every call among them that is lent a state: `imf_save_size`, `imf_save_out`, `imf_save_in`, `imf_windows` and `imf_mount`, by
-- the definitions that their contracts cite, and beside them what the calls below do with the cartridge.
use Rattle.std.specs.Prelude.{List, [], ◌∷◌, ℕ, ◌<◌, ◌^◌, length, Ok, Err, Result}
use Rattle.cartridge.specs.declared.Cartridge.{Cartridge}
use Rattle.mount.specs.Mount as mount
use Rattle.mount.specs.declared.MountRefusal.{MountRefusal}
use Rattle.save_file.specs.Save as save
use Rattle.bus.specs.Run.{Access, Machine}
use Rattle.windows.specs.Windows.{ask_of}
use Rattle.player.specs.Bus.{mount_number, mount_of, state_mounted}
use Rattle.player.specs.Save.{size_number, size_told, size_of, size_asked, save_of, room_saved, size_saved, loaded_number, loaded_clock, load_of, state_loaded, area_loaded, clock_loaded}
use Rattle.player.specs.Windows.{asked_number, asked_windows, windows_number, windows_after}
use Rattle.runs.specs.Calls as calls
use Rattle.runs.specs.Game.{answer_to, loaded_machine}
use Rattle.shipped.specs.Along.{Out, Outs, out, along}
use Rattle.shipped.specs.Sequence.{Kept, kept, call_of}
use Rattle.shipped.specs.Ships.{numbered}

-- an access of the bus; a save's size asked, into a word that held a number; a save written into a room at a wall time, its size into
-- such a word; a save read at a wall time, and whether the clock came into such a word; the windows asked for, into six words; the image
-- mounted anew, at a wall time
pub data Request : Type 0 where
  bus : Access → Request
  asks : ℕ → Request
  saves : List ℕ → ℕ → ℕ → Request
  loads : List ℕ → ℕ → ℕ → Request
  looks : List ℕ → Request
  mounts : ℕ → Request

-- the number that is answered, and what the room and the word then hold; where none is lent, nothing and 0
pub record Reply : Type 0 where
  pub number : ℕ
  pub room : List ℕ
  pub word : ℕ

abbrev pub reply : ℕ → List ℕ → ℕ → Reply
reply number room word = record { number = number; room = room; word = word }

-- a number alone
abbrev pub bare : {S : Type 0} → Out ℕ S → Out Reply S
bare x = out (reply x.answer [] 0) x.left

-- ---- over the bytes of a state

abbrev pub request_of : List ℕ → Kept → Request → Out Reply Kept
request_of image k (bus a) = bare (call_of image k a)
request_of image k (asks size) = out (reply (size_of k.state) [] (size_asked k.state size)) k
request_of image k (saves room wall size) =
    out
    (reply (save_of k.state k.area (length room) wall) (room_saved k.state k.area room wall)
    (size_saved k.state k.area (length room) wall size)) k
request_of image k (loads bytes wall clock) =
    out (reply (load_of k.state (length k.area) bytes wall) [] (clock_loaded k.state (length k.area) bytes wall clock))
    (kept (state_loaded k.state (length k.area) bytes wall) (area_loaded k.state k.area bytes wall))
request_of image k (looks words) = out (reply (windows_number k.state) (windows_after k.state words) 0) k
request_of image k (mounts wall) =
    out (reply (mount_of image k.area wall) [] 0) (kept (state_mounted k.state image k.area wall) (mount.area_after image k.area wall))

abbrev pub requests_of : List ℕ → Kept → List Request → Outs Reply Kept
requests_of image = along (request_of image)

-- ---- over the cartridge

-- a mounting that is refused leaves the cartridge that there was
abbrev pub cart_mounted : Cartridge → Result Cartridge MountRefusal → Cartridge
cart_mounted c (Ok d) = d
cart_mounted c (Err w) = c

abbrev pub serve_of : List ℕ → Machine → Request → Out Reply Machine
serve_of image m (bus a) = bare (numbered image m a)
serve_of image m (asks size) = let r = save.room_for m.cart in out (reply (size_number r) [] (size_told size r)) m
serve_of image m (saves room wall size) =
    let r = save.save_of m.cart m.area (length room) wall in
    out (reply (size_number r) (save.room_after m.cart m.area room wall) (size_told size r)) m
serve_of image m (loads bytes wall clock) =
    let r = answer_to m bytes wall in out (reply (loaded_number r) [] (loaded_clock clock r)) (loaded_machine m bytes wall)
serve_of image m (looks words) = let r = ask_of m.cart in out (reply (asked_number r) (asked_windows words r) 0) m
serve_of image m (mounts wall) =
    let r = mount.mount_of image m.area wall in
    out (reply (mount_number r) [] 0) (record { cart = cart_mounted m.cart r; area = mount.area_after image m.area wall })

abbrev pub serves_of : List ℕ → Machine → List Request → Outs Reply Machine
serves_of image = along (serve_of image)

-- what the types of the arguments give: a byte of eight bits in every write of the bus, and a wall time of 64 at a mounting
abbrev pub Typed : Request → Type 0
Typed (bus a) = calls.Octet a
Typed (asks size) = Unit {0}
Typed (saves room wall size) = Unit {0}
Typed (loads bytes wall clock) = Unit {0}
Typed (looks words) = Unit {0}
Typed (mounts wall) = wall < 2 ^ 64

abbrev pub AllTyped : List Request → Type 0
AllTyped [] = Unit {0}
AllTyped (q ∷ qs) = Typed q × AllTyped qs
