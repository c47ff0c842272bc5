-- Any bytes as a player may keep them: those of a fit cartridge, or others, on which every call but a mounting answers 13.
use Rattle.std.specs.Prelude.{List, [], ◌≡◌, ℕ, Ok, Err, Some, None, Result, Option}
use Rattle.facts.specs.Choice.{pick}
use Rattle.cartridge.specs.Fit.{fit_cart}
use Rattle.cartridge.specs.declared.Cartridge.{Cartridge}
use Rattle.mount.specs.Mount as mount
use Rattle.mount.specs.declared.MountRefusal.{MountRefusal}
use Rattle.bus.specs.Run.{refused}
use Rattle.states.specs.Layout.{encode_of}
use Rattle.states.specs.Plain.{plain}
use Rattle.states.specs.Reading.{decode_of}
use Rattle.player.specs.Bus.{mount_number, no_state}
use Rattle.shipped.specs.Along.{Out, Outs, out, along}
use Rattle.shipped.specs.Sequence.{Kept}
use Rattle.shipped.specs.Ships.{number_of}
use Rattle.shipped.specs.Requests.{Request, bus, asks, saves, loads, looks, mounts, Reply, reply, serve_of}

pub data Held : Type 0 where
  cart : Cartridge → Held
  others : List ℕ → Held

abbrev pub held_by : List ℕ → Option Cartridge → Held
held_by s (Some c) = pick (fit_cart c) (cart c) (others s)
held_by s None = others s

-- with the RAM area
pub record Lent : Type 0 where
  pub held : Held
  pub area : List ℕ

abbrev pub lent : Held → List ℕ → Lent
lent held area = record { held = held; area = area }

abbrev pub lent_of : Kept → Lent
lent_of k = lent (held_by k.state (decode_of k.state)) k.area

-- ---- a call

abbrev pub held_mounted : List ℕ → Result Cartridge MountRefusal → Held
held_mounted s (Ok c) = cart c
held_mounted s (Err w) = others s

-- on bytes that are no fit cartridge: 13, and what was lent stays, or a mounting
abbrev pub on_others : List ℕ → List ℕ → List ℕ → Request → Out Reply Lent
on_others image s area (bus a) = out (reply (number_of a (refused no_state)) [] 0) (lent (others s) area)
on_others image s area (asks size) = out (reply no_state [] size) (lent (others s) area)
on_others image s area (saves room wall size) = out (reply no_state room size) (lent (others s) area)
on_others image s area (loads bytes wall clock) = out (reply no_state [] clock) (lent (others s) area)
on_others image s area (looks words) = out (reply no_state words 0) (lent (others s) area)
on_others image s area (mounts wall) =
    let r = mount.mount_of image area wall in out (reply (mount_number r) [] 0) (lent (held_mounted s r) (mount.area_after image area wall))

abbrev pub on_held : List ℕ → List ℕ → Held → Request → Out Reply Lent
on_held image area (cart c) q =
    let x = serve_of image (record { cart = c; area = area }) q in out x.answer (lent (cart x.left.cart) x.left.area)
on_held image area (others s) q = on_others image s area q

abbrev pub on_lent : List ℕ → Lent → Request → Out Reply Lent
on_lent image l q = on_held image l.area l.held q

abbrev pub on_lents : List ℕ → Lent → List Request → Outs Reply Lent
on_lents image = along (on_lent image)

-- ---- what bytes stand for it

-- they are read as that cartridge, but for what its mapper does not use, and where they were the library's own at first are its own now;
-- or they are those bytes
abbrev pub StandsFor : Type 0 → Held → List ℕ → Type 0
StandsFor own (cart c) s = (decode_of s ≡ Some (plain c)) × (own → s ≡ encode_of c)
StandsFor own (others t) s = s ≡ t

pub record Stands (own : Type 0) (l : Lent) (k : Kept) : Type 0 where
  pub state : StandsFor own l.held k.state
  pub area : k.area ≡ l.area

-- bytes that are what the library writes of what they are read as
abbrev pub Own : List ℕ → Type 0
Own s = (c : Cartridge) → decode_of s ≡ Some c → encode_of c ≡ s
