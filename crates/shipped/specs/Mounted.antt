-- What an `imf_mount` that was made leaves, by its contract, and the game that it then is.
use Rattle.std.specs.Prelude.{List, ◌≡◌, ℕ, eqb, length, Ok}
use Rattle.facts.specs.Choice.{pick}
use Rattle.bytes_le.specs.Little as bytes
use Rattle.header.specs.declared.Facts.{Facts}
use Rattle.cartridge.specs.Fit.{area_of}
use Rattle.cartridge.specs.declared.Cartridge.{Cartridge}
use Rattle.mount.specs.Mount as mount
use Rattle.bus.specs.Run.{Machine}
use Rattle.player.specs.Bus.{state_mounted}
use Rattle.player.proofs.imf_mount.Reads as imf-mount
use Rattle.player.proofs.imf_windows.Reads as imf-windows
use Rattle.runs.specs.Game.{Game}
use Rattle.shipped.specs.Sequence.{Kept, kept}
use Rattle.shipped.specs.Ships.{kept_of, Sound}
use Rattle.shipped.specs.Through.{Watched}
use Rattle.shipped.specs.Made.{Call}

abbrev pub kept_mounted : List ℕ → List ℕ → List ℕ → ℕ → Kept
kept_mounted s image ram wall = kept (state_mounted s image ram wall) (mount.area_after image ram wall)

pub record Mounts (s image ram : List ℕ) (wall : ℕ) : Type 0 where
  pub cart : Cartridge
  pub mounted : mount.mount_of image ram wall ≡ Ok cart
  pub left : kept_mounted s image ram wall ≡ kept_of (record { cart = cart; area = mount.area_after image ram wall })
  pub sound : Sound (record { cart = cart; area = mount.area_after image ram wall })

-- what `imf_mount` leaves,
abbrev pub kept_by : Call imf-mount.Learnt → Kept
kept_by c = kept c.left.0.now c.left.1.1.0.now

abbrev pub MountsBy : Call imf-mount.Learnt → Type 0
MountsBy c = Mounts c.passed.0.now c.passed.1.0.now c.passed.1.1.0.now c.passed.1.1.1.0

abbrev pub game_by : (c : Call imf-mount.Learnt) → MountsBy c → bytes.Octets c.passed.1.0.now → Game
game_by c x octets =
    record {
      image = c.passed.1.0.now;
      area = c.passed.1.1.0.now;
      wall = c.passed.1.1.1.0;
      cart = x.cart;
      octets = octets;
      mounts = x.mounted;
    }

-- the number of a mounting of an accepted header, Numbers 12: "the lent RAM area is not as long as the cartridge asks", or 0
abbrev pub area_number : Call imf-mount.Learnt → Facts → ℕ
area_number c d =
    let want = area_of (mount.cart_of d (length c.passed.1.0.now) c.passed.1.1.1.0) in
    pick (eqb (length c.passed.1.1.0.now) want) 0 12

-- the mounted cartridge with its area
abbrev pub mounted_by : (c : Call imf-mount.Learnt) → MountsBy c → Machine
mounted_by c x = record { cart = x.cart; area = mount.area_after c.passed.1.0.now c.passed.1.1.0.now c.passed.1.1.1.0 }

-- with the windows that an `imf_windows` on it gave
abbrev pub watched_by : Call imf-mount.Learnt → Call imf-windows.Learnt → Watched
watched_by c d = record { kept = kept_by c; windows = d.left.1.0.now }
