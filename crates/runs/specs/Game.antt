-- A game: an image of bytes that we mount, and the save file that is then read into it, if there is one.
use Rattle.std.specs.Prelude.{List, ◌≡◌, ℕ, length, Ok, Err, Some, None, Result, Option as Maybe}
use Rattle.std.proofs.Math.Option.{Option, none, some}
use Rattle.bytes_le.specs.Little.{Octets}
use Rattle.cartridge.specs.declared.Cartridge.{Cartridge}
use Rattle.save_file.specs.Load as load
use Rattle.save_file.specs.declared.SaveRefusal.{SaveRefusal}
use Rattle.mount.specs.Mount as mount
use Rattle.bus.specs.Run.{Machine}

-- the image, the RAM area that is lent, whatever it holds, the wall time, and the cartridge that mounting gives
pub record Game : Type 0 where
  pub image : List ℕ
  pub area : List ℕ
  pub wall : ℕ
  pub cart : Cartridge
  pub octets : Octets image
  pub mounts : mount.mount_of image area wall ≡ Ok cart

-- the cartridge with its area, as mounting leaves it
abbrev pub mounted_machine : Game → Machine
mounted_machine g = record { cart = g.cart; area = mount.area_after g.image g.area g.wall }

-- ---- the save file

abbrev pub answer_to : Machine → List ℕ → ℕ → Result (Maybe Cartridge) SaveRefusal
answer_to m save wall = load.load_of m.cart (length m.area) save wall

-- the save is not refused
abbrev pub Accepted : Result (Maybe Cartridge) SaveRefusal → Type 0
Accepted x = (w : SaveRefusal) → x ≡ Err w → ⊥

-- what is then left: where only the RAM was read the cartridge stays, as on a refusal
abbrev pub cart_by : Cartridge → Result (Maybe Cartridge) SaveRefusal → Cartridge
cart_by c (Ok (Some d)) = d
cart_by c (Ok None) = c
cart_by c (Err w) = c

abbrev pub loaded_machine : Machine → List ℕ → ℕ → Machine
loaded_machine m save wall =
    record { cart = cart_by m.cart (answer_to m save wall); area = load.area_after m.cart m.area save wall }

-- no file, or bytes that we accept
abbrev pub Readable : Game → Option (List ℕ) → Type 0
Readable g none = Unit {0}
Readable g (some save) = Octets save × Accepted (answer_to (mounted_machine g) save g.wall)

-- where the accesses begin: mounted, and the file read
abbrev pub begins : Game → Option (List ℕ) → Machine
begins g none = mounted_machine g
begins g (some save) = loaded_machine (mounted_machine g) save g.wall
