-- Every refusal has a number that is not 0, by which a caller tells it.
use mathlib.Core.Path.{◌≡◌, refl}
use Prim.Native.Nat.{suc, ◌-◌}
use Rattle.clock_block.specs.declared.BlockRefusal.TheVariants as block_no
use Rattle.header.specs.Check as header
use Rattle.header.specs.declared.HeaderRefusal.{HeaderRefusal}
use Rattle.header.specs.declared.HeaderRefusal.TheVariants as header-no
use Rattle.save_file.specs.Admit as admit
use Rattle.save_file.specs.declared.SaveRefusal.{SaveRefusal}
use Rattle.save_file.specs.declared.SaveRefusal.TheVariants as saving-no
use Rattle.mount.specs.Mount as mount
use Rattle.mount.specs.declared.MountRefusal.{MountRefusal}
use Rattle.mount.specs.declared.MountRefusal.TheVariants.{Header, WrongArea}
use Rattle.access.specs.Verdict as access
use Rattle.access.specs.declared.BusRefusal.{BusRefusal}
use Rattle.access.specs.declared.BusRefusal.TheVariants.{Unfit, WrongLength, BadAddress, BadSelection}

pub header_some : (w : HeaderRefusal) → header.number_of w ≡ suc (header.number_of w - 1)
header_some header-no.TooLong = refl
header_some header-no.BadLogo = refl
header_some header-no.BadTitle = refl
header_some header-no.BadType = refl
header_some header-no.BadRomCode = refl
header_some header-no.BadRomSize = refl
header_some header-no.BadRamCode = refl
header_some header-no.NeedlessRam = refl
header_some header-no.BadChecksum = refl
header_some header-no.Unsupported = refl
header_some header-no.Beyond = refl

pub mount_some : (w : MountRefusal) → mount.number_of w ≡ suc (mount.number_of w - 1)
mount_some (Header w) = header_some w
mount_some WrongArea = refl

pub bus_some : (w : BusRefusal) → access.number_of w ≡ suc (access.number_of w - 1)
bus_some Unfit = refl
bus_some WrongLength = refl
bus_some BadAddress = refl
bus_some BadSelection = refl

pub save_some : (w : SaveRefusal) → admit.number_of w ≡ suc (admit.number_of w - 1)
save_some saving-no.Unfit = refl
save_some saving-no.WrongLength = refl
save_some saving-no.NoBattery = refl
save_some saving-no.ShortSave = refl
save_some (saving-no.Block block_no.Beyond) = refl
save_some (saving-no.Block block_no.Late) = refl
save_some saving-no.ShortRoom = refl
