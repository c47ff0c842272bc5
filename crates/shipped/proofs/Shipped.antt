-- What ships: the exported calls over a state's bytes are the run of the cartridge that the bytes stand for.
use Rattle.std.specs.Prelude.{Ok, Err, Some, Result}
use mathlib.Core.List.{List, [], ◌∷◌}
use mathlib.Core.Path.{◌≡◌, refl, sym, ap, ◌∙◌, subst}
use Prim.Native.Nat.{ℕ, ◌<◌, ◌^◌}
use native.Mathlib.Omega.{arith}
use lib.ListN.{length}
use Rattle.bytes_le.specs.Little as bytes
use Rattle.bytes_le.proofs.FieldLaws.{field_lt}
use Rattle.header.specs.declared.Facts.{Facts}
use Rattle.mapper.specs.declared.Mapper.{Mapper}
use Rattle.cartridge.specs.Fit.{InTime}
use Rattle.cartridge.specs.declared.Cartridge.{Cartridge}
use Rattle.mount.specs.Mount as mount
use Rattle.mount.specs.declared.MountRefusal.{MountRefusal}
use Rattle.bus.specs.Run.{Access, Machine, step_of, run_of}
use Rattle.states.specs.Reading.{decode_of, mapper_at}
use Rattle.states.proofs.Laws.{every_kind}
use Rattle.player.specs.Bus.{mount_number, mount_state, mount_of, state_mounted}
use Rattle.runs.specs.Calls.{Octets, Octet}
use Rattle.runs.proofs.BusLaws as laws
use Rattle.shipped.specs.Sequence.{call_of, calls_of, kept}
use Rattle.shipped.specs.Ships.{number_of, kept_of, called_of, Sound, numbered, numbers_of}
use Rattle.shipped.specs.Along.{Outs, outs, before, along}
use Rattle.shipped.specs.Mounted.{Mounts}
use Rattle.shipped.proofs.InTimeLaws as timing
use Rattle.shipped.proofs.StepLaws.{step_ships, step_sound}
use Rattle.shipped.proofs.WidthLaws.{decoded_has}
use Rattle.shipped.proofs.AlongLaws.{along_ships, along_stays}
use Rattle.shipped.proofs.NumberLaws.{mount_some}

-- ---- 1. any list of calls

-- the run, its answers as numbers
pub numbered_run : (image : List ℕ) (m : Machine) (accesses : List Access)
    → along (numbered image) m accesses ≡ outs (numbers_of accesses (run_of image m accesses).answers) (run_of image m accesses).left
numbered_run image m [] = refl
numbered_run image m (a ∷ as') = ap (before (number_of a (step_of image m a).answer)) (numbered_run image (step_of image m a).left as')

-- Calls on the bytes of a fit cartridge, its time of 64 bits, answer the numbers of the run's answers and leave the bytes and the area
-- of what the run leaves.
pub calls_ship : (image : List ℕ) (m : Machine) → Sound m → (accesses : List Access) → Octets accesses
    → calls_of image (kept_of m) accesses ≡ called_of accesses (run_of image m accesses)
calls_ship image m h accesses o =
    along_ships (call_of image) (numbered image) kept_of Sound Octet Octets (λ a as' os. os) (λ k s a _. step_ships image k s a)
    (λ k s a b. step_sound image k s a b) m h accesses o
    ∙ ap (λ (r : Outs ℕ Machine). outs r.answers (kept_of r.left)) (numbered_run image m accesses)

-- What is left is again such a cartridge.
pub run_sound : (image : List ℕ) (m : Machine) → Sound m → (accesses : List Access) → Octets accesses
    → Sound (run_of image m accesses).left
run_sound image m h accesses o =
    subst (λ (r : Outs ℕ Machine). Sound r.left) (numbered_run image m accesses)
    (along_stays (call_of image) (numbered image) kept_of Sound Octet Octets (λ a as' os. os) (λ k s a _. step_ships image k s a)
    (λ k s a b. step_sound image k s a b) m h accesses o)

-- ---- 2. where the bytes come from

-- A time that is read from bytes has 64 bits,
in_time_at : (s : List ℕ) → bytes.Octets s → (k : ℕ) → InTime (mapper_at s k)
in_time_at s o = every_kind s (λ (k : ℕ) (m : Mapper). InTime m) tt tt tt tt (λ e. omega arith) (λ _. field_lt 8 s 32 o) tt (λ k. tt)

pub decoded_in_time : (s : List ℕ) (c : Cartridge) → bytes.Octets s → decode_of s ≡ Some c → InTime c.mapper
decoded_in_time s c o = decoded_has s c (λ (x : Cartridge). InTime x.mapper) (in_time_at s o (bytes.field_at 1 s 0))

-- and so has what `imf_mount` leaves where it answers 0.
started_in_time : (d : Facts) (n wall : ℕ) → wall < 2 ^ 64 → InTime (mount.cart_of d n wall).mapper
unfolding mount.cart_of
started_in_time d n wall h = timing.start_in_time d.kind d.multicart wall h

pub mount_sound : (image ram : List ℕ) (wall : ℕ) (c : Cartridge) → wall < 2 ^ 64 → mount.mount_of image ram wall ≡ Ok c
    → Sound (record { cart = c; area = mount.area_after image ram wall })
mount_sound image ram wall c h e =
    let t = laws.mount_taken image ram wall c e in
    record {
      fit = laws.mount_fit image ram wall c e;
      timed = subst (λ (x : Cartridge). InTime x.mapper) (sym t.is) (started_in_time t.facts (length image) wall h);
    }

pub mount_ships : (s image ram : List ℕ) (wall : ℕ) → wall < 2 ^ 64 → mount_of image ram wall ≡ 0 → Mounts s image ram wall
unfolding mount_of state_mounted
mount_ships s image ram wall h e = go (mount.mount_of image ram wall) refl e
  where
    go : (a : Result Cartridge MountRefusal) → mount.mount_of image ram wall ≡ a → mount_number a ≡ 0 → Mounts s image ram wall
    go (Ok c) p q =
        record {
          cart = c;
          mounted = p;
          left = ap (λ (x : Result Cartridge MountRefusal). kept (mount_state s x) (mount.area_after image ram wall)) p;
          sound = mount_sound image ram wall c h p;
        }
    go (Err w) p q = absurd (omega (arith, q, mount_some w))
