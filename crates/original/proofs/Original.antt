-- Demand 2, against the Rust itself: within Original 1 to 3 the transcription in specs/ never panics and gives the same verdict,
-- byte and RAM, access by access.
use Rattle.std.specs.Prelude.{Ok, Err}
use mathlib.Core.List.{List}
use mathlib.Core.Path.{◌≡◌, ◌∙◌}
use Prim.Native.Nat.{ℕ, ◌*◌}
use lib.ListN.{length}
use Rattle.bytes_le.specs.Little.{Octets}
use Rattle.header.specs.Check as header
use Rattle.header.specs.Check.{check_of}
use Rattle.header.specs.declared.HeaderRefusal.{HeaderRefusal}
use Rattle.header.specs.declared.HeaderRefusal.TheVariants.{Beyond}
use Rattle.header.specs.declared.Facts.{Facts}
use Rattle.header.proofs.AcceptedLaws.{accepted_fits}
use Rattle.bus.specs.Run.{Access, Machine, step_of, Ready}
use Rattle.runs.specs.Calls.{Octet}
use Rattle.runs.specs.Game.{Game}
use Rattle.runs.proofs.ImageLaws.{padded_length_lem}
use Rattle.original.specs.Machine.{ok, panic}
use Rattle.original.specs.Cartridge.{Cartridge, CartridgeError, taken, error, from_file}
use Rattle.original.specs.Same.{Same}
use Rattle.original.specs.Domain.{Since, since_after, Allowed}
use Rattle.original.specs.Verdict.{number_of, cartridge_of, ImageInDomain, SameVerdict}
use Rattle.original.specs.Beyond.{BeyondGives}
use Rattle.original.specs.Along.{StartSame, Stepped}
use Rattle.original.proofs.VerdictLaws as verdict
use Rattle.original.proofs.StartLaws as start
use Rattle.original.proofs.StepLaws as step

-- 1. The header: `from_file` does not panic,
pub same_verdict : (image : List ℕ) (now : ℕ) → ImageInDomain image → SameVerdict image now (check_of image) (from_file image now)
same_verdict image now d = verdict.same_verdict image now d.octets d.short d.within

pub no_panic : (image : List ℕ) (now : ℕ) → ImageInDomain image → from_file image now ≡ panic → ⊥
no_panic image now d = verdict.no_panic image now (same_verdict image now d)

-- takes exactly what we accept, with our facts,
pub taken_if : (image : List ℕ) (now : ℕ) → ImageInDomain image → (d : Facts) → check_of image ≡ Ok d
    → from_file image now ≡ ok (taken (cartridge_of image now d))
taken_if image now i d = verdict.taken_by image now (same_verdict image now i)

pub taken_only : (image : List ℕ) (now : ℕ) → ImageInDomain image → (o : Cartridge) → from_file image now ≡ ok (taken o)
    → (d : Facts) × (check_of image ≡ Ok d) × (o ≡ cartridge_of image now d)
taken_only image now i o = verdict.taken_only image now (same_verdict image now i)

pub rom_banks : (image : List ℕ) (now : ℕ) (d : Facts) → check_of image ≡ Ok d
    → length (cartridge_of image now d).rom ≡ d.banks * 0x4000
rom_banks image now d e = padded_length_lem image ∙ (accepted_fits image d e).padded

-- and errs exactly where we refuse, with our number.
pub erred_if : (image : List ℕ) (now : ℕ) → ImageInDomain image → (w : HeaderRefusal) → check_of image ≡ Err w
    → (e : CartridgeError) × (from_file image now ≡ ok (error e)) × (number_of e ≡ header.number_of w)
erred_if image now i w = verdict.erred_by image now (same_verdict image now i)

pub erred_only : (image : List ℕ) (now : ℕ) → ImageInDomain image → (e : CartridgeError) → from_file image now ≡ ok (error e)
    → (w : HeaderRefusal) × (check_of image ≡ Err w) × (number_of e ≡ header.number_of w)
erred_only image now i e = verdict.erred_only image now (same_verdict image now i)

-- Where we refuse with 11 it panics, or it is an MBC1 above 128 banks.
pub eleven_stops : (image : List ℕ) (now : ℕ) → Octets image → check_of image ≡ Err Beyond
    → BeyondGives (header.row_of (header.found_of image)).1 (header.banks_of image) (from_file image now)
eleven_stops image now o = verdict.beyond_by image now (verdict.all_given image now o)

-- 2. What we mount goes with what it gives.
pub start_same : (g : Game) → StartSame g
start_same = start.start_same

-- 3. Access by access: of a fit machine lent its own, and an access in the domain, the original does not panic, gives our
-- answer, and leaves what goes with what we leave: the RAM byte by byte, MBC2's half-bytes, MBC3's clock. `board` says it of lists.
pub step_same : {image : List ℕ} {past : Since} {m : Machine} {o : Cartridge} → Ready image m → Same image past m o
    → (a : Access) → Octet a → Allowed m.cart.mapper past a (step_of image m a).left.cart.mapper
    → Stepped image (since_after m.cart.mapper past a) o a (step_of image m a)
step_same = step.step_same
