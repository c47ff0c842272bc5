-- Demand 2 of the exported calls: their numbers and the bytes that they leave, beside what the Rust answers and leaves.
use Rattle.std.specs.Prelude.{List, ◌≡◌, ℕ}
use Rattle.std.proofs.Math.Option.{Option}
use Rattle.header.specs.declared.Facts.{Facts}
use Rattle.bus.specs.Run.{Access, Answer, Machine}
use Rattle.runs.specs.Game.{Game}
use Rattle.original.specs.Machine.{ok}
use Rattle.original.specs.Cartridge.{CartridgeError, taken, error, from_file}
use Rattle.original.specs.Verdict.{number_of, cartridge_of}
use Rattle.original_saves.specs.Agrees.{GameAgrees}
use Rattle.shipped.specs.Along.{Outs, outs}
use Rattle.shipped.specs.Sequence.{Kept}
use Rattle.shipped.specs.Ships.{numbers_of, kept_of}

-- Demand 2: "The verdict on a header": we accept the image with facts of which `accepted` holds, and the Rust takes it with these; or it
-- errs with the error of this number
pub data VerdictAgrees (image : List ℕ) (wall number : ℕ) (accepted : Facts → Type 0) : Type 0 where
  takes : (d : Facts) → from_file image wall ≡ ok (taken (cartridge_of image wall d)) → accepted d → VerdictAgrees image wall number accepted
  errs : (e : CartridgeError) → from_file image wall ≡ ok (error e) → number ≡ number_of e → VerdictAgrees image wall number accepted

-- the calls answered the numbers of xs, and left the bytes and the area of n; and these agree with the Rust
pub record ShippedAgrees (g : Game) (file : Option (List ℕ)) (accesses : List Access) (got : Outs ℕ Kept) : Type 0 where
  pub answers : List Answer
  pub left : Machine
  pub is : got ≡ outs (numbers_of accesses answers) (kept_of left)
  pub agrees : GameAgrees g file accesses answers left
