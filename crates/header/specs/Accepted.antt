-- What the theorems on the verdict speak of: the tests of an image, what an accepted one is, and where two agree.
use Rattle.std.specs.Prelude.{true, false, List, ◌≡◌, ℕ, ◌*◌, ◌^◌, ◌<◌, ◌≤◌, length}
use Rattle.facts.specs.Refusals.{No}
use Rattle.facts.specs.Listed.{one_of}
use Rattle.image.specs.Image.{byte_at, padded_length, logo_at}
use Rattle.types.specs.Types.{supported_of, beyond_of}
use Rattle.types.specs.declared.Kind.TheVariants.{Mbc1}
use Rattle.header.specs.Size.{ram_sizes}
use Rattle.header.specs.Check.{row_of, found_of, noes}
use Rattle.header.specs.declared.HeaderRefusal.{HeaderRefusal}
use Rattle.header.specs.declared.Facts.{Facts}

-- the tests of an image
abbrev pub tests_of : List ℕ → List (No HeaderRefusal)
tests_of s = noes s (row_of (found_of s))

-- an accepted image: short enough, padded to a power of two of banks, within its mapper, of a listed RAM size
pub record Fitting (s : List ℕ) (d : Facts) : Type 0 where
  pub short : length s ≤ 8388608
  pub padded : padded_length (length s) ≡ d.banks * 0x4000
  pub log : ℕ
  pub power : d.banks ≡ 2 * 2 ^ log
  pub supported : supported_of d.kind ≡ true
  pub limit : beyond_of d.kind d.banks d.size ≡ false
  pub sized : one_of d.size ram_sizes ≡ true
  pub multi : d.multicart ≡ true → d.banks ≡ 64

-- the three logos of the other quarters
pub record SameLogos (s t : List ℕ) : Type 0 where
  pub second : logo_at s 0x40104 ≡ logo_at t 0x40104
  pub third : logo_at s 0x80104 ≡ logo_at t 0x80104
  pub fourth : logo_at s 0xC0104 ≡ logo_at t 0xC0104

-- two images of one length that agree up to 0x14D and, where it matters, in the other logos
pub record Agree (s t : List ℕ) : Type 0 where
  pub long : length s ≡ length t
  pub header : (i : ℕ) → i < 0x14E → byte_at s i ≡ byte_at t i
  pub quarters : (row_of (found_of s)).1 ≡ Mbc1 → padded_length (length s) ≡ 0x100000 → SameLogos s t
