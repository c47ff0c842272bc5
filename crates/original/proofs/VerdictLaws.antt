-- The verdict: on every image of at most 8 MiB that number 11 does not refuse, `from_file` does not panic, takes what we accept,
-- with the same facts, and gives the error with our number; on those that 11 refuses it panics, but for MBC1.
use Rattle.std.specs.Prelude.{Ok, Err, Result as Answer}
use mathlib.Core.Bool.{Bool, true, false, not}
use mathlib.Core.List.{List}
use mathlib.Core.Path.{◌≡◌, refl, sym, ap, ◌∙◌, subst}
use Prim.Native.Nat.{ℕ, ◌<◌, ◌≤◌}
use native.Mathlib.Omega.{arith}
use lib.Dec.{eqb, ltb}
use lib.ListN.{length, replicate}
use borrow.Author.Tests.{ltb-true, ltb-false}
use Rattle.facts.specs.Choice.{pick, both}
use Rattle.bytes_le.specs.Little.{Octets}
use Rattle.utf8.specs.Utf8.{is_utf8}
use Rattle.image.specs.Image.{byte_at, logo_at, checksum_of, title_of, is_colour}
use Rattle.image.proofs.ImageLaws.{padded_le}
use Rattle.types.specs.Types.{supported_of, beyond_of}
use Rattle.types.specs.declared.TypeRow.{TypeRow}
use Rattle.header.specs.Size.{rom_fits}
use Rattle.header.specs.Check as header
use Rattle.header.specs.Check.{is_known, row_of, found_of, rom_length, banks_of, size_of, multicart_of, noes, facts_of, check_of}
use Rattle.header.specs.declared.HeaderRefusal.{HeaderRefusal}
use Rattle.header.specs.declared.HeaderRefusal.TheVariants.{
  TooLong,
  BadLogo,
  BadTitle,
  BadType,
  BadRomCode,
  BadRomSize,
  BadRamCode,
  NeedlessRam,
  BadChecksum,
  Unsupported,
  Beyond,
}
use Rattle.header.specs.declared.Facts.{Facts}
use Rattle.runs.specs.Padded.{padded}
use Rattle.original.specs.Machine.{Outcome, ok, panic, as_u16}
use Rattle.original.specs.Mapper as original
use Rattle.original.specs.Cartridge as cartridge
use Rattle.original.specs.Cartridge.{Cartridge, CartridgeError, InvalidNintendoLogo, InvalidGameTitle, InvalidCartridgeType, InvalidRomSizeIndex, InvalidRomSize, InvalidRamSizeIndex, NotNeededRamPresentError, InvalidChecksum, MapperNotImplemented, Result, taken, error, start_mapper, from_file}
use Rattle.original.specs.Verdict.{number_of, cartridge_of, SameVerdict, takes, errs}
use Rattle.original.specs.Beyond.{BeyondGives}
use Rattle.original.proofs.ImageLaws.{extended_same}
use Rattle.original.proofs.InitLaws.{started, starts, unsupported, beyond_starts}
use Rattle.original.proofs.HeaderLaws.{logo_part, title_part, device_part, type_of_row, type_part, rom_part, ram_part, sum_part}

-- ---- test by test

-- what `from_file` gives for a verdict of ours on any image of bytes
pub data Given (s : List ℕ) (now : ℕ) : Answer Facts HeaderRefusal → Outcome Result → Type 0 where
  same : {c : Answer Facts HeaderRefusal} {x : Outcome Result} → SameVerdict s now c x → Given s now c x
  beyond : {x : Outcome Result} → BeyondGives (row_of (found_of s)).1 (banks_of s) x → Given s now (Err Beyond) x
  long : {x : Outcome Result} → 8388608 < length s → Given s now (Err TooLong) x

module _ (s : List ℕ) (now : ℕ) where
  abbrev row : TypeRow
  row = row_of (found_of s)

  stage : (t : Bool) (w : HeaderRefusal) (e : CartridgeError) {c : Answer Facts HeaderRefusal} {x y : Outcome Result}
      → y ≡ pick t (ok (error e)) x → number_of e ≡ header.number_of w → Given s now c x → Given s now (pick t (Err w) c) y
  stage true w e p n g = subst (Given s now (Err w)) (sym p) (same (errs w e n))
  stage false w e {c} p n g = subst (Given s now c) (sym p) g

  unless_long : (t : Bool) {c : Answer Facts HeaderRefusal} {y : Outcome Result} → ltb 8388608 (length s) ≡ t
      → (length s ≤ 8388608 → Given s now c y) → Given s now (pick t (Err TooLong) c) y
  unless_long true e g = long (ltb-true 8388608 (length s) e)
  unless_long false e g = g (ltb-false 8388608 (length s) e)

  -- 10 and 11: what is taken has our facts
  abbrev finish : original.Mapper → Outcome Result
  finish m =
      ok
      (taken
      (record {
        title = title_of s;
        type = type_of_row s row;
        device = pick (is_colour s) cartridge.Color cartridge.Dmg;
        mapper = m;
        rom = padded s;
        ram = replicate (size_of s) 0;
      }))

  abbrev last_tests : Bool → Bool → Answer Facts HeaderRefusal
  last_tests supported over = pick (not supported) (Err Unsupported) (pick over (Err Beyond) (Ok (facts_of s row)))

  last : length s ≤ 8388608
      → Given s now (last_tests (supported_of row.1) (beyond_of row.1 (banks_of s) (size_of s)))
      (start_mapper (type_of_row s row) (rom_length s) (size_of s) now finish)
  unfolding start_mapper facts_of
  last h =
      subst
      (λ (n : ℕ). Given s now (last_tests (supported_of row.1) (beyond_of row.1 (banks_of s) (size_of s)))
      (started n (size_of s) now finish row.1 multicart))
      (sym few) (go (supported_of row.1) (beyond_of row.1 (banks_of s) (size_of s)) refl refl)
    where
      multicart : Bool
      multicart = multicart_of s row.1

      few : as_u16 (banks_of s) ≡ banks_of s
      few = omega (arith, padded_le (length s) h)

      go : (t u : Bool) → supported_of row.1 ≡ t → beyond_of row.1 (banks_of s) (size_of s) ≡ u
          → Given s now (last_tests t u) (started (banks_of s) (size_of s) now finish row.1 multicart)
      go false u e f =
          subst (Given s now (Err Unsupported))
          (sym (unsupported (banks_of s) (size_of s) now finish row.1 multicart e))
          (same (errs Unsupported MapperNotImplemented refl))
      go true true e f = beyond (beyond_starts (banks_of s) (size_of s) now finish (λ m. (_, refl)) row.1 multicart f)
      go true false e f =
          subst (Given s now (Ok (facts_of s row)))
          (sym (starts (banks_of s) (size_of s) now finish row.1 multicart e f))
          (same (takes (facts_of s row)))

  pub all_given : Octets s → Given s now (check_of s) (from_file s now)
  unfolding check_of noes from_file
  all_given o =
      rw (extended_same s)
      (unless_long (ltb 8388608 (length s)) refl (λ h.
      stage (not (logo_at s 0x104)) BadLogo InvalidNintendoLogo (logo_part s _) refl
      (stage (not (is_utf8 (title_of s))) BadTitle InvalidGameTitle (title_part s _) refl
      (stage (not (is_known (found_of s))) BadType InvalidCartridgeType (device_part s _ ∙ type_part s _) refl
      (stage (ltb 8 (byte_at s 0x148)) BadRomCode InvalidRomSizeIndex (rom_part s _ h) refl
      (stage (not (rom_fits (rom_length s) (byte_at s 0x148))) BadRomSize InvalidRomSize refl refl
      (stage (ltb 5 (byte_at s 0x149)) BadRamCode InvalidRamSizeIndex (ram_part s (type_of_row s row) _) refl
      (stage (both (not row.2) (ltb 0 (size_of s))) NeedlessRam NotNeededRamPresentError refl refl
      (stage (not (eqb (checksum_of s) (byte_at s 0x14D))) BadChecksum InvalidChecksum (sum_part s _ o) refl (last h))))))))))

-- ---- of an image in the domain it is ours, of one that 11 refuses what lies beyond

abbrev pub NotBeyond : Answer Facts HeaderRefusal → Type 0
NotBeyond c = c ≡ Err Beyond → ⊥

abbrev refusal_number : Answer Facts HeaderRefusal → ℕ
refusal_number (Ok d) = 0
refusal_number (Err w) = header.number_of w

-- no error of the Rust's has number 11
erred_below : (e : CartridgeError) → number_of e < 11
erred_below InvalidNintendoLogo = omega arith
erred_below InvalidGameTitle = omega arith
erred_below InvalidCartridgeType = omega arith
erred_below InvalidRomSizeIndex = omega arith
erred_below InvalidRomSize = omega arith
erred_below InvalidRamSizeIndex = omega arith
erred_below NotNeededRamPresentError = omega arith
erred_below InvalidChecksum = omega arith
erred_below MapperNotImplemented = omega arith

module _ (s : List ℕ) (now : ℕ) where
  same_by : {c : Answer Facts HeaderRefusal} {x : Outcome Result} → Given s now c x → length s ≤ 8388608 → NotBeyond c → SameVerdict s now c x
  same_by (same v) h b = v
  same_by (beyond g) h b = absurd (b refl)
  same_by (long l) h b = absurd (omega arith)

  pub beyond_by : {c : Answer Facts HeaderRefusal} {x : Outcome Result} → Given s now c x → c ≡ Err Beyond
      → BeyondGives (row_of (found_of s)).1 (banks_of s) x
  beyond_by (same (takes d)) e = let z : ◌≡◌ {A = ℕ} 0 11 = ap refusal_number e in absurd (omega arith)
  beyond_by (same (errs w f n)) e = let z : header.number_of w ≡ 11 = ap refusal_number e in absurd (omega (arith, n, erred_below f))
  beyond_by (beyond g) e = g
  beyond_by (long l) e = let z : ◌≡◌ {A = ℕ} 1 11 = ap refusal_number e in absurd (omega arith)

  pub same_verdict : Octets s → length s ≤ 8388608 → NotBeyond (check_of s) → SameVerdict s now (check_of s) (from_file s now)
  same_verdict o = same_by (all_given s now o)

-- ---- the verdict taken apart: each answer goes with one of ours

pub accepted_inside : {k : Answer Facts HeaderRefusal} {d : Facts} → k ≡ Ok d → NotBeyond k
accepted_inside p q = let z : ◌≡◌ {A = ℕ} 0 1 = cc in absurd (omega arith)

module _ (s : List ℕ) (now : ℕ) where
  pub taken_by : {k : Answer Facts HeaderRefusal} {x : Outcome Result} {d : Facts} → SameVerdict s now k x → k ≡ Ok d
      → x ≡ ok (taken (cartridge_of s now d))
  taken_by {d = d} (takes y) e = let i : y ≡ d = cc in ap (λ (z : Facts). ok (taken (cartridge_of s now z))) i
  taken_by (errs w e n) q = let z : ◌≡◌ {A = ℕ} 0 1 = cc in absurd (omega arith)

  pub erred_by : {k : Answer Facts HeaderRefusal} {x : Outcome Result} {w : HeaderRefusal} → SameVerdict s now k x → k ≡ Err w
      → (e : CartridgeError) × (x ≡ ok (error e)) × (number_of e ≡ header.number_of w)
  erred_by (takes d) e = let z : ◌≡◌ {A = ℕ} 0 1 = cc in absurd (omega arith)
  erred_by {w = w} (errs v e n) q = let i : v ≡ w = cc in (e, refl, n ∙ ap header.number_of i)

  pub taken_only : {k : Answer Facts HeaderRefusal} {x : Outcome Result} {o : Cartridge} → SameVerdict s now k x → x ≡ ok (taken o)
      → (d : Facts) × (k ≡ Ok d) × (o ≡ cartridge_of s now d)
  taken_only (takes d) e = (d, refl, cc)
  taken_only (errs w e n) q = let z : ◌≡◌ {A = ℕ} 0 1 = cc in absurd (omega arith)

  pub erred_only : {k : Answer Facts HeaderRefusal} {x : Outcome Result} {e : CartridgeError} → SameVerdict s now k x → x ≡ ok (error e)
      → (w : HeaderRefusal) × (k ≡ Err w) × (number_of e ≡ header.number_of w)
  erred_only (takes d) q = let z : ◌≡◌ {A = ℕ} 0 1 = cc in absurd (omega arith)
  erred_only {e = e} (errs w f n) q = let i : e ≡ f = cc in (w, refl, ap number_of i ∙ n)

  pub no_panic : {k : Answer Facts HeaderRefusal} {x : Outcome Result} → SameVerdict s now k x → x ≡ panic → ⊥
  no_panic (takes d) q = let z : ◌≡◌ {A = ℕ} 0 1 = cc in omega arith
  no_panic (errs w e n) q = let z : ◌≡◌ {A = ℕ} 0 1 = cc in omega arith
