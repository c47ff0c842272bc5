-- Each part of `from_file`, on our padded image: it does not panic, and tests what we test.
use Rattle.std.specs.Prelude.{Some, None, Option as Maybe}
use mathlib.Core.Bool.{Bool, true, false, not}
use mathlib.Core.List.{List, [], ◌∷◌, map}
use mathlib.Core.Option.{Option, none, some}
use mathlib.Core.Path.{◌≡◌, refl, sym, ap, ◌∙◌}
use Prim.Native.Nat.{ℕ, zero, suc, ◌+◌, ◌-◌, ◌/◌, ◌%◌, ◌^◌, ◌<◌, ◌≤◌}
use native.Mathlib.Nat.{div-le_self, pow-suc}
use native.Mathlib.Omega.{arith}
use lib.Bits.{bit_and}
use lib.Count.{ones, count_trailing_zeros, count_leading_zeros, leading_unique, trailing_le}
use lib.Dec.{eqb, ltb, leb}
use lib.ListN.{length}
use lib.Pow.{shl_exact, pow_pos, pow-lt}
use borrow.Author.Tests.{eq-eqb, ne_eqb, eqb-true, eqb-false, lt-ltb, le-ltb, ltb-true, ltb-false, le-leb, lt-leb}
use Rattle.facts.specs.Choice.{pick, both, either}
use Rattle.facts.proofs.BitLaws.{bit_test}
use Rattle.bytes_le.specs.Little.{Octets}
use Rattle.utf8.specs.Utf8.{is_utf8}
use Rattle.image.specs.Image.{byte_at, padded_length, logo_at, is_multicart, checksum_of, title_of, is_colour}
use Rattle.image.proofs.ImageLaws.{padded_le}
use Rattle.types.specs.Types.{types, find_row, type_of}
use Rattle.types.specs.declared.Kind.{Kind}
use Rattle.types.specs.declared.Kind.TheVariants as kind
use Rattle.types.specs.declared.TypeRow.{TypeRow}
use Rattle.header.specs.Size.{rom_size, mends, rom_fits, ram_size_of}
use Rattle.header.specs.Check.{is_known, row_of, multicart_of, rom_length, found_of}
use Rattle.header.proofs.SizeLaws.{one_bit}
use Rattle.runs.specs.Padded.{padded}
use Rattle.runs.proofs.ImageLaws.{padded_length_lem}
use Rattle.original.specs.Machine.{Outcome, ok, panic, bind, div, index, slice, same, take_while, shl_usize, is_multiple_of, is_power_of_two, ilog2}
use Rattle.original.specs.MappingResult.{MapperType, Mbc1}
use Rattle.original.specs.Cartridge as cartridge
use Rattle.original.specs.Cartridge.{
  nintendo_logo_data,
  TargetDevice,
  Dmg,
  Color,
  CartridgeType,
  cartridge_type,
  Arm,
  arm,
  arms,
  first_arm,
  from_byte,
  all_logos,
  updated_type,
  update_mbc1_multicart,
  Result,
  error,
  ok_or,
  InvalidNintendoLogo,
  InvalidGameTitle,
  InvalidCartridgeType,
  InvalidRomSizeIndex,
  InvalidRomSize,
  InvalidRamSizeIndex,
  NotNeededRamPresentError,
  InvalidChecksum,
  check_logo,
  game_title,
  target_device,
  type_of_byte,
  fixed,
  size_of_byte,
  ram_size,
  checksum_from,
  check_sum,
}
use Rattle.original.specs.Verdict.{mapper_type}
use Rattle.original.proofs.MachineLaws.{div_ok, slice_ok}
use Rattle.original.proofs.ImageLaws.{at_least, part, slice_part, index_byte, logo_same, title_same, sum_same}

-- ---- 2 and 3, and the device

pub logo_part : (s : List ℕ) (rest : Outcome Result)
    → check_logo (padded s) rest ≡ pick (not (logo_at s 0x104)) (ok (error InvalidNintendoLogo)) rest
unfolding check_logo
logo_part s rest =
    ap (λ (y : Outcome (List ℕ)). bind y (λ p. pick (not (same p nintendo_logo_data)) (ok (error InvalidNintendoLogo)) rest))
    (slice_part s 0x104 47 (omega (arith, at_least s)))
    ∙ ap (λ (t : Bool). pick (not t) (ok (error InvalidNintendoLogo)) rest) (logo_same s 0x104)

pub title_part : (s : List ℕ) (rest : List ℕ → Outcome Result)
    → game_title (padded s) rest ≡ pick (not (is_utf8 (title_of s))) (ok (error InvalidGameTitle)) (rest (title_of s))
unfolding game_title
title_part s rest =
    let f : List ℕ → Outcome Result = λ l. pick (not (is_utf8 l)) (ok (error InvalidGameTitle)) (rest l) in
    ap (λ (y : Outcome (List ℕ)). bind y (λ p. f (take_while (λ e. not (eqb e 0)) p)))
    (slice_ok (padded s) 0x134 0x142 (omega (arith, at_least s)))
    ∙ ap f (title_same s)

pub device_part : (s : List ℕ) (rest : TargetDevice → Outcome Result)
    → target_device (padded s) rest ≡ rest (pick (is_colour s) Color Dmg)
unfolding target_device is_colour
device_part s rest =
    ap (λ (y : Outcome ℕ). bind y (λ b. rest (pick (not (eqb (bit_and b 0x80) 0)) Color Dmg))) (index_byte s 0x143 (omega arith))
    ∙ ap (λ (t : Bool). rest (pick t Color Dmg)) (bit_test (byte_at s 0x143) 7)

-- ---- 4: the table row by row, and the multicart

abbrev arm_of : TypeRow → Arm
arm_of r = arm r.0 (cartridge_type (mapper_type r.1 false) r.2 r.3)

same_table : arms ≡ map arm_of types
unfolding arms types
same_table = refl

abbrev type_found : Maybe TypeRow → Option CartridgeType
type_found (Some r) = some (arm_of r).gives
type_found None = none

first_found : (rows : List TypeRow) (b : ℕ) → first_arm (map arm_of rows) b ≡ type_found (find_row rows b)
unfolding first_arm find_row
first_found [] b = refl
first_found (r ∷ rows) b = go (eqb r.0 b) (find_row rows b) (first_found rows b)
  where
    go : (t : Bool) (y : Maybe TypeRow) {x : Option CartridgeType} → x ≡ type_found y
        → pick t (some (arm_of r).gives) x ≡ type_found (pick t (Some r) y)
    go true y e = refl
    go false y e = e

type_found_lem : (b : ℕ) → from_byte b ≡ type_found (type_of b)
unfolding from_byte type_of
type_found_lem b = ap (λ (l : List Arm). first_arm l b) same_table ∙ first_found types b

module _ (s : List ℕ) where
  quarter : (i start : ℕ) (is : List ℕ) → shl_usize i 18 ≡ start → start + 0x134 ≤ length (padded s)
      → all_logos (i ∷ is) (padded s) ≡ pick (not (logo_at s (start + 0x104))) (ok false) (all_logos is (padded s))
  unfolding all_logos
  quarter i start is e h =
      let f : List ℕ → Outcome Bool = λ p. pick (not (same p nintendo_logo_data)) (ok false) (all_logos is (padded s)) in
      let end : start + 0x133 ≡ start + 0x104 + 47 = omega arith in
      ap (λ (x : ℕ). bind (slice (padded s) (x + 0x104) (x + 0x133)) f) e
      ∙ ap (λ (x : ℕ). bind (slice (padded s) (start + 0x104) x) f) end
      ∙ ap (λ (y : Outcome (List ℕ)). bind y f) (slice_part s (start + 0x104) 47 (omega arith))
      ∙ ap (λ (t : Bool). pick (not t) (ok false) (all_logos is (padded s))) (logo_same s (start + 0x104))

  four : (a b c d : Bool)
      → pick (not a) (ok false) (pick (not b) (ok false) (pick (not c) (ok false) (pick (not d) (ok false) (ok true))))
      ≡ ok (both (both a b) (both c d))
  four false b c d = refl
  four true false c d = refl
  four true true false d = refl
  four true true true false = refl
  four true true true true = refl

  quarters : length (padded s) ≡ 0x100000
      → all_logos (0 ∷ 1 ∷ 2 ∷ 3 ∷ []) (padded s)
      ≡ ok (both (both (logo_at s 0x104) (logo_at s 0x40104)) (both (logo_at s 0x80104) (logo_at s 0xC0104)))
  unfolding all_logos
  quarters e =
      let next : ℕ → Outcome Bool → Outcome Bool = λ a x. pick (not (logo_at s a)) (ok false) x in
      quarter 0 0 (1 ∷ 2 ∷ 3 ∷ []) refl (omega arith)
      ∙ ap (next 0x104) (quarter 1 0x40000 (2 ∷ 3 ∷ []) refl (omega arith)
      ∙ ap (next 0x40104) (quarter 2 0x80000 (3 ∷ []) refl (omega arith)
      ∙ ap (next 0x80104) (quarter 3 0xC0000 [] refl (omega arith))))
      ∙ four (logo_at s 0x104) (logo_at s 0x40104) (logo_at s 0x80104) (logo_at s 0xC0104)

  multicart : updated_type (Mbc1 false) (padded s) ≡ ok (Mbc1 (is_multicart s))
  unfolding is_multicart
  multicart = go (eqb (length (padded s)) 0x100000) refl
    where
      all : Bool
      all = both (both (logo_at s 0x104) (logo_at s 0x40104)) (both (logo_at s 0x80104) (logo_at s 0xC0104))

      or_false : (t : Bool) → pick t true false ≡ t
      or_false true = refl
      or_false false = refl

      go : (t : Bool) → eqb (length (padded s)) 0x100000 ≡ t
          → pick t (bind (all_logos (0 ∷ 1 ∷ 2 ∷ 3 ∷ []) (padded s)) (λ x. ok (Mbc1 (pick x true false)))) (ok (Mbc1 false))
          ≡ ok (Mbc1 (both (eqb (padded_length (length s)) 0x100000) all))
      go true e =
          let n : length (padded s) ≡ 0x100000 = eqb-true _ _ e in
          ap (λ (y : Outcome Bool). bind y (λ x. ok (Mbc1 (pick x true false)))) (quarters n)
          ∙ ap (λ (t : Bool). ok (Mbc1 t)) (or_false all)
          ∙ ap (λ (t : Bool). ok (Mbc1 (both t all))) (sym (eq-eqb _ _ (sym (padded_length_lem s) ∙ n)))
      go false e =
          ap (λ (t : Bool). ok (Mbc1 (both t all))) (sym e ∙ ap (λ (n : ℕ). eqb n 0x100000) (padded_length_lem s))

  updated : (k : Kind) → updated_type (mapper_type k false) (padded s) ≡ ok (mapper_type k (multicart_of s k))
  updated kind.NoMapper = refl
  updated kind.Mbc1 = multicart
  updated kind.Mbc2 = refl
  updated (kind.Mbc3 timer) = refl
  updated (kind.Mbc5 rumble) = refl
  updated kind.Mmm01 = refl
  updated kind.Mbc6 = refl
  updated kind.Mbc7 = refl

  -- the type of a row, once it is known whether it is a multicart
  abbrev pub type_of_row : TypeRow → CartridgeType
  type_of_row r = cartridge_type (mapper_type r.1 (multicart_of s r.1)) r.2 r.3

  pub type_part : (rest : CartridgeType → Outcome Result)
      → type_of_byte (padded s) rest
      ≡ pick (not (is_known (found_of s))) (ok (error InvalidCartridgeType)) (rest (type_of_row (row_of (found_of s))))
  unfolding type_of_byte update_mbc1_multicart
  type_part rest =
      ap (λ (y : Outcome ℕ). bind y (λ b. f (from_byte b))) (index_byte s 0x147 (omega arith))
      ∙ ap f (type_found_lem (byte_at s 0x147)) ∙ go (found_of s)
    where
      f : Option CartridgeType → Outcome Result
      f x = ok_or x InvalidCartridgeType (λ type. bind (update_mbc1_multicart type (padded s)) rest)

      go : (x : Maybe TypeRow) → f (type_found x) ≡ pick (not (is_known x)) (ok (error InvalidCartridgeType)) (rest (type_of_row (row_of x)))
      go (Some r) =
          ap (λ (y : Outcome MapperType). bind (bind y (λ m. ok (cartridge_type m r.2 r.3))) rest) (updated r.1)
      go None = refl

-- ---- 5 and 6: the ROM size and its mending

power_log : (k : ℕ) → k ≤ 62 → ilog2 (2 ^ k) ≡ ok k
power_log k h =
    let top : 63 - k ≡ count_leading_zeros 64 (2 ^ k) =
    leading_unique 64 (2 ^ k) (63 - k) (suc k) (omega arith) (pow-lt {i = k} {j = suc k} (omega arith))
    (omega (arith, pow-suc 2 k)) in
    let back : 63 - (63 - k) ≡ k = omega arith in
    ap (λ (t : Bool). pick t panic (ok (63 - count_leading_zeros 64 (2 ^ k)))) (ne_eqb (2 ^ k) 0 (λ e. omega (arith, pow_pos k)))
    ∙ ap (λ (n : ℕ). ok (63 - n)) (sym top) ∙ ap ok back

below_8 : (n : ℕ) → ltb n 8 ≡ leb n 7
below_8 n = go (ltb n 8) refl
  where
    go : (t : Bool) → ltb n 8 ≡ t → t ≡ leb n 7
    go true e = let h = ltb-true n 8 e in sym (le-leb n 7 (omega arith))
    go false e = let h = ltb-false n 8 e in sym (lt-leb n 7 (omega arith))

mends_same : (q : ℕ) → q < 4294967296
    → pick (is_power_of_two q) (bind (ilog2 q) (λ log. ok (ltb log 8))) (ok false) ≡ ok (mends q)
unfolding mends
mends_same q h = go (eqb (ones q) 1) refl
  where
    go : (t : Bool) → eqb (ones q) 1 ≡ t
        → pick t (bind (ilog2 q) (λ log. ok (ltb log 8))) (ok false) ≡ ok (both t (leb (count_trailing_zeros 32 q) 7))
    go true e =
        let k = count_trailing_zeros 32 q in
        ap (λ (x : ℕ). bind (ilog2 x) (λ log. ok (ltb log 8))) (one_bit 32 q h (eqb-true _ _ e))
        ∙ ap (λ (y : Outcome ℕ). bind y (λ log. ok (ltb log 8))) (power_log k (omega (arith, trailing_le 32 q)))
        ∙ ap ok (below_8 k)
    go false e = refl

fixed_same : (size len : ℕ) → 0 < size → len < 4294967296
    → fixed size len ≡ ok (both (ltb size len) (both (eqb (len % size) 0) (mends (len / size))))
unfolding fixed
fixed_same size len pos h =
    let whole : is_multiple_of len size ≡ eqb (len % size) 0 =
    ap (λ (t : Bool). pick t (eqb len 0) (eqb (len % size) 0)) (ne_eqb size 0 (λ e. omega arith)) in
    let test : ℕ → Outcome Bool = λ q. pick (is_power_of_two q) (bind (ilog2 q) (λ log. ok (ltb log 8))) (ok false) in
    let less : len / size ≤ len = div-le_self len size in
    let mended : bind (div len size) test ≡ ok (mends (len / size)) =
    ap (λ (y : Outcome ℕ). bind y test) (div_ok len size pos) ∙ mends_same (len / size) (omega arith) in
    ap (λ (t : Bool). pick (both (ltb size len) t) (bind (div len size) test) (ok false)) whole
    ∙ ap (λ (y : Outcome Bool). pick (both (ltb size len) (eqb (len % size) 0)) y (ok false)) mended
    ∙ go (ltb size len) (eqb (len % size) 0) (mends (len / size))
  where
    go : (a b c : Bool) → pick (both a b) (ok c) (ok false) ≡ ok (both a (both b c))
    go true true c = refl
    go true false c = refl
    go false b c = refl

-- the four lines from `if rom_size != data.len()` on
abbrev sized : (ℕ → Outcome Result) → ℕ → ℕ → Outcome Result
sized rest size len =
    pick (not (eqb size len)) (bind (fixed size len) (λ is. pick (not is) (ok (error InvalidRomSize)) (rest len))) (rest size)

sized_same : (rest : ℕ → Outcome Result) (len n : ℕ) → len < 4294967296
    → sized rest (rom_size n) len ≡ pick (not (rom_fits len n)) (ok (error InvalidRomSize)) (rest len)
unfolding rom_fits
sized_same rest len n h = go (eqb (rom_size n) len) refl
  where
    mended : Bool
    mended = both (ltb (rom_size n) len) (both (eqb (len % rom_size n) 0) (mends (len / rom_size n)))

    go : (t : Bool) → eqb (rom_size n) len ≡ t
        → pick (not t) (bind (fixed (rom_size n) len) (λ is. pick (not is) (ok (error InvalidRomSize)) (rest len)))
        (rest (rom_size n))
        ≡ pick (not (either t mended)) (ok (error InvalidRomSize)) (rest len)
    go true e = ap rest (eqb-true _ _ e)
    go false e =
        ap (λ (y : Outcome Bool). bind y (λ is. pick (not is) (ok (error InvalidRomSize)) (rest len)))
        (fixed_same (rom_size n) len (omega (arith, pow_pos n)) h)

pub rom_part : (s : List ℕ) (rest : ℕ → Outcome Result) → length s ≤ 8388608
    → cartridge.rom_size (padded s) rest
    ≡ pick (ltb 8 (byte_at s 0x148)) (ok (error InvalidRomSizeIndex))
    (pick (not (rom_fits (rom_length s) (byte_at s 0x148))) (ok (error InvalidRomSize)) (rest (rom_length s)))
unfolding cartridge.rom_size
rom_part s rest h =
    ap (λ (y : Outcome ℕ).
    bind y (λ n. pick (ltb 8 n) (ok (error InvalidRomSizeIndex)) (sized rest (shl_usize 0x8000 n) (length (padded s)))))
    (index_byte s 0x148 (omega arith))
    ∙ go (ltb 8 n) refl
  where
    n : ℕ
    n = byte_at s 0x148

    go : (t : Bool) → ltb 8 n ≡ t
        → pick t (ok (error InvalidRomSizeIndex)) (sized rest (shl_usize 0x8000 n) (length (padded s)))
        ≡ pick t (ok (error InvalidRomSizeIndex))
        (pick (not (rom_fits (rom_length s) n)) (ok (error InvalidRomSize)) (rest (rom_length s)))
    go true e = refl
    go false e =
        let few = ltb-false 8 n e in
        let exact : shl_usize 0x8000 n ≡ rom_size n = shl_exact 16 n 64 (omega arith) (omega arith) in
        ap (λ (x : ℕ). sized rest x (length (padded s))) exact
        ∙ ap (sized rest (rom_size n)) (padded_length_lem s)
        ∙ sized_same rest (rom_length s) n (omega (arith, padded_le (length s) h))

-- ---- 7 and 8: the RAM size

size_none : (b : ℕ) → 5 < b → size_of_byte b ≡ none
unfolding size_of_byte
size_none b h =
    rw (
      ne_eqb b 0 (λ e. omega arith),
      ne_eqb b 1 (λ e. omega arith),
      ne_eqb b 2 (λ e. omega arith),
      ne_eqb b 3 (λ e. omega arith),
      ne_eqb b 4 (λ e. omega arith),
      ne_eqb b 5 (λ e. omega arith),
    )

size_some : (b : ℕ) → b ≤ 5 → size_of_byte b ≡ some (ram_size_of b)
unfolding size_of_byte
size_some zero h = refl
size_some (suc zero) h = refl
size_some (suc (suc zero)) h = refl
size_some (suc (suc (suc zero))) h = refl
size_some (suc (suc (suc (suc zero)))) h = refl
size_some (suc (suc (suc (suc (suc zero))))) h = refl
size_some (suc (suc (suc (suc (suc (suc b)))))) h = absurd (omega arith)

not_zero : (n : ℕ) → not (eqb n 0) ≡ ltb 0 n
not_zero n = go (eqb n 0) refl
  where
    go : (t : Bool) → eqb n 0 ≡ t → not t ≡ ltb 0 n
    go true e = let z = eqb-true n 0 e in sym (le-ltb 0 n (omega arith))
    go false e = let z = eqb-false n 0 e in sym (lt-ltb 0 n (omega (arith, z)))

-- the branch that does nothing, and the one that errs
needless : (ram : Bool) (size : ℕ) (rest : Outcome Result)
    → pick (both ram (eqb size 0)) rest (pick (both (not ram) (not (eqb size 0))) (ok (error NotNeededRamPresentError)) rest)
    ≡ pick (both (not ram) (ltb 0 size)) (ok (error NotNeededRamPresentError)) rest
needless true size rest = either_way (eqb size 0)
  where
    either_way : (t : Bool) → pick t rest rest ≡ rest
    either_way true = refl
    either_way false = refl
needless false size rest = ap (λ (t : Bool). pick t (ok (error NotNeededRamPresentError)) rest) (not_zero size)

pub ram_part : (s : List ℕ) (type : CartridgeType) (rest : ℕ → Outcome Result)
    → ram_size (padded s) type rest
    ≡ pick (ltb 5 (byte_at s 0x149)) (ok (error InvalidRamSizeIndex))
    (pick (both (not type.ram) (ltb 0 (ram_size_of (byte_at s 0x149)))) (ok (error NotNeededRamPresentError))
    (rest (ram_size_of (byte_at s 0x149))))
unfolding ram_size
ram_part s type rest =
    ap (λ (y : Outcome ℕ). bind y (λ b. ok_or (size_of_byte b) InvalidRamSizeIndex f)) (index_byte s 0x149 (omega arith))
    ∙ go (ltb 5 b) refl
  where
    b : ℕ
    b = byte_at s 0x149

    f : ℕ → Outcome Result
    f size =
        pick (both type.ram (eqb size 0)) (rest size)
        (pick (both (not type.ram) (not (eqb size 0))) (ok (error NotNeededRamPresentError)) (rest size))

    go : (t : Bool) → ltb 5 b ≡ t
        → ok_or (size_of_byte b) InvalidRamSizeIndex f
        ≡ pick t (ok (error InvalidRamSizeIndex))
        (pick (both (not type.ram) (ltb 0 (ram_size_of b))) (ok (error NotNeededRamPresentError)) (rest (ram_size_of b)))
    go true e = ap (λ (x : Option ℕ). ok_or x InvalidRamSizeIndex f) (size_none b (ltb-true 5 b e))
    go false e =
        ap (λ (x : Option ℕ). ok_or x InvalidRamSizeIndex f) (size_some b (ltb-false 5 b e))
        ∙ needless type.ram (ram_size_of b) (rest (ram_size_of b))

-- ---- 9

pub sum_part : (s : List ℕ) (rest : Outcome Result) → Octets s
    → check_sum (padded s) rest ≡ pick (not (eqb (checksum_of s) (byte_at s 0x14D))) (ok (error InvalidChecksum)) rest
unfolding check_sum
sum_part s rest o =
    let test : ℕ → ℕ → Outcome Result = λ x y. pick (not (eqb x y)) (ok (error InvalidChecksum)) rest in
    ap (λ (y : Outcome (List ℕ)). bind y (λ p. bind (index (padded s) 0x14D) (test (checksum_from 0 p))))
    (slice_part s 0x134 24 (omega (arith, at_least s)))
    ∙ ap (λ (y : Outcome ℕ). bind y (test (checksum_from 0 (part s 25 0x134)))) (index_byte s 0x14D (omega arith))
    ∙ ap (λ (x : ℕ). test x (byte_at s 0x14D)) (sum_same s o)
