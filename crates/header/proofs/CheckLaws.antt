-- The answers of the three parts of the verdict, over plain variables.
use Rattle.std.specs.Prelude.{Ok, Err, Some, None, Result, Option}
use mathlib.Core.Bool.{Bool, true, false, not}
use mathlib.Core.Path.{◌≡◌, ◌∙◌}
use mathlib.Core.List.{List}
use Prim.Native.Nat.{ℕ, ◌/◌, ◌<◌, ◌≤◌}
use lib.Dec.{ltb}
use lib.ListN.{length}
use borrow.Author.Tests.{eq-eqb, ne_eqb, lt-ltb, le-ltb}
use Rattle.facts.specs.Choice.{both}
use Rattle.types.specs.Types.{type_of, supported_of, beyond_of}
use Rattle.image.specs.Image.{byte_at, padded_length, logo_at, checksum_of, title_of}
use Rattle.header.specs.Size.{rom_fits, ram_size_of}
use Rattle.utf8.specs.Utf8.{is_utf8}
use Rattle.header.specs.Check.{noes, facts_of, check_of, sizes_of, mapper_of}
use Rattle.types.specs.declared.TypeRow.{TypeRow}
use Rattle.header.specs.declared.HeaderRefusal.TheVariants.{
  TooLong,
  BadLogo,
  BadTitle,
  BadType,
  BadRomCode,
  BadRomSize,
  BadRamCode,
  NeedlessRam,
  BadChecksum,
  Unsupported,
  Beyond,
}
use Rattle.header.specs.declared.Facts.{Facts}
use Rattle.header.specs.declared.HeaderRefusal.{HeaderRefusal}

-- ---- 9 to 11

module _ (s : List ℕ) (r : TypeRow) {a b : ℕ} (p : a ≡ checksum_of s) (q : b ≡ byte_at s 0x14D) where
  pub no_9 : (a ≡ b → ⊥) → Err BadChecksum ≡ mapper_of s r
  unfolding mapper_of noes
  no_9 d = rw (← p, ← q, ne_eqb a b d)

  module _ {t : Bool} (d : a ≡ b) (e : t ≡ supported_of r.1) where
    pub no_10 : not t ≡ true → Err Unsupported ≡ mapper_of s r
    unfolding mapper_of noes
    no_10 h = rw (← p, ← q, eq-eqb a b d, ← e, h)

    module _ {n m : ℕ} {u : Bool} (h : not t ≡ false) (l : n ≡ padded_length (length s)) (k : m ≡ ram_size_of (byte_at s 0x149))
        (f : u ≡ beyond_of r.1 (n / 0x4000) m) where
      pub no_11 : u ≡ true → Err Beyond ≡ mapper_of s r
      unfolding mapper_of noes
      no_11 v = rw (← p, ← q, eq-eqb a b d, ← e, h, ← l, ← k, ← f, v)

      pub accepts : {w : Facts} → u ≡ false → w ≡ facts_of s r → Ok w ≡ mapper_of s r
      unfolding mapper_of noes
      accepts v g = rw (g, ← p, ← q, eq-eqb a b d, ← e, h, ← l, ← k, ← f, v)

-- ---- 5 to 8

module _ (s : List ℕ) (r : TypeRow) {n x : ℕ} (l : n ≡ padded_length (length s)) (p : x ≡ byte_at s 0x148) where
  pub no_5 : 8 < x → Err BadRomCode ≡ sizes_of s r
  unfolding sizes_of noes
  no_5 h = rw (← p, lt-ltb 8 x h)

  module _ {t : Bool} (h : x ≤ 8) (e : t ≡ rom_fits n x) where
    pub no_6 : not t ≡ true → Err BadRomSize ≡ sizes_of s r
    unfolding sizes_of noes
    no_6 f = rw (← p, le-ltb 8 x h, ← l, ← e, f)

    module _ {y : ℕ} (f : not t ≡ false) (q : y ≡ byte_at s 0x149) where
      pub no_7 : 5 < y → Err BadRamCode ≡ sizes_of s r
      unfolding sizes_of noes
      no_7 g = rw (← p, le-ltb 8 x h, ← l, ← e, f, ← q, lt-ltb 5 y g)

      module _ {m : ℕ} {u : Bool} (g : y ≤ 5) (k : m ≡ ram_size_of y) (v : u ≡ both (not r.2) (ltb 0 m)) where
        pub no_8 : u ≡ true → Err NeedlessRam ≡ sizes_of s r
        unfolding sizes_of noes
        no_8 w = rw (← p, le-ltb 8 x h, ← l, ← e, f, ← q, le-ltb 5 y g, ← k, ← v, w)

        pub on_to_9 : {z : Result Facts HeaderRefusal} → u ≡ false → z ≡ mapper_of s r → z ≡ sizes_of s r
        unfolding sizes_of mapper_of noes
        on_to_9 {z} w a =
            a ∙ rw (← p, le-ltb 8 x h, ← l, ← e, f, ← q, le-ltb 5 y g, ← k, ← v, w)

-- ---- 1 to 4

module _ (s : List ℕ) where
  pub no_1 : 8388608 < length s → Err TooLong ≡ check_of s
  unfolding check_of noes
  no_1 h = rw (lt-ltb 8388608 (length s) h)

  module _ {t : Bool} (h : length s ≤ 8388608) (e : t ≡ logo_at s 0x104) where
    pub no_2 : not t ≡ true → Err BadLogo ≡ check_of s
    unfolding check_of noes
    no_2 f = rw (le-ltb 8388608 (length s) h, ← e, f)

    module _ {l : List ℕ} {u : Bool} (f : not t ≡ false) (n : l ≡ title_of s) (g : u ≡ is_utf8 l) where
      pub no_3 : not u ≡ true → Err BadTitle ≡ check_of s
      unfolding check_of noes
      no_3 k = rw (le-ltb 8388608 (length s) h, ← e, f, ← n, ← g, k)

      module _ {b : ℕ} {o : Option TypeRow} (k : not u ≡ false) (p : b ≡ byte_at s 0x147) (q : o ≡ type_of b) where
        pub no_4 : o ≡ None → Err BadType ≡ check_of s
        unfolding check_of noes
        no_4 w = rw (le-ltb 8388608 (length s) h, ← e, f, ← n, ← g, k, ← p, ← q, w)

        pub on_to_5 : {r : TypeRow} {z : Result Facts HeaderRefusal} → o ≡ Some r → z ≡ sizes_of s r → z ≡ check_of s
        unfolding check_of sizes_of noes
        on_to_5 {r} {z} w a = a ∙ rw (le-ltb 8388608 (length s) h, ← e, f, ← n, ← g, k, ← p, ← q, w)
