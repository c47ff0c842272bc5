-- Fields stored apart from each other all read back.
use mathlib.Core.Bool.{Bool, true, false}
use mathlib.Core.List.{List, [], ◌∷◌}
use mathlib.Core.Path.{◌≡◌, refl, sym, ap, ◌∙◌}
use mathlib.Core.Logic.{◌⊎◌, inl, inr}
use Prim.Native.Nat.{ℕ, zero, suc, ◌+◌, ◌-◌, ◌%◌, ◌/◌, ◌<◌, ◌≤◌}
use native.Mathlib.Nat.{mod-eq_of_lt}
use native.Mathlib.Omega.{arith}
use lib.Dec.{leb}
use lib.ListN.{length, replicate, get_or, set, take, drop}
use lib.Seq.{sets, take-set-le, drop-set-lt, drop-set-add}
use borrow.Author.Tests.{le-leb, leb-true}
use Rattle.facts.specs.Choice.{both, either}
use Rattle.facts.proofs.ChoiceLaws.{both_left, both_right, both_parts, either_cases, false≢true}
use Rattle.bytes_le.specs.Little.{value_of, bytes_of, field_at, put_at, Octets}
use Rattle.bytes_le.proofs.Laws.{room, length_bytes, put_join, put_length, field_put}
use Rattle.state_fields.specs.Fields.{Field, field, stored}

-- ---- what is stored elsewhere is not seen

set_below : (w at : ℕ) (s : List ℕ) (i x : ℕ) → i < at → take w (drop at (set s i x)) ≡ take w (drop at s)
set_below w at s i x h = ap (take w) (drop-set-lt at s i x h)

set_above : (w at : ℕ) (s : List ℕ) (i x : ℕ) → at + w ≤ i → take w (drop at (set s i x)) ≡ take w (drop at s)
set_above w at s i x h =
    let e : i ≡ at + (i - at) = omega arith in
    ap (λ (j : ℕ). take w (drop at (set s j x))) e
    ∙ ap (take w) (drop-set-add at s (i - at) x)
    ∙ take-set-le w (drop at s) (i - at) x (omega arith)

sets_below : (w at : ℕ) (s : List ℕ) (i : ℕ) (xs : List ℕ) → i + length xs ≤ at
    → take w (drop at (sets s i xs)) ≡ take w (drop at s)
sets_below w at s i [] h = refl
sets_below w at s i (x ∷ xs) h = sets_below w at (set s i x) (suc i) xs (omega arith) ∙ set_below w at s i x (omega arith)

sets_above : (w at : ℕ) (s : List ℕ) (i : ℕ) (xs : List ℕ) → at + w ≤ i → take w (drop at (sets s i xs)) ≡ take w (drop at s)
sets_above w at s i [] h = refl
sets_above w at s i (x ∷ xs) h = sets_above w at (set s i x) (suc i) xs (omega arith) ∙ set_above w at s i x h

-- whether w bytes at a place are apart from a field, and from each of some
abbrev pub apart : ℕ → ℕ → Field → Bool
apart w at f = either (leb (at + w) f.at) (leb (f.at + f.width) at)

abbrev pub clear : ℕ → ℕ → List Field → Bool
clear w at [] = true
clear w at (f ∷ fs) = both (apart w at f) (clear w at fs)

put_apart : (w at : ℕ) (s : List ℕ) (f : Field) → apart w at f ≡ true → field_at w (put_at f.width s f.at f.value) at ≡ field_at w s at
unfolding field_at put_at
put_apart w at s f e = go (either_cases (leb (at + w) f.at) (leb (f.at + f.width) at) e)
  where
    go : (leb (at + w) f.at ≡ true) ⊎ (leb (f.at + f.width) at ≡ true)
        → value_of (take w (drop at (sets s f.at (bytes_of f.width f.value)))) ≡ value_of (take w (drop at s))
    go (inl h) = ap value_of (sets_above w at s f.at (bytes_of f.width f.value) (leb-true (at + w) f.at h))
    go (inr h) =
        let l = leb-true (f.at + f.width) at h in
        ap value_of
        (sets_below w at s f.at (bytes_of f.width f.value) (omega (arith, length_bytes f.width f.value)))

pub stored_clear : (w at : ℕ) (fs : List Field) (s : List ℕ) → clear w at fs ≡ true → field_at w (stored fs s) at ≡ field_at w s at
unfolding stored
stored_clear w at [] s e = refl
stored_clear w at (f ∷ fs) s e =
    stored_clear w at fs (put_at f.width s f.at f.value) (both_right (apart w at f) (clear w at fs) e)
    ∙ put_apart w at s f (both_left (apart w at f) (clear w at fs) e)

-- ---- what is stored reads back

-- a number below the room of w bytes reads back from the first w of more
put_narrow : (w v : ℕ) (s : List ℕ) (at n : ℕ) → at + w ≤ length s → n < room w → field_at w (put_at (w + v) s at n) at ≡ n
put_narrow w v s at n h l =
    let low : n % room w ≡ n = mod-eq_of_lt l in
    ap (λ (x : List ℕ). field_at w x at) (sym (put_join w v s at n))
    ∙ put_apart w at (put_at w s at (n % room w)) (field (at + w) v (n / room w)) behind
    ∙ ap (λ (k : ℕ). field_at w (put_at w s at k) at) low
    ∙ field_put w s at n h l
  where
    behind : apart w at (field (at + w) v (n / room w)) ≡ true
    behind = ap (λ (b : Bool). either b (leb (at + w + v) at)) (le-leb (at + w) (at + w) (omega arith))

-- the field of this number in a list
abbrev pub nth : ℕ → List Field → Field
nth k fs = get_or fs k (field 0 0 0)

-- whether the first w bytes of that field are within n bytes, and none of a later field
abbrev pub lasting : ℕ → ℕ → List Field → ℕ → Bool
lasting w k [] n = false
lasting w zero (f ∷ fs) n = both (both (leb w f.width) (leb (f.at + f.width) n)) (clear w f.at fs)
lasting w (suc k) (f ∷ fs) n = lasting w k fs n

pub reads_back : (w k : ℕ) (fs : List Field) (s : List ℕ) → lasting w k fs (length s) ≡ true → (nth k fs).value < room w
    → field_at w (stored fs s) (nth k fs).at ≡ (nth k fs).value
unfolding stored
reads_back w k [] s e l = false≢true e
reads_back w zero (f ∷ fs) s e l =
    let within = both (leb w f.width) (leb (f.at + f.width) (length s)) in
    let p = both_parts (leb w f.width) (leb (f.at + f.width) (length s)) (both_left within (clear w f.at fs) e) in
    let a = leb-true w f.width p.0 in
    let b = leb-true (f.at + f.width) (length s) p.1 in
    let wide : f.width ≡ w + (f.width - w) = omega arith in
    stored_clear w f.at fs (put_at f.width s f.at f.value) (both_right within (clear w f.at fs) e)
    ∙ ap (λ (x : ℕ). field_at w (put_at x s f.at f.value) f.at) wide
    ∙ put_narrow w (f.width - w) s f.at f.value (omega arith) l
reads_back w (suc k) (f ∷ fs) s e l =
    let n = put_length f.width s f.at f.value in
    reads_back w k fs (put_at f.width s f.at f.value) (ap (lasting w k fs) n ∙ e) l

-- ---- what is stored are as many bytes

pub stored_length : (fs : List Field) (s : List ℕ) → length (stored fs s) ≡ length s
unfolding stored
stored_length [] s = refl
stored_length (f ∷ fs) s =
    stored_length fs (put_at f.width s f.at f.value) ∙ put_length f.width s f.at f.value

octets_set : (s : List ℕ) (i x : ℕ) → x < 256 → Octets s → Octets (set s i x)
octets_set [] i x l o = o
octets_set (b ∷ s) zero x l o = (l, o.1)
octets_set (b ∷ s) (suc i) x l o = (o.0, octets_set s i x l o.1)

octets_bytes : (s : List ℕ) (i w n : ℕ) → Octets s → Octets (sets s i (bytes_of w n))
unfolding bytes_of
octets_bytes s i zero n o = o
octets_bytes s i (suc w) n o = octets_bytes (set s i (n % 256)) (suc i) w (n / 256) (octets_set s i (n % 256) (omega arith) o)

pub stored_octets : (fs : List Field) (s : List ℕ) → Octets s → Octets (stored fs s)
unfolding stored put_at
stored_octets [] s o = o
stored_octets (f ∷ fs) s o =
    stored_octets fs (put_at f.width s f.at f.value) (octets_bytes s f.at f.width f.value o)

pub zero_octets : (n : ℕ) → Octets (replicate n 0)
zero_octets zero = tt
zero_octets (suc n) = (omega arith, zero_octets n)
