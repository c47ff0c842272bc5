-- The checksum's turn, the logo's loop, and the title's end, over plain variables.
use Rattle.std.proofs.Common.{◌≡◌, ℕ, suc, ◌+◌, ◌-◌, ◌%◌, ◌<◌, ◌≤◌, min, Bool, true, false, not, cond, eqb, ltb, List, [], ◌∷◌, Some, None, length, get_or, take, drop, sym, refl, ap, ◌∙◌, subst, add-zero, add-suc, add-one, arith, length-drop, drop_of_length-le, length-take, drop-cons, le-ltb, lt-ltb, ltb-false, eq-eqb, ne_eqb}
use Rattle.std.proofs.Math.Numerals.{one-add}
use Rattle.std.proofs.lemmas.List.{take_min, take-take}
use Rattle.std.proofs.lemmas.List.Sums.{prefix_len-le-length}
use Rattle.std.specs.List.{position, position_or_len}
use Rattle.facts.specs.Choice.{pick, both}
use Rattle.image.specs.Image.{byte_at, padded_length, logo, stands_at, logo_at, is_multicart, sum_from, checksum_of, up_to_zero, title_of, title_start, place_in, TitleEnd}

-- ---- the checksum

-- c is what is left of 0 after n bytes
abbrev pub Left : List ℕ → ℕ → ℕ → Type 0
Left s c n = (c + (sum_from s 0x134 n + n)) % 256 ≡ 0

sum_more : (s : List ℕ) (a n : ℕ) → sum_from s a (n + 1) ≡ sum_from s a n + byte_at s (a + n)
unfolding sum_from
sum_more s a n = rw add-one

pub left_none : (s : List ℕ) → Left s 0 0
unfolding sum_from
left_none s = refl

pub left_more : (s : List ℕ) (at c : ℕ) {b : ℕ} → 0x134 ≤ at → b < 256 → Left s c (at - 0x134) → b ≡ byte_at s at
    → Left s (((c + (256 - b)) % 256 + 255) % 256) (at + 1 - 0x134)
left_more s at c {b} l h v p =
    let n : at + 1 - 0x134 ≡ at - 0x134 + 1 = omega arith in
    let x : 0x134 + (at - 0x134) ≡ at = omega arith in
    rw (n, sum_more, x, ← p) (omega arith)

pub left_all : (s : List ℕ) (c n : ℕ) → c < 256 → n ≡ 25 → Left s c n → c ≡ checksum_of s
unfolding checksum_of
left_all s c n h e v =
    let w : Left s c 25 = rw e at v in
    omega arith

-- ---- the logo

logo_count : length logo ≡ 48
unfolding logo
logo_count = refl

stands_here : (s : List ℕ) (a i : ℕ) → i < 48
    → stands_at (drop i logo) s (a + i) ≡ both (eqb (byte_at s (a + i)) (get_or logo i 0)) (stands_at (drop (suc i) logo) s (suc (a + i)))
unfolding stands_at
stands_here s a i h = ap (λ (l : List ℕ). stands_at l s (a + i)) (drop-cons logo i 0 (omega (arith, logo_count)))

pub logo_start : (s : List ℕ) (a : ℕ) → logo_at s a ≡ stands_at (drop 0 logo) s (a + 0)
unfolding logo_at
logo_start s a = rw add-zero

pub logo_differs : (s : List ℕ) (a i : ℕ) {b l : ℕ} → i < 48 → logo_at s a ≡ stands_at (drop i logo) s (a + i) → b ≡ byte_at s (a + i)
    → l ≡ get_or logo i 0 → (b ≡ l → ⊥) → false ≡ logo_at s a
logo_differs s a i {b} {l} h v p q t = sym (v ∙ stands_here s a i h ∙ rw (← p, ← q, ne_eqb b l t))

pub logo_agrees : (s : List ℕ) (a i : ℕ) {b l : ℕ} → i < 48 → logo_at s a ≡ stands_at (drop i logo) s (a + i) → b ≡ byte_at s (a + i)
    → l ≡ get_or logo i 0 → b ≡ l → logo_at s a ≡ stands_at (drop (i + 1) logo) s (a + (i + 1))
logo_agrees s a i {b} {l} h v p q t = v ∙ stands_here s a i h ∙ rw (← p, ← q, eq-eqb b l t, add-one, add-suc)

pub logo_whole : (s : List ℕ) (a i : ℕ) → 48 ≤ i → logo_at s a ≡ stands_at (drop i logo) s (a + i) → true ≡ logo_at s a
unfolding stands_at
logo_whole s a i h v =
    sym (v ∙ ap (λ (l : List ℕ). stands_at l s (a + i)) (drop_of_length-le logo {i = i} (omega (arith, logo_count))))

-- ---- the title

-- how many bytes stand before the first zero
abbrev pub before_zero : List ℕ → ℕ
before_zero l = position_or_len (λ x. eqb x 0) l

up_to_zero_is : (l : List ℕ) → up_to_zero l ≡ take (before_zero l) l
unfolding up_to_zero
up_to_zero_is [] = refl
up_to_zero_is (x ∷ l) = go (eqb x 0) (up_to_zero_is l)
  where
    go : (b : Bool) → up_to_zero l ≡ take (before_zero l) l
        → pick b [] (x ∷ up_to_zero l) ≡ take (cond (not b) (1 + before_zero l) 0) (x ∷ l)
    go true e = refl
    go false e = rw (e, one-add)

-- t is what the image has of the title's 15 bytes: the title is what stands in it before the first zero
ends_at : (s : List ℕ) (end : ℕ) → 308 ≤ length s → end ≡ min (length s) 323
    → TitleEnd s (308 + before_zero (take (end - 308) (drop 308 s)))
unfolding title_of
ends_at s end l e =
    let d = drop 308 s in
    let k : length d ≡ length s - 308 = length-drop 308 s in
    let m : end - 308 ≡ min 15 (length d) = omega arith in
    let t : take (end - 308) d ≡ take 15 d = rw m (take_min 15 d) in
    let p = before_zero (take (end - 308) d) in
    let b : p ≤ length (take (end - 308) d) = prefix_len-le-length _ _ in
    let h : p ≤ end - 308 = omega (arith, length-take (end - 308) d) in
    let x : 308 + p - 308 ≡ p = omega arith in
    record {
      low = omega arith;
      high = omega arith;
      part = rw (x, ← t) (sym (up_to_zero_is (take (end - 308) d) ∙ take-take p (end - 308) d h));
    }

-- where the search for a zero finds one, and where it finds none
pub ends_at_zero : (s : List ℕ) (end n : ℕ) → 308 ≤ length s → end ≡ min (length s) 323
    → Some n ≡ position (λ x. eqb x 0) (take (end - 308) (drop 308 s)) → TitleEnd s (308 + n)
ends_at_zero s end n l e q =
    let p = before_zero (take (end - 308) (drop 308 s)) in
    subst (λ (k : ℕ). TitleEnd s (308 + k)) (go (ltb p (length (take (end - 308) (drop 308 s)))) p q) (ends_at s end l e)
  where
    go : (b : Bool) (p : ℕ) → Some n ≡ cond b (Some p) None → p ≡ n
    go true p q = cc
    go false p q = absurd (cc)

pub ends_whole : (s : List ℕ) (end : ℕ) → 308 ≤ length s → end ≡ min (length s) 323
    → None ≡ position (λ x. eqb x 0) (take (end - 308) (drop 308 s)) → TitleEnd s end
ends_whole s end l e q =
    let t = take (end - 308) (drop 308 s) in
    let h : length t ≤ before_zero t = go (ltb (before_zero t) (length t)) refl q in
    let b : before_zero t ≤ length t = prefix_len-le-length _ _ in
    let k : length (drop 308 s) ≡ length s - 308 = length-drop 308 s in
    let x : 308 + before_zero t ≡ end = omega (arith, length-take (end - 308) (drop 308 s)) in
    subst (TitleEnd s) x (ends_at s end l e)
  where
    go : {m n : ℕ} (b : Bool) → ltb m n ≡ b → None ≡ cond b (Some m) None → n ≤ m
    go true r q = absurd (cc)
    go false r q = ltb-false _ _ r

pub title_none : (s : List ℕ) → length s < 308 → [] ≡ title_of s
unfolding title_of up_to_zero
title_none s h = let e : drop 308 s ≡ [] = drop_of_length-le s {i = 308} (omega arith) in rw e

up_to_zero_le : (l : List ℕ) → length (up_to_zero l) ≤ length l
unfolding up_to_zero
up_to_zero_le [] = omega arith
up_to_zero_le (x ∷ l) = go (eqb x 0) (up_to_zero_le l)
  where
    go : (b : Bool) → length (up_to_zero l) ≤ length l → length (pick b [] (x ∷ up_to_zero l)) ≤ length (x ∷ l)
    go true h = omega arith
    go false h = omega arith

pub title_le : (s : List ℕ) → length (title_of s) ≤ 15
unfolding title_of
title_le s = let l = drop 308 s in omega (arith, up_to_zero_le (take 15 l), length-take 15 l)

-- ---- the quarters

pub one_quarter : (s : List ℕ) {n : ℕ} → n ≡ padded_length (length s) → (n ≡ 0x100000 → ⊥) → false ≡ is_multicart s
unfolding is_multicart
one_quarter s {n} p h = rw (← p, ne_eqb n 0x100000 h)

pub four_quarters : (s : List ℕ) {n : ℕ} {a b c d x y z : Bool} → n ≡ padded_length (length s) → n ≡ 0x100000 → a ≡ logo_at s 0x104 → b ≡ logo_at s 0x40104
    → c ≡ logo_at s 0x80104 → d ≡ logo_at s 0xC0104 → x ≡ both a b → y ≡ both c d → z ≡ both x y → z ≡ is_multicart s
unfolding is_multicart
four_quarters s {n} m h e f g k p q r = rw (← m, eq-eqb n 0x100000 h, ← e, ← f, ← g, ← k, ← p, ← q) r

-- ---- the padded length

pub padded_le : (n : ℕ) → n ≤ 8388608 → padded_length n ≤ 8388608
unfolding padded_length
padded_le n h = omega arith

-- ---- where it stands

pub start_early : (p : ℕ × ℕ) (n : ℕ) → n < 308 → place_in p 0 ≡ place_in p (title_start n)
start_early p n h = ap (λ (t : Bool). place_in p (pick t 0 308)) (sym (lt-ltb n 308 h))

pub start_late : (p : ℕ × ℕ) (n : ℕ) → 308 ≤ n → place_in p 308 ≡ place_in p (title_start n)
start_late p n h = ap (λ (t : Bool). place_in p (pick t 0 308)) (sym (le-ltb n 308 h))
