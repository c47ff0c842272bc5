-- A wider field is two, one behind the other, in reading and in writing; and what is written reads back.
use mathlib.Core.List.{List, [], ◌∷◌, ◌++◌}
use mathlib.Core.Path.{◌≡◌, refl, sym, ap, ◌∙◌}
use Prim.Native.Nat.{ℕ, zero, suc, ◌+◌, ◌*◌, ◌/◌, ◌%◌, ◌^◌, ◌<◌, ◌≤◌}
use native.Mathlib.Nat.{mul_assoc, add-zero, zero-add, suc-add}
use native.Mathlib.Omega.{arith}
use lib.ListN.{length, get_or, set, take, drop, length-drop, length-append}
use lib.Pow.{pow-add, field, mod-mod-pow, shr-shr, shr_lt}
use lib.Seq.{sets, length-sets, sets-eq, take_at, drop_at, drop-append-le, take-add, drop-drop, drop-cons, length-take-le}
use Rattle.bytes_le.specs.Little.{value_of, bytes_of, field_at, put_at}

-- what w bytes can hold, by their number of bits
abbrev pub room : ℕ → ℕ
room w = 2 ^ (w * 8)

-- ---- reading

value_join : (xs ys : List ℕ) → value_of (xs ++ ys) ≡ value_of xs + room (length xs) * value_of ys
unfolding value_of
value_join [] ys = omega arith
value_join (x ∷ xs) ys =
    let p : room (suc (length xs)) ≡ 256 * room (length xs) =
    ap (λ (k : ℕ). 2 ^ k) (omega arith) ∙ pow-add 2 8 (length xs * 8) in
    let q : room (suc (length xs)) * value_of ys ≡ 256 * (room (length xs) * value_of ys) =
    ap (λ (k : ℕ). k * value_of ys) p ∙ mul_assoc 256 (room (length xs)) (value_of ys) in
    omega (arith, value_join xs ys, q)

-- the one law on reading: a field of v and w bytes is a field of v, and one of w behind it
field_join : (v w : ℕ) (s : List ℕ) (at : ℕ) → at + v ≤ length s
    → field_at v s at + room v * field_at w s (at + v) ≡ field_at (v + w) s at
unfolding field_at
field_join v w s at h =
    let n : length (take v (drop at s)) ≡ v = length-take-le v (drop at s) (omega (arith, length-drop at s)) in
    sym
    (ap value_of (take-add v w (drop at s)) ∙ value_join (take v (drop at s)) (take w (drop v (drop at s)))
    ∙ ap (λ (k : ℕ). value_of (take v (drop at s)) + room k * value_of (take w (drop v (drop at s)))) n
    ∙ ap (λ (l : List ℕ). value_of (take v (drop at s)) + room v * value_of (take w l)) (drop-drop v at s))

pub read_joined : (v w : ℕ) (s : List ℕ) (at : ℕ) {x y : ℕ} → at + v ≤ length s → x ≡ field_at v s at → y ≡ field_at w s (at + v)
    → x + room v * y ≡ field_at (v + w) s at
read_joined v w s at {y = y} h p q =
    ap (λ (k : ℕ). k + room v * y) p ∙ ap (λ (k : ℕ). field_at v s at + room v * k) q ∙ field_join v w s at h

-- a field of one byte
pub field_one : (s : List ℕ) (at : ℕ) → at < length s → field_at 1 s at ≡ get_or s at 0
unfolding field_at value_of
field_one s at h = ap (λ (l : List ℕ). value_of (take 1 l)) (drop-cons s at 0 h) ∙ add-zero (get_or s at 0)

-- ---- writing

-- the bytes of a number are those of its low part, and then those of the rest
bytes_join : (v w n : ℕ) → bytes_of (v + w) n ≡ bytes_of v (n % room v) ++ bytes_of w (n / room v)
unfolding bytes_of
bytes_join zero w n = let e : n / room 0 ≡ n = omega arith in ap (λ (k : ℕ). bytes_of k n) (zero-add w) ∙ ap (bytes_of w) (sym e)
bytes_join (suc v) w n =
    let e : room (suc v) ≡ 2 ^ (v * 8 + 8) = ap (λ (k : ℕ). 2 ^ k) (omega arith) in
    let f : room (suc v) ≡ 2 ^ (8 + v * 8) = ap (λ (k : ℕ). 2 ^ k) (omega arith) in
    let low : n % 256 ≡ n % room (suc v) % 256 = sym (ap (λ (k : ℕ). n % k % 256) e ∙ mod-mod-pow n (v * 8) 8) in
    let mid : n / 256 % room v ≡ n % room (suc v) / 256 = sym (ap (λ (k : ℕ). n % k / 256) e ∙ field n (v * 8) 8) in
    let high : n / 256 / room v ≡ n / room (suc v) = shr-shr n 8 (v * 8) ∙ ap (λ (k : ℕ). n / k) (sym f) in
    ap (λ (k : ℕ). bytes_of k n) (suc-add v w)
    ∙ ap (λ (l : List ℕ). n % 256 ∷ l) (bytes_join v w (n / 256))
    ∙ ap (λ (b : ℕ). b ∷ (bytes_of v (n / 256 % room v) ++ bytes_of w (n / 256 / room v))) low
    ∙ ap (λ (k : ℕ). n % room (suc v) % 256 ∷ (bytes_of v k ++ bytes_of w (n / 256 / room v))) mid
    ∙ ap (λ (k : ℕ). n % room (suc v) % 256 ∷ (bytes_of v (n % room (suc v) / 256) ++ bytes_of w k)) high

pub length_bytes : (w n : ℕ) → length (bytes_of w n) ≡ w
unfolding bytes_of
length_bytes zero n = refl
length_bytes (suc w) n = ap suc (length_bytes w (n / 256))

pub sets_join : (s : List ℕ) (at : ℕ) (xs ys : List ℕ) → sets (sets s at xs) (at + length xs) ys ≡ sets s at (xs ++ ys)
sets_join s at [] ys = ap (λ (k : ℕ). sets s k ys) (add-zero at)
sets_join s at (x ∷ xs) ys =
    let e : at + suc (length xs) ≡ suc at + length xs = omega arith in
    ap (λ (k : ℕ). sets (sets (set s at x) (suc at) xs) k ys) e ∙ sets_join (set s at x) (suc at) xs ys

-- the one law on writing: v bytes of the low part and w of the rest behind them are all of the number
pub put_join : (v w : ℕ) (s : List ℕ) (at n : ℕ) → put_at w (put_at v s at (n % room v)) (at + v) (n / room v) ≡ put_at (v + w) s at n
unfolding put_at
put_join v w s at n =
    ap (λ (k : ℕ). sets (sets s at (bytes_of v (n % room v))) (at + k) (bytes_of w (n / room v))) (sym (length_bytes v (n % room v)))
    ∙ sets_join s at (bytes_of v (n % room v)) (bytes_of w (n / room v))
    ∙ ap (sets s at) (sym (bytes_join v w n))

-- a field of one byte
pub put_one : (s : List ℕ) (at n : ℕ) → n < 256 → set s at n ≡ put_at 1 s at n
unfolding put_at bytes_of
put_one s at n h = let e : n ≡ n % 256 = omega arith in ap (set s at) e

pub put_length : (w : ℕ) (s : List ℕ) (at n : ℕ) → length (put_at w s at n) ≡ length s
unfolding put_at
put_length w s at n = length-sets s at (bytes_of w n)

-- ---- what is written reads back

pub value_bytes : (w n : ℕ) → n < room w → value_of (bytes_of w n) ≡ n
unfolding value_of bytes_of
value_bytes zero n h = omega arith
value_bytes (suc w) n h =
    let e : room (suc w) ≡ 2 ^ (w * 8 + 8) = ap (λ (k : ℕ). 2 ^ k) (omega arith) in
    let l : n < 2 ^ (w * 8 + 8) = rw (sym e) h in
    omega (arith, value_bytes w (n / 256) (shr_lt (w * 8) 8 l))

pub field_put : (w : ℕ) (s : List ℕ) (at n : ℕ) → at + w ≤ length s → n < room w → field_at w (put_at w s at n) at ≡ n
unfolding field_at put_at
field_put w s at n h l =
    let b = length_bytes w n in
    let t : length (take at s) ≡ at = length-take-le at s (omega arith) in
    let rest = drop (at + length (bytes_of w n)) s in
    ap (λ (x : List ℕ). value_of (take w (drop at x))) (sets-eq (bytes_of w n) s at (omega (arith, b)))
    ∙ ap (λ (x : List ℕ). value_of (take w x))
    (drop-append-le at (take at s ++ bytes_of w n) rest (omega (arith, length-append (take at s) (bytes_of w n), t)))
    ∙ ap (λ (x : List ℕ). value_of (take w (x ++ rest))) (drop_at (take at s) (bytes_of w n) at t)
    ∙ ap value_of (take_at (bytes_of w n) rest w b)
    ∙ value_bytes w n l
