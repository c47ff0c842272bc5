-- Fields one behind the other: written from the first to the last they are their bytes, and each reads back, within its width.
use mathlib.Core.List.{List, [], ◌∷◌, ◌++◌}
use mathlib.Core.Path.{◌≡◌, refl, sym, ap, ◌∙◌}
use Prim.Native.Nat.{ℕ, zero, suc, ◌+◌, ◌*◌, ◌/◌, ◌%◌, ◌^◌, ◌≤◌, ◌<◌}
use native.Mathlib.Omega.{arith}
use lib.ListN.{length, take, drop, length-drop}
use lib.Pow.{pow_pos, pow-add}
use lib.Seq.{sets, sets-eq, take_at, drop_at, drop-drop, length-take-le}
use Rattle.bytes_le.specs.Little.{value_of, bytes_of, field_at, put_at, Octets}
use Rattle.bytes_le.proofs.OctetLaws.{octets_take, octets_drop}
use Rattle.bytes_le.proofs.Laws.{room, length_bytes, sets_join, value_bytes}

-- a field written, and then ys right behind it
pub put_before : (w : ℕ) (s : List ℕ) (at n : ℕ) {r t : List ℕ} (ys : List ℕ) → r ≡ put_at w s at n → t ≡ sets r (at + w) ys
    → t ≡ sets s at (bytes_of w n ++ ys)
unfolding put_at
put_before w s at n ys p q =
    q ∙ ap (λ (x : List ℕ). sets x (at + w) ys) p
    ∙ ap (λ (k : ℕ). sets (sets s at (bytes_of w n)) (at + k) ys) (sym (length_bytes w n))
    ∙ sets_join s at (bytes_of w n) ys

-- the last of them
pub put_last : (w : ℕ) (s : List ℕ) (at n : ℕ) {t : List ℕ} → t ≡ put_at w s at n → t ≡ sets s at (bytes_of w n)
unfolding put_at
put_last w s at n p = p

-- bytes stored from the start on, and what stays behind them
pub sets_front : (xs s : List ℕ) (k : ℕ) → length xs ≡ k → k ≤ length s → sets s 0 xs ≡ xs ++ drop k s
sets_front xs s k e h =
    let i : 0 + length xs ≡ k = omega (arith, e) in sets-eq xs s 0 (omega (arith, e)) ∙ ap (λ (j : ℕ). xs ++ drop j s) i

-- a field behind another is read as if that were not there
pub field_behind : (v w m : ℕ) (s : List ℕ) (at : ℕ) → field_at w (bytes_of v m ++ s) (v + at) ≡ field_at w s at
unfolding field_at
field_behind v w m s at =
    ap (λ (l : List ℕ). value_of (take w l))
    (sym (drop-drop at v (bytes_of v m ++ s)) ∙ ap (drop at) (drop_at (bytes_of v m) s v (length_bytes v m)))

-- the first field
pub field_first : (w n : ℕ) (s : List ℕ) → n < room w → field_at w (bytes_of w n ++ s) 0 ≡ n
unfolding field_at
field_first w n s l = ap value_of (take_at (bytes_of w n) s w (length_bytes w n)) ∙ value_bytes w n l

-- ---- what is read writes back

value_back : (s : List ℕ) → Octets s → bytes_of (length s) (value_of s) ≡ s
unfolding value_of bytes_of
value_back [] o = refl
value_back (b ∷ bs) o =
    let l = o.0 in
    let low : (b + 256 * value_of bs) % 256 ≡ b = omega arith in
    let high : (b + 256 * value_of bs) / 256 ≡ value_of bs = omega arith in
    ap (λ (x : ℕ). x ∷ bytes_of (length bs) ((b + 256 * value_of bs) / 256)) low
    ∙ ap (λ (x : ℕ). b ∷ bytes_of (length bs) x) high
    ∙ ap (λ (l : List ℕ). b ∷ l) (value_back bs o.1)

-- the bytes of a field that was read are the field's
pub bytes_field : (w : ℕ) (s : List ℕ) (at : ℕ) → Octets s → at + w ≤ length s → bytes_of w (field_at w s at) ≡ take w (drop at s)
unfolding field_at
bytes_field w s at o h =
    let part = take w (drop at s) in
    let n : length part ≡ w = length-take-le w (drop at s) (omega (arith, length-drop at s)) in
    ap (λ (k : ℕ). bytes_of k (value_of part)) (sym n) ∙ value_back part (octets_take w (drop at s) (octets_drop at s o))

value_lt : (w : ℕ) (l : List ℕ) → Octets l → value_of (take w l) < room w
unfolding value_of
value_lt zero l o = omega arith
value_lt (suc w) [] o = pow_pos (suc w * 8)
value_lt (suc w) (b ∷ l) o =
    let p : room (suc w) ≡ 256 * room w = ap (λ (k : ℕ). 2 ^ k) (omega arith) ∙ pow-add 2 8 (w * 8) in
    omega (arith, value_lt w l o.1, o.0, p)

-- a field that is read is a number of its width
pub field_lt : (w : ℕ) (s : List ℕ) (at : ℕ) → Octets s → field_at w s at < room w
unfolding field_at
field_lt w s at o = value_lt w (drop at s) (octets_drop at s o)
