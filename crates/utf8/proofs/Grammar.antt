-- The test `is_utf8` passes exactly on the octets of RFC 3629's grammar.
use mathlib.Core.Bool.{Bool, true, false}
use mathlib.Core.Path.{◌≡◌, refl, sym, ap, ◌∙◌, subst}
use mathlib.Core.Logic.{◌⊎◌, inl, inr}
use mathlib.Core.List.{List, [], ◌∷◌, ◌++◌, Memᴰ}
use Prim.Native.Nat.{ℕ, suc, ◌-◌, ◌≤◌}
use native.Mathlib.Omega.{arith}
use lib.Dec.{leb}
use borrow.Author.Tests.{le-leb, leb-true}
use Rattle.facts.specs.Choice.{pick, both}
use Rattle.utf8.specs.Utf8.{Range, chars, Reads, stop, byte, Octets, none, char, within, Next, never, asks, begun, after, reads, is_utf8}
use Rattle.facts.proofs.ChoiceLaws.{false≢true, both_parts, both_left, both_right}
use Rattle.utf8.proofs.ReaderLaws.{run, segment}

-- ---- what the grammar has, the test takes

-- no two forms start with the same byte: each of a form's first bytes is followed by what that form asks
good_form : List Range → Bool
unfolding run
good_form [] = false
good_form (r ∷ rs) = run (asks rs) r.lo (suc r.hi - r.lo)

good_forms : List (List Range) → Bool
unfolding good_form
good_forms [] = true
good_forms (f ∷ fs) = both (good_form f) (good_forms fs)

good : {f : List Range} (fs : List (List Range)) → good_forms fs ≡ true → Memᴰ f fs → good_form f ≡ true
unfolding good_forms
good {f = f} [] t x = elim x [ ]
good (g ∷ fs) t (Memᴰ.head e) = subst (λ (h : List Range). good_form h ≡ true) (sym e) (both_left (good_form g) (good_forms fs) t)
good (g ∷ fs) t (Memᴰ.tail m) = good fs (both_right (good_form g) (good_forms fs) t) m

all_good : good_forms chars ≡ true
unfolding good_forms chars
all_good = refl

-- the bytes of a character are read to its end
through : {rs : List Range} {c : List ℕ} (s : List ℕ) → Reads rs c → reads (asks rs) (c ++ s) ≡ reads (asks []) s
unfolding reads after
through s stop = refl
through s (byte {r = r} {rs = rs} {x = x} {s = c} l h d) =
    let e : after (asks (r ∷ rs)) x ≡ asks rs = rw (le-leb r.lo x l, le-leb x r.hi h) in
    ap (λ (n : Next). reads n (c ++ s)) e ∙ through s d

whole_char : {f : List Range} {c : List ℕ} (s : List ℕ) → good_form f ≡ true → Reads f c → reads (asks []) (c ++ s) ≡ reads (asks []) s
unfolding reads after good_form
whole_char s t stop = false≢true t
whole_char s t (byte {r = r} {rs = rs} {x = x} {s = c} l h d) =
    let e : asks rs ≡ begun chars x = segment (asks rs) r.lo (suc r.hi - r.lo) t x l (omega arith) in
    ap (λ (n : Next). reads n (c ++ s)) (sym e) ∙ through s d

pub takes : {s : List ℕ} → Octets s → is_utf8 s ≡ true
unfolding is_utf8 reads
takes none = refl
takes (char {s = s} m r o) = whole_char s (good chars all_good m) r ∙ takes o

-- ---- what the test takes, the grammar has

-- a first part in the ranges, and characters
record Split (rs : List Range) (s : List ℕ) : Type 0 where
  c : List ℕ
  t : List ℕ
  is : c ++ t ≡ s
  first : Reads rs c
  rest : Octets t

record Begins (fs : List (List Range)) (x : ℕ) : Type 0 where
  r : Range
  rs : List Range
  mem : Memᴰ (r ∷ rs) fs
  low : r.lo ≤ x
  high : x ≤ r.hi
  is : begun fs x ≡ asks rs

begins : (fs : List (List Range)) (x : ℕ) → (begun fs x ≡ never) ⊎ Begins fs x
unfolding begun
begins [] x = inl refl
begins ([] ∷ fs) x = later (begins fs x)
  where
    later : (begun fs x ≡ never) ⊎ Begins fs x → (begun fs x ≡ never) ⊎ Begins ([] ∷ fs) x
    later (inl e) = inl e
    later (inr b) =
        inr
        (record { r = b.r; rs = b.rs; mem = Memᴰ.tail b.mem; low = b.low; high = b.high; is = b.is })
begins ((r ∷ rs) ∷ fs) x = here (within r x) refl (begins fs x)
  where
    here : (w : Bool) → within r x ≡ w → (begun fs x ≡ never) ⊎ Begins fs x
        → (pick w (asks rs) (begun fs x) ≡ never) ⊎ Begins ((r ∷ rs) ∷ fs) x
    here true e l =
        let t = both_parts (leb r.lo x) (leb x r.hi) e in
        inr
        (record {
          r = r;
          rs = rs;
          mem = Memᴰ.head refl;
          low = leb-true _ _ t.0;
          high = leb-true _ _ t.1;
          is = ap (λ (w : Bool). pick w (asks rs) (begun fs x)) e;
        })
    here false e (inl n) = inl n
    here false e (inr b) =
        inr
        (record {
          r = b.r;
          rs = b.rs;
          mem = Memᴰ.tail b.mem;
          low = b.low;
          high = b.high;
          is = ap (λ (w : Bool). pick w (asks rs) (begun fs x)) e ∙ b.is;
        })

lost : (s : List ℕ) → reads never s ≡ false
unfolding reads after
lost [] = refl
lost (x ∷ s) = lost s

split : (s : List ℕ) (rs : List Range) → reads (asks rs) s ≡ true → Split rs s
unfolding reads after
split [] [] e = record { c = []; t = []; is = refl; first = stop; rest = none }
split [] (r ∷ rs) e = false≢true e
split (x ∷ s) [] e = go (split s) (begins chars x)
  where
    go : ((rs : List Range) → reads (asks rs) s ≡ true → Split rs s) → (begun chars x ≡ never) ⊎ Begins chars x → Split [] (x ∷ s)
    go ih (inl n) = false≢true (sym (lost s) ∙ ap (λ (k : Next). reads k s) (sym n) ∙ e)
    go ih (inr b) =
        let d = ih b.rs (ap (λ (k : Next). reads k s) (sym b.is) ∙ e) in
        record {
          c = [];
          t = x ∷ s;
          is = refl;
          first = stop;
          rest = subst (λ (l : List ℕ). Octets (x ∷ l)) d.is (char b.mem (byte b.low b.high d.first) d.rest);
        }
split (x ∷ s) (r ∷ rs) e = go (split s rs) (within r x) refl
  where
    go : (reads (asks rs) s ≡ true → Split rs s) → (w : Bool) → within r x ≡ w → Split (r ∷ rs) (x ∷ s)
    go ih true w =
        let t = both_parts (leb r.lo x) (leb x r.hi) w in
        let n : after (asks (r ∷ rs)) x ≡ asks rs = ap (λ (v : Bool). pick v (asks rs) never) w in
        let d = ih (ap (λ (k : Next). reads k s) (sym n) ∙ e) in
        record {
          c = x ∷ d.c;
          t = d.t;
          is = ap (λ (l : List ℕ). x ∷ l) d.is;
          first = byte (leb-true _ _ t.0) (leb-true _ _ t.1) d.first;
          rest = d.rest;
        }
    go ih false w =
        let n : after (asks (r ∷ rs)) x ≡ never = ap (λ (v : Bool). pick v (asks rs) never) w in
        false≢true (sym (lost s) ∙ ap (λ (k : Next). reads k s) (sym n) ∙ e)

pub has : (s : List ℕ) → is_utf8 s ≡ true → Octets s
unfolding is_utf8
has s e = let d = split s [] e in go d.is d.first d.rest
  where
    go : {c t : List ℕ} → c ++ t ≡ s → Reads [] c → Octets t → Octets s
    go i stop o = subst Octets i o
