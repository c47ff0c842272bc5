-- Lists of requests: calls that were made are those of the definition, and what is served of one thing stands for what is served of
-- another.
use mathlib.Core.List.{List, [], ◌∷◌}
use mathlib.Core.Path.{◌≡◌, refl, ap, ◌∙◌}
use Rattle.shipped.specs.Along.{Out, Outs, out, outs, before, along, Along, end, next}

pub along_are : {Q X S : Type 0} (f : S → Q → Out X S) {Made : S → Q → Out X S → Type 0}
    → ((k : S) (q : Q) (x : Out X S) → Made k q x → x ≡ f k q) → {k : S} {qs : List Q} {r : Outs X S} → Along Made k qs r
    → r ≡ along f k qs
along_are f is end = refl
along_are f is (next {k = k} {q = q} {qs = qs} {x = x} m ms) =
    ap (before x.answer) (along_are f is ms) ∙ ap (λ y. before y.answer (along f y.left qs)) (is k q x m)

-- f on h of a thing answers as g on the thing does and leaves h of what g leaves, where P holds of the thing and O of each request
module _ {Q X S T : Type 0} (f : S → Q → Out X S) (g : T → Q → Out X T) (h : T → S) (P : T → Type 0) (O : Q → Type 0)
    (Os : List Q → Type 0) (parts : (q : Q) (qs : List Q) → Os (q ∷ qs) → O q × Os qs)
    (step : (m : T) → P m → (q : Q) → O q → f (h m) q ≡ out (g m q).answer (h (g m q).left))
    (stays : (m : T) → P m → (q : Q) → O q → P (g m q).left) where
  pub along_ships : (m : T) → P m → (qs : List Q) → Os qs → along f (h m) qs ≡ outs (along g m qs).answers (h (along g m qs).left)
  along_ships m p [] o = refl
  along_ships m p (q ∷ qs) o =
      let os = parts q qs o in
      ap (λ y. before y.answer (along f y.left qs)) (step m p q os.0)
      ∙ ap (before (g m q).answer) (along_ships (g m q).left (stays m p q os.0) qs os.1)

  pub along_stays : (m : T) → P m → (qs : List Q) → Os qs → P (along g m qs).left
  along_stays m p [] o = p
  along_stays m p (q ∷ qs) o = let os = parts q qs o in along_stays (g m q).left (stays m p q os.0) qs os.1

-- calls that were made on a thing of S answer as g does on one of T, where R holds between the two and O of each request
module _ {Q X S T : Type 0} (Made : S → Q → Out X S → Type 0) (g : T → Q → Out X T) (R : T → S → Type 0) (O : Q → Type 0)
    (Os : List Q → Type 0) (parts : (q : Q) (qs : List Q) → Os (q ∷ qs) → O q × Os qs)
    (step : (m : T) (k : S) → R m k → (q : Q) → O q → (x : Out X S) → Made k q x → (x.answer ≡ (g m q).answer) × R (g m q).left x.left) where
  pub along_follows : (m : T) (k : S) → R m k → (qs : List Q) → Os qs → (r : Outs X S) → Along Made k qs r
      → (r.answers ≡ (along g m qs).answers) × R (along g m qs).left r.left
  along_follows m k h [] o r end = (refl, h)
  along_follows m k h (q ∷ qs) o r (next {x = x} {r = rest} made more) =
      let os = parts q qs o in
      let s = step m k h q os.0 x made in
      let t = along_follows (g m q).left x.left s.1 qs os.1 rest more in
      (both s.0 t.0, t.1)
    where
      both : {a b : X} {as' bs : List X} → a ≡ b → as' ≡ bs → (a ∷ as') ≡ (b ∷ bs)
      both p q = cc
