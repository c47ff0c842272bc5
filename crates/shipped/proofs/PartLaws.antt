-- What has the same parts is the same.
use mathlib.Core.List.{List}
use mathlib.Core.Path.{◌≡◌, ap}
use Prim.Native.Nat.{ℕ}
use Rattle.shipped.specs.Along.{Out, out, outs}
use Rattle.shipped.specs.Sequence.{Kept, kept}
use Rattle.shipped.specs.Requests.{reply}
use Rattle.shipped.specs.Through.{watched, passed_of}

pub out_same : {X S : Type 0} {x y : X} {s t : S} → x ≡ y → s ≡ t → out x s ≡ out y t
out_same p q = cc

pub outs_same : {X S : Type 0} {xs ys : List X} {s t : S} → xs ≡ ys → s ≡ t → outs xs s ≡ outs ys t
outs_same p q = cc

pub kept_same : {s t ram area : List ℕ} → s ≡ t → ram ≡ area → kept s ram ≡ kept t area
kept_same p q = cc

pub reply_same : {n k v w : ℕ} {a b : List ℕ} → n ≡ k → a ≡ b → v ≡ w → reply n a v ≡ reply k b w
reply_same p q r = cc

pub watched_same : {k l : Kept} {v w : List ℕ} → k ≡ l → v ≡ w → watched k v ≡ watched l w
watched_same p q = cc

pub passed_same : {X : Type 0} {x y : Out X Kept} {v w : List ℕ} → x ≡ y → v ≡ w → passed_of x v ≡ passed_of y w
passed_same {X} p q = out_same (ap (λ (z : Out X Kept). z.answer) p) (watched_same (ap (λ (z : Out X Kept). z.left) p) q)
