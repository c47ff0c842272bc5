-- Calls that were made: each with what its caller learns from the contract of the exported function itself, one after the other. They
-- are the calls of `calls_of`, so that what is proved of these holds of what ships.
use mathlib.Core.List.{List}
use mathlib.Core.Path.{◌≡◌, refl, ap, ◌∙◌}
use Prim.Native.Nat.{ℕ}
use Rattle.bus.specs.Run.{Access}
use Rattle.flat_write.specs.Calls.{state_written, area_written, state_advanced}
use Rattle.player.specs.Bus.{read_of, write_of, advance_of}
use Rattle.shipped.specs.Sequence.{Kept, call_of, calls_of}
use Rattle.shipped.specs.Along.{Out, Outs}
use Rattle.shipped.specs.Made.{Made, read, write, advance, AllMade}
use Rattle.shipped.proofs.PartLaws.{out_same, kept_same}
use Rattle.shipped.proofs.AlongLaws.{along_are}

-- what is said of the bytes that were lent is said of those that the player keeps
pub of_one : {A : Type 0} (f : List ℕ → A) {x : A} {s t : List ℕ} → s ≡ t → x ≡ f s → x ≡ f t
of_one f e p = p ∙ ap f e

pub of_two : {A : Type 0} (f : List ℕ → List ℕ → A) {x : A} {s t ram area : List ℕ} → s ≡ t → ram ≡ area → x ≡ f s ram → x ≡ f t area
of_two f {area = area} e g p = of_one (λ s. f s area) e (of_one (f _) g p)

pub made_is : {image : List ℕ} {k : Kept} {a : Access} {x : Out ℕ Kept} → Made image k a x → x ≡ call_of image k a
made_is {image} {k} (read c p q r) =
    let addr = c.passed.1.1.1.0 in
    out_same
    (of_two (λ s ram. read_of s image ram addr) p r
    (of_one (λ l. read_of c.passed.0.now l c.passed.1.1.0.now addr) q c.known)) refl
made_is (write c p q) =
    let addr = c.passed.1.1.0 in
    let byte = c.passed.1.1.1.0 in
    out_same (of_two (λ s ram. write_of s ram addr byte) p q c.known.0)
    (kept_same (of_two (λ s ram. state_written s ram addr byte) p q c.known.1.0)
    (of_two (λ s ram. area_written s ram addr byte) p q c.known.1.1))
made_is (advance c p) =
    let n = c.passed.1.0 in
    out_same (of_one (λ s. advance_of s n) p c.known.0) (kept_same (of_one (λ s. state_advanced s n) p c.known.1) refl)

pub all_made_are : {image : List ℕ} {k : Kept} {accesses : List Access} {r : Outs ℕ Kept} → AllMade image k accesses r
    → r ≡ calls_of image k accesses
all_made_are {image} made = along_are (call_of image) (λ k a x m. made_is m) made
