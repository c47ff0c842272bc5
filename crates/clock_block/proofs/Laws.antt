-- The block's bytes, and the answer of a waking by its tests.
use Rattle.std.specs.Prelude.{Ok, Err, Some, None, Result, Option}
use Rattle.std.proofs.Common.{◌≡◌, ℕ, ◌+◌, ◌-◌, ◌%◌, ◌^◌, ◌≤◌, Bool, true, false, not, List, [], ◌∷◌, length, sym, refl, ap, ◌∙◌, arith, ltb-false}
use Rattle.facts.specs.Refusals.{no, first_no}
use Rattle.bytes_le.specs.Little.{bytes_of, put_at}
use Rattle.bytes_le.proofs.FieldLaws.{put_before, put_last, sets_front}
use Rattle.clock_registers.specs.Access.{zeros}
use Rattle.clock_registers.specs.Fit.{fit_registers}
use Rattle.clock_registers.specs.Seconds.{forward_of, seconds_on}
use Rattle.clock_registers.specs.declared.Registers.{Registers}
use Rattle.clock_registers.proofs.SecondLaws.{stepped_only, unstepped_only}
use Rattle.clock.specs.Access.{start_at}
use Rattle.clock.specs.declared.Clock.{Clock}
use Rattle.clock_block.specs.Layout.{block, block_bytes, put_block}
use Rattle.clock_block.specs.Waking.{taken_of, time_of, late, woken_of, wake_of, block_noes}
use Rattle.clock_block.specs.declared.Block.{Block}
use Rattle.clock_block.specs.declared.BlockRefusal.TheVariants.{Beyond, Late}
use Rattle.clock_block.specs.declared.BlockRefusal.{BlockRefusal}

-- ---- the bytes

pub length_block : (b : Block) → length (block_bytes b) ≡ 21
unfolding block_bytes bytes_of
length_block b = refl

-- the six fields written one after the other are the block
pub fields_put : (b : Block) (s : List ℕ) {r₁ r₂ r₃ r₄ r₅ r₆ : List ℕ} → 21 ≤ length s → r₁ ≡ put_at 1 s 0 b.second
    → r₂ ≡ put_at 1 r₁ 1 b.minute → r₃ ≡ put_at 1 r₂ 2 b.hour → r₄ ≡ put_at 2 r₃ 3 b.day → r₅ ≡ put_at 8 r₄ 5 b.time
    → r₆ ≡ put_at 8 r₅ 13 b.offset → r₆ ≡ put_block b s
unfolding put_block block_bytes
fields_put b s {r₁} {r₂} {r₃} {r₄} {r₅} h p₁ p₂ p₃ p₄ p₅ p₆ =
    put_before 1 s 0 b.second _ p₁
    (put_before 1 r₁ 1 b.minute _ p₂
    (put_before 1 r₂ 2 b.hour _ p₃
    (put_before 2 r₃ 3 b.day _ p₄ (put_before 8 r₄ 5 b.time _ p₅ (put_last 8 r₅ 13 b.offset p₆)))))
    ∙ sets_front (block_bytes b) s 21 (length_block b) h

-- a block is its six fields
pub block_of_lem : {s s' m m' h h' d d' t t' o o' : ℕ} → s ≡ s' → m ≡ m' → h ≡ h' → d ≡ d' → t ≡ t' → o ≡ o'
    → block s m h d t o ≡ block s' m' h' d' t' o'
block_of_lem p q r x y z = cc

-- ---- waking

module _ (b : Block) (wall : ℕ) where
  -- the answer by the two tests
  abbrev by : Bool → Bool → Result Clock BlockRefusal
  by f l = first_no Err (no (not f) Beyond ∷ no l Late ∷ []) (Ok (woken_of b wall))

  split : {f l : Bool} → fit_registers (taken_of b) ≡ f → late b wall ≡ l → by f l ≡ wake_of b wall
  unfolding wake_of block_noes
  split {f} p q = ap (by f) (sym q) ∙ ap (λ (g : Bool). by g (late b wall)) (sym p)

  -- what the step answers, of the registers taken
  module _ (n : ℕ) {r : Registers} {x : Option Registers} (p : r ≡ taken_of b) (e : x ≡ forward_of r n) where
    pub woken_beyond : x ≡ None → Err Beyond ≡ wake_of b wall
    woken_beyond g = split (ap fit_registers (sym p) ∙ unstepped_only r n (sym e ∙ g)) refl

    taken_fit : {q : Registers} → x ≡ Some q → fit_registers (taken_of b) ≡ true
    taken_fit {q} g = ap fit_registers (sym p) ∙ (stepped_only r q n (sym e ∙ g)).0

    pub woken_late : {q : Registers} {t : Bool} → x ≡ Some q → t ≡ late b wall → t ≡ true → Err Late ≡ wake_of b wall
    woken_late g l k = split (taken_fit g) (sym l ∙ k)

    pub woken_to : {q : Registers} {t : Bool} {time : ℕ} {c : Clock} → x ≡ Some q → t ≡ late b wall → t ≡ false
        → time ≡ (wall + b.offset) % 2 ^ 64 → n ≡ time - b.time → c ≡ start_at time
        → Ok (record { running = q; sub = c.sub; time = c.time; latched = c.latched; frozen = c.frozen }) ≡ wake_of b wall
    unfolding woken_of
    woken_to {q} {time = time} g l k w d f =
        let m = ltb-false 18446744073709551615 (time_of b wall) (sym l ∙ k) in
        let u : time ≡ time_of b wall = w ∙ omega arith in
        ap (λ (z : Clock). Ok
        (record { running = q; sub = z.sub; time = z.time; latched = z.latched; frozen = z.frozen })) f
        ∙ ap (λ (z : Registers). Ok (record { running = z; sub = 0; time = time; latched = false; frozen = zeros }))
        ((stepped_only r q n (sym e ∙ g)).1 ∙ ap (seconds_on n) p ∙ ap (λ (i : ℕ). seconds_on i (taken_of b)) d)
        ∙ ap (λ (i : ℕ). Ok
        (record { running = seconds_on (i - b.time) (taken_of b); sub = 0; time = i; latched = false; frozen = zeros })) u
        ∙ split (taken_fit g) (sym l ∙ k)
