-- A block that was written reads back, and one that was read writes back; and when a woken clock is kept as the same block.
use Rattle.std.proofs.Common.{◌≡◌, ℕ, ◌+◌, ◌-◌, ◌^◌, ◌<◌, ◌≤◌, true, List, ◌++◌, length, take, drop, sym, refl, ap, ◌∙◌, arith, drop-drop, take-add}
use Rattle.bytes_le.specs.Little.{bytes_of, field_at, Octets}
use Rattle.bytes_le.proofs.FieldLaws.{field_behind, field_first, bytes_field}
use Rattle.clock_registers.specs.Seconds.{seconds_on}
use Rattle.clock_registers.specs.Fit.{fit_registers}
use Rattle.clock_registers.proofs.SecondLaws.{seconds_fit}
use Rattle.clock.specs.Fit.{fit_clock}
use Rattle.clock.specs.declared.Clock.{Clock}
use Rattle.clock.proofs.FitLaws.{parts_fit}
use Rattle.clock_block.specs.Layout.{block_bytes, block_in}
use Rattle.clock_block.specs.Waking.{block_of, taken_of, time_of, woken_of}
use Rattle.clock_block.specs.declared.Block.{Block}
use Rattle.clock_block.proofs.Laws.{block_of_lem}

-- the widths of the fields
pub record Narrow (b : Block) : Type 0 where
  pub second : b.second < 256
  pub minute : b.minute < 256
  pub hour : b.hour < 256
  pub day : b.day < 65536
  pub time : b.time < 2 ^ 64
  pub offset : b.offset < 2 ^ 64

pub block_back : (b : Block) (rest : List ℕ) → Narrow b → block_in (block_bytes b ++ rest) ≡ b
unfolding block_in block_bytes bytes_of
block_back b rest n =
    let b₆ = bytes_of 8 b.offset ++ rest in
    let b₅ = bytes_of 8 b.time ++ b₆ in
    let b₄ = bytes_of 2 b.day ++ b₅ in
    let b₃ = bytes_of 1 b.hour ++ b₄ in
    let b₂ = bytes_of 1 b.minute ++ b₃ in
    block_of_lem (field_first 1 b.second b₂ n.second)
    (field_behind 1 1 b.second b₂ 0 ∙ field_first 1 b.minute b₃ n.minute)
    (field_behind 1 1 b.second b₂ 1 ∙ field_behind 1 1 b.minute b₃ 0 ∙ field_first 1 b.hour b₄ n.hour)
    (field_behind 1 2 b.second b₂ 2 ∙ field_behind 1 2 b.minute b₃ 1 ∙ field_behind 1 2 b.hour b₄ 0
    ∙ field_first 2 b.day b₅ n.day)
    (field_behind 1 8 b.second b₂ 4 ∙ field_behind 1 8 b.minute b₃ 3 ∙ field_behind 1 8 b.hour b₄ 2
    ∙ field_behind 2 8 b.day b₅ 0 ∙ field_first 8 b.time b₆ n.time)
    (field_behind 1 8 b.second b₂ 12 ∙ field_behind 1 8 b.minute b₃ 11 ∙ field_behind 1 8 b.hour b₄ 10
    ∙ field_behind 2 8 b.day b₅ 8 ∙ field_behind 8 8 b.time b₆ 0 ∙ field_first 8 b.offset rest n.offset)

-- fields one behind the other, taken together
joined : (v w : ℕ) (s : List ℕ) (at : ℕ) {x y : List ℕ} → x ≡ take v (drop at s) → y ≡ take w (drop (at + v) s)
    → x ++ y ≡ take (v + w) (drop at s)
joined v w s at {y = y} p q =
    ap (λ (l : List ℕ). l ++ y) p ∙ ap (λ (l : List ℕ). take v (drop at s) ++ l) (q ∙ ap (take w) (sym (drop-drop v at s)))
    ∙ sym (take-add v w (drop at s))

pub bytes_back : (s : List ℕ) → Octets s → 21 ≤ length s → block_bytes (block_in s) ≡ take 21 s
unfolding block_in block_bytes
bytes_back s o h =
    let f : (w at : ℕ) → at + w ≤ 21 → bytes_of w (field_at w s at) ≡ take w (drop at s) =
    λ w at l. bytes_field w s at o (omega arith) in
    joined 1 20 s 0 (f 1 0 (omega arith))
    (joined 1 19 s 1 (f 1 1 (omega arith))
    (joined 1 18 s 2 (f 1 2 (omega arith))
    (joined 2 16 s 3 (f 2 3 (omega arith)) (joined 8 8 s 5 (f 8 5 (omega arith)) (f 8 13 (omega arith))))))

-- ---- the clock that a block wakes

pub woken_fit : (b : Block) (wall : ℕ) → fit_registers (taken_of b) ≡ true → fit_clock (woken_of b wall) ≡ true
unfolding woken_of fit_registers
woken_fit b wall e =
    parts_fit (woken_of b wall)
    (record { running = seconds_fit (time_of b wall - b.time) (taken_of b) e; frozen = refl; sub = omega arith })

-- where no second has passed since the stored time, the registers are the stored ones
pub woken_same : (b : Block) (wall : ℕ) → time_of b wall ≤ b.time → (woken_of b wall).running ≡ taken_of b
unfolding woken_of seconds_on
woken_same b wall h =
    let z : time_of b wall - b.time ≡ 0 = omega arith in ap (λ (n : ℕ). seconds_on n (taken_of b)) z

-- a clock kept and woken at the same wall time, if it was not behind that: its time comes back, and so no second passes
pub kept_time : (c : Clock) (wall : ℕ) → wall ≤ c.time → time_of (block_of c wall) wall ≡ c.time
unfolding block_of
kept_time c wall h = omega arith

-- a block woken and kept again at the same wall time has the time wall + offset,
pub again_time : (b : Block) (wall : ℕ) → (block_of (woken_of b wall) wall).time ≡ time_of b wall
unfolding block_of woken_of
again_time b wall = refl

-- and is the same block if it had that time before
pub again_same : (b : Block) (wall : ℕ) → b.time ≡ time_of b wall → block_of (woken_of b wall) wall ≡ b
unfolding block_of woken_of taken_of
again_same b wall e =
    let r = woken_same b wall (omega arith) in
    let o : time_of b wall - wall ≡ b.offset = omega arith in
    block_of_lem (ap (λ x. x.second) r) (ap (λ x. x.minute) r) (ap (λ x. x.hour) r) (ap (λ x. x.day) r) (sym e) o
