-- Calls that were made: each with what its caller learns from the contract of the exported function itself. `imf-read.Learnt` and its like
-- are read off the clauses of `imf_read` and its like, and change with them.
use Rattle.std.specs.Prelude.{true, false, List, [], ◌⊎◌, ◌≡◌, ℕ, ◌≤◌, eqb}
use Rattle.bus.specs.Run.{Access, reads, writes, clocks}
use Rattle.player.specs.Windows.{ask}
use Rattle.player.proofs.imf_read.Reads as imf-read
use Rattle.player.proofs.imf_write.Reads as imf-write
use Rattle.player.proofs.imf_advance.Reads as imf-advance
use Rattle.player.proofs.imf_save_size.Reads as imf-save-size
use Rattle.player.proofs.imf_save_out.Reads as imf-save-out
use Rattle.player.proofs.imf_save_in.Reads as imf-save-in
use Rattle.player.proofs.imf_windows.Reads as imf-windows
use Rattle.player.proofs.imf_mount.Reads as imf-mount
use Rattle.player.proofs.imf_window_read.Reads as imf-window-read
use Rattle.player.proofs.imf_window_write.Reads as imf-window-write
use Rattle.shipped.specs.Along.{Out, Outs, out, Along}
use Rattle.shipped.specs.Sequence.{Kept, kept}
use Rattle.shipped.specs.Requests.{Request, Reply, reply, bare}
use Rattle.shipped.specs.Requests as request
use Rattle.shipped.specs.Through.{Watched, passed_of}

-- one call of a function: the values passed, the answer, the parameters as they are left, and what is learnt of them
pub record Call {K : Type 0} {D R S : K → Type 0} (Learnt : (k : K) → D k → R k → S k → Type 0) : Type 0 where
  pub lifetimes : K
  pub passed : D lifetimes
  pub answer : R lifetimes
  pub left : S lifetimes
  pub known : Learnt lifetimes passed answer left

-- a call that was lent what the player keeps, and what it left of this; `imf_read` is lent bytes that it cannot change
pub data Made (image : List ℕ) (k : Kept) : Access → Out ℕ Kept → Type 0 where
  read : (c : Call imf-read.Learnt) → c.passed.0.now ≡ k.state → c.passed.1.0.now ≡ image
      → c.passed.1.1.0.now ≡ k.area
      → Made image k (reads c.passed.1.1.1.0) (out c.answer k)
  write : (c : Call imf-write.Learnt) → c.passed.0.now ≡ k.state → c.passed.1.0.now ≡ k.area
      → Made image k (writes c.passed.1.1.0 c.passed.1.1.1.0)
      (out c.answer (kept c.left.0.now c.left.1.0.now))
  advance : (c : Call imf-advance.Learnt) → c.passed.0.now ≡ k.state
      → Made image k (clocks c.passed.1.0)
      (out c.answer (kept c.left.0.now k.area))

-- calls made one after the other, each on what the one before left
abbrev pub AllMade : List ℕ → Kept → List Access → Outs ℕ Kept → Type 0
AllMade image = Along (Made image)

-- ---- and the other calls that are lent a state

pub data MadeOther (image : List ℕ) (k : Kept) : Request → Out Reply Kept → Type 0 where
  asked : (c : Call imf-save-size.Learnt) → c.passed.0.now ≡ k.state
      → MadeOther image k (request.asks c.passed.1.0.now)
      (out (reply c.answer [] c.left.1.0.now) k)
  saved : (c : Call imf-save-out.Learnt) → c.passed.0.now ≡ k.state → c.passed.1.0.now ≡ k.area
      → MadeOther image k (request.saves c.passed.1.1.0.now c.passed.1.1.1.0 c.passed.1.1.1.1.0.now)
      (out (reply c.answer c.left.1.1.0.now c.left.1.1.1.1.0.now) k)
  loaded : (c : Call imf-save-in.Learnt) → c.passed.0.now ≡ k.state → c.passed.1.0.now ≡ k.area
      → MadeOther image k (request.loads c.passed.1.1.0.now c.passed.1.1.1.0 c.passed.1.1.1.1.0.now)
      (out (reply c.answer [] c.left.1.1.1.1.0.now) (kept c.left.0.now c.left.1.0.now))
  looked : (c : Call imf-windows.Learnt) → c.passed.0.now ≡ k.state
      → MadeOther image k (request.looks c.passed.1.0.now)
      (out (reply c.answer c.left.1.0.now 0) k)
  mounted : (c : Call imf-mount.Learnt) → c.passed.0.now ≡ k.state → c.passed.1.0.now ≡ image → c.passed.1.1.0.now ≡ k.area
      → MadeOther image k (request.mounts c.passed.1.1.1.0)
      (out (reply c.answer [] 0) (kept c.left.0.now c.left.1.1.0.now))

pub data MadeRequest (image : List ℕ) (k : Kept) : Request → Out Reply Kept → Type 0 where
  access : {a : Access} {x : Out ℕ Kept} → Made image k a x → MadeRequest image k (request.bus a) (bare x)
  other : {q : Request} {x : Out Reply Kept} → MadeOther image k q x → MadeRequest image k q x

abbrev pub AllRequested : List ℕ → Kept → List Request → Outs Reply Kept → Type 0
AllRequested image = Along (MadeRequest image)

-- ---- through windows

-- where a call that gave this number has left the windows where they were: all but an accepted write below 0x8000, an accepted save that
-- was read and an accepted mounting
abbrev pub StaysIn : Access → ℕ → Type 0
StaysIn (reads addr) n = Unit {0}
StaysIn (writes addr byte) n = (0x8000 ≤ addr) ⊎ (n ≡ 0 → ⊥)
StaysIn (clocks c) n = Unit {0}

abbrev pub Stays : Request → ℕ → Type 0
Stays (request.bus a) n = StaysIn a n
Stays (request.asks size) n = Unit {0}
Stays (request.saves room wall size) n = Unit {0}
Stays (request.loads bytes wall clock) n = n ≡ 0 → ⊥
Stays (request.looks words) n = Unit {0}
Stays (request.mounts wall) n = n ≡ 0 → ⊥

-- the windows after a call that left these bytes: kept where they stay, or, there too, asked for anew
pub data Renewed (stays : Type 0) (state windows : List ℕ) : List ℕ → Type 0 where
  same : stays → Renewed stays state windows windows
  anew : (d : Call imf-windows.Learnt) → d.passed.0.now ≡ state → Renewed stays state windows d.left.1.0.now

-- a read through the windows, and one of the state behind it, as where they say so; a write through them, and one of the state where they
-- say so; and any access without them
pub data MadeThrough (image : List ℕ) (k : Watched) : Access → Out ℕ Watched → Type 0 where
  seen : (c : Call imf-window-read.Learnt) → c.passed.0.now ≡ k.windows → c.passed.1.0.now ≡ image
      → c.passed.1.1.0.now ≡ k.kept.area → eqb c.answer ask ≡ false
      → MadeThrough image k (reads c.passed.1.1.1.0) (out c.answer k)
  asked : (c : Call imf-window-read.Learnt) → c.passed.0.now ≡ k.windows → c.passed.1.0.now ≡ image
      → c.passed.1.1.0.now ≡ k.kept.area
      → {x : Out ℕ Kept} → Made image k.kept (reads c.passed.1.1.1.0) x
      → MadeThrough image k (reads c.passed.1.1.1.0) (passed_of x k.windows)
  put : (c : Call imf-window-write.Learnt) → eqb c.answer ask ≡ false → c.passed.0.now ≡ k.windows
      → c.passed.1.0.now ≡ k.kept.area
      → MadeThrough image k (writes c.passed.1.1.0 c.passed.1.1.1.0)
      (passed_of (out c.answer (kept k.kept.state c.left.1.0.now)) k.windows)
  written : (c : Call imf-window-write.Learnt) → c.passed.0.now ≡ k.windows → c.passed.1.0.now ≡ k.kept.area
      → eqb c.answer ask ≡ true
      → {x : Out ℕ Kept}
      → Made image (kept k.kept.state c.left.1.0.now) (writes c.passed.1.1.0 c.passed.1.1.1.0) x
      → {w : List ℕ}
      → Renewed (StaysIn (writes c.passed.1.1.0 c.passed.1.1.1.0) x.answer) x.left.state k.windows w
      → MadeThrough image k (writes c.passed.1.1.0 c.passed.1.1.1.0) (passed_of x w)
  direct : {a : Access} {x : Out ℕ Kept} → Made image k.kept a x
      → {w : List ℕ} → Renewed (StaysIn a x.answer) x.left.state k.windows w
      → MadeThrough image k a (passed_of x w)

abbrev pub AllMadeThrough : List ℕ → Watched → List Access → Outs ℕ Watched → Type 0
AllMadeThrough image = Along (MadeThrough image)

-- ---- and all of it

pub data MadeAny (image : List ℕ) (k : Watched) : Request → Out Reply Watched → Type 0 where
  access : {a : Access} {x : Out ℕ Watched} → MadeThrough image k a x → MadeAny image k (request.bus a) (bare x)
  other : {q : Request} {x : Out Reply Kept} → MadeOther image k.kept q x
      → {w : List ℕ} → Renewed (Stays q x.answer.number) x.left.state k.windows w
      → MadeAny image k q (passed_of x w)

abbrev pub AllMadeAny : List ℕ → Watched → List Request → Outs Reply Watched → Type 0
AllMadeAny image = Along (MadeAny image)
