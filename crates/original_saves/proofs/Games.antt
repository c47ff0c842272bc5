-- Whole games against the Rust itself: what it reads of a save that we accept, what it answers, and what it writes.
use Rattle.std.specs.Prelude.{Ok, Err, Result}
use mathlib.Core.Bool.{Bool, true, false}
use mathlib.Core.List.{List, []}
use mathlib.Core.Logic.{◌⊎◌, inl, inr, ◌↔◌}
use mathlib.Core.Option.{Option, none, some}
use mathlib.Core.Path.{◌≡◌, refl, sym, ap, ◌∙◌, subst}
use Prim.Native.Nat.{ℕ, zero, suc, ◌<◌, ◌≤◌}
use native.Mathlib.Omega.{arith}
use lib.ListN.{length, take, drop, drop_of_length-le}
use lib.Seq.{take_at}
use Rattle.facts.proofs.RefusalLaws.{none_if, none_accepts}
use Rattle.bytes_le.specs.Little.{value_of, field_at}
use Rattle.clock_registers.specs.declared.Registers.{Registers}
use Rattle.clock.specs.declared.Clock.{Clock}
use Rattle.clock_block.specs.Layout.{block_in}
use Rattle.clock_block.specs.Waking.{taken_of, block_of}
use Rattle.clock_block.proofs.BackLaws.{woken_same, kept_time}
use Rattle.cartridge.specs.declared.Cartridge as our
use Rattle.save_file.specs.Save.{bytes_of, save_noes, save_of, room_after, room_by}
use Rattle.save_file.specs.declared.SaveRefusal.{SaveRefusal}
use Rattle.bus.specs.Run.{Access, Answer, Machine, Ready}
use Rattle.runs.specs.Game.{Game, Readable, begins}
use Rattle.runs.specs.Calls.{Calls}
use Rattle.runs.specs.Calls as calls
use Rattle.runs.proofs.RunLaws.{mount_ready}
use Rattle.runs.proofs.SaveLaws.{load_ready}
use Rattle.runs.specs.Kept.{kept_answers}
use Rattle.original.specs.Machine.{ok, u64}
use Rattle.original.specs.Cartridge.{Cartridge}
use Rattle.original.specs.Step.{original_run}
use Rattle.original.proofs.StartLaws.{start_same}
use Rattle.board.proofs.Board.{same_beside, all_held}
use Rattle.original_saves.specs.SramFile.{save_sram_file}
use Rattle.original_saves.specs.Written.{WritesRam, BlockOurs}
use Rattle.original_saves.specs.ReadIn.{Harmless, CutBlock, Prompt}
use Rattle.original_saves.specs.Agrees.{ClockHolds, NothingDue, Unseen, CutHarmless, ClockBegins, given, past_of, GameAgrees}
use Rattle.original_saves.proofs.WrittenLaws.{writes_same, due_parts, whole_file, block_alone}
use Rattle.original_saves.proofs.ReadInLaws.{no_file, mounted_rust, with_read, battery_is, reads_beside}
use Rattle.original_saves.proofs.GameLaws.{game, left_ready}

-- ---- 1. the game

game_ready : (g : Game) (file : Option (List ℕ)) → Ready g.image (begins g file)
game_ready g none = mount_ready g.image g.area g.wall g.cart g.mounts
game_ready g (some save) = load_ready save g.wall (mount_ready g.image g.area g.wall g.cart g.mounts)

-- Any game with its save file, or none, any list of accesses of bytes, and any answers that our calls give and leave n.
pub game_agrees : (g : Game) (file : Option (List ℕ)) → Readable g file → CutHarmless g file → (accesses : List Access)
    → calls.Octets accesses → Unseen g file accesses → {xs : List Answer} {n : Machine} → Calls g.image (begins g file) accesses xs n
    → GameAgrees g file accesses xs n
game_agrees g none r c accesses b u made =
    let same = (start_same g).same in
    game g none (mounted_rust g) (with_read g none ∙ no_file (mounted_rust g)) (battery_is g) (game_ready g none) (same_beside same)
    (λ _. same) accesses b u made
game_agrees g (some save) r c accesses b u made =
    let x = reads_beside g save r.0 r.1 c in
    game g (some save) x.start x.takes x.battery (game_ready g (some save)) x.beside (goes x.same) accesses b u made
  where
    goes : {A B : Type 0} → (A → B) → ⊥ ⊎ A → B
    goes f (inl h) = absurd h
    goes f (inr h) = f h

-- Inside the clock's domain every answer is ours.
pub inside_agrees : {g : Game} {file : Option (List ℕ)} {accesses : List Access} {xs : List Answer} {n : Machine}
    → (a : GameAgrees g file accesses xs n) → ClockHolds g file accesses
    → original_run a.start (given g file accesses) ≡ ok (record { answers = kept_answers xs; left = a.left })
inside_agrees {g} {file} {accesses} {xs} a h =
    let e =
    all_held g.image (begins g file) (past_of g file) (ClockBegins g file) (given g file accesses) (kept_answers xs) a.answers
    h.0 h.1 a.alike in
    a.runs ∙ ap (λ (ys : List Answer). ok (record { answers = ys; left = a.left })) (sym e)

-- ---- 2. the save that is then written

-- Inside the clock's domain every byte of the block is ours exactly where Original 3: "after each whole second .. before any .. save, a
-- clock register is read while not frozen": with a second due they are not all ours.
pub save_is_ours : {g : Game} {file : Option (List ℕ)} {accesses : List Access} → calls.Octets accesses
    → {xs : List Answer} {n : Machine} → Calls g.image (begins g file) accesses xs n → (a : GameAgrees g file accesses xs n)
    → ClockHolds g file accesses → (now : ℕ) → NothingDue g file accesses n ↔ BlockOurs n now (a.writes now).behind
save_is_ours {g} {file} {accesses} b {n = n} made a h now =
    let ready = left_ready g file (game_ready g file) accesses b made in (
      (λ due. block_alone n a.left now (a.writes now) (writes_same ready (a.same h) due now)),
      (λ w t. none_due _ (λ z. due_parts ready (a.same h) t z now (whole_file n a.left now (a.writes now) w))),
    )
  where
    none_due : (k : ℕ) → ((k ≡ 0 → ⊥) → ⊥) → k ≡ 0
    none_due zero f = refl
    none_due (suc k) f = absurd (f (λ e. omega arith))

-- Our call's room then begins with the Rust's file.
abbrev wrote : Result ℕ SaveRefusal → Bool
wrote (Ok n) = true
wrote (Err w) = false

wrote_all : (c : our.Cartridge) (ram : List ℕ) (room now k : ℕ) → save_of c ram room now ≡ Ok k
    → length (bytes_of c.mapper ram now) ≡ k
unfolding save_of
wrote_all c ram room now k e =
    let a = Ok (length (bytes_of c.mapper ram now)) in
    let none = none_if wrote Err (λ w. refl) (save_noes c ram room now) a (ap wrote e) in
    let is = sym (none_accepts Err a (save_noes c ram room now) none) ∙ e in
    cc

pub room_is_file : (m : Machine) (o : Cartridge) (now : ℕ) (w : WritesRam m o now) → BlockOurs m now w.behind → (room : List ℕ) (k : ℕ)
    → save_of m.cart m.area (length room) now ≡ Ok k
    → save_sram_file o now ≡ ok (take k (room_after m.cart m.area room now))
unfolding room_after
room_is_file m o now w same room k e =
    let b = bytes_of m.cart.mapper m.area now in
    whole_file m o now w same
    ∙ ap ok
    (sym
    (ap (λ (x : Result ℕ SaveRefusal). take k (room_by b room x)) e
    ∙ take_at b (drop k room) k (wrote_all m.cart m.area (length room) now k e)))

-- ---- 3. what is asked of a save that is read

empty_harmless : (wall : ℕ) → wall < u64 → Harmless (block_in []) wall
unfolding block_in field_at value_of
empty_harmless wall h = record { second = omega arith; minute = omega arith; hour = omega arith; offset = refl; early = h }

-- Of a block that is cut short: it holds where no byte stands behind the RAM area.
pub no_block_harmless : (m : Machine) (save : List ℕ) (wall : ℕ) → wall < u64 → length save ≤ length m.area → CutBlock m save wall
no_block_harmless m save wall h l _ _ =
    let none = drop_of_length-le save l in
    subst (λ (s : List ℕ). Harmless (block_in s) wall) (sym none) (empty_harmless wall h)

-- Of the clock, where Save 10: "a save written and read at one and the same wall time .. if the clock's time was then that wall time or
-- later": it holds of what we save, but for minute 60 and hour 24.
pub way_back_prompt : (k : Clock) (wall : ℕ) → wall ≤ k.time → (k.running.minute ≡ 60 → ⊥) → (k.running.hour ≡ 24 → ⊥)
    → Prompt (block_of k wall) wall
unfolding block_of taken_of
way_back_prompt k wall h minute hour =
    let time = kept_time k wall h in
    record {
      not_behind = omega (arith, time);
      few = omega (arith, time);
      minute = minute;
      hour = hour;
      clear = ap (λ (r : Registers). r.carry) (woken_same (block_of k wall) wall (omega (arith, time)));
    }
