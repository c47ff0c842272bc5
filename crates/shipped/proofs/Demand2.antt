-- Demand 2 of what ships: an image that `imf_mount` takes, a save that `imf_save_in` takes or none, and any list of reads, writes and
-- advances through the exported calls.
use Rattle.std.specs.Prelude.{Result, Option as Maybe}
use mathlib.Core.List.{List}
use mathlib.Core.Option.{Option, none, some}
use mathlib.Core.Path.{◌≡◌, sym, ap, ◌∙◌, subst}
use Prim.Native.Nat.{ℕ, ◌<◌, ◌^◌}
use native.Mathlib.Omega.{arith}
use Rattle.bytes_le.specs.Little as bytes
use Rattle.cartridge.specs.Fit.{InTime}
use Rattle.cartridge.specs.declared.Cartridge.{Cartridge}
use Rattle.bus.specs.Run.{Access, run_of, Answer, Machine}
use Rattle.player.proofs.imf_windows.Reads as imf-windows
use Rattle.player.specs.Save.{loaded_number}
use Rattle.player.proofs.imf_mount.Reads as imf-mount
use Rattle.runs.specs.Game.{Game, mounted_machine, answer_to, Accepted, Readable, begins}
use Rattle.runs.specs.Calls as calls
use Rattle.runs.proofs.SaveLaws.{load_ready}
use Rattle.runs.proofs.RunLaws.{run_called, calls_run}
use Rattle.original_saves.specs.Agrees.{Unseen, CutHarmless}
use Rattle.original_saves.proofs.Games.{game_agrees}
use Rattle.shipped.specs.Along.{Out, Outs, out, outs}
use Rattle.shipped.specs.Sequence.{Kept, calls_of}
use Rattle.shipped.specs.Ships.{kept_of, Sound}
use Rattle.shipped.specs.Requests.{Request, Reply, request_of, serve_of}
use Rattle.shipped.specs.Requests as request
use Rattle.shipped.specs.Agrees.{ShippedAgrees}
use Rattle.shipped.specs.Through.{Watched, watched, Watches}
use Rattle.shipped.specs.Made.{Call, AllMade, MadeRequest, AllMadeThrough}
use Rattle.shipped.specs.Mounted.{MountsBy, kept_by, game_by}
use Rattle.shipped.proofs.Made.{all_made_are}
use Rattle.shipped.proofs.Shipped.{calls_ship, mount_sound, run_sound}
use Rattle.shipped.proofs.Saves.{request_ships, serve_sound}
use Rattle.shipped.proofs.Mounted.{mount_leaves}
use Rattle.shipped.proofs.MadeSaves.{request_is}
use Rattle.shipped.proofs.MadeThrough.{windows_watch, mounted_ready, made_through_ships}
use Rattle.shipped.proofs.NumberLaws.{save_some}
use Rattle.save_file.specs.declared.SaveRefusal.{SaveRefusal}

-- ---- calls on the bytes of a game's beginning

pub game_ships : (g : Game) (file : Option (List ℕ)) → Readable g file → CutHarmless g file → Sound (begins g file)
    → (accesses : List Access) → calls.Octets accesses → Unseen g file accesses
    → ShippedAgrees g file accesses (calls_of g.image (kept_of (begins g file)) accesses)
game_ships g file r c h accesses o u =
    let m = begins g file in
    let x = run_of g.image m accesses in
    record {
      answers = x.answers;
      left = x.left;
      is = calls_ship g.image m h accesses o;
      agrees = game_agrees g file r c accesses o u (run_called g.image m accesses);
    }

-- ---- and what it leaves is sound

mounted_sound : (g : Game) → g.wall < 2 ^ 64 → Sound (mounted_machine g)
mounted_sound g h = mount_sound g.image g.area g.wall g.cart h g.mounts

game_sound : (g : Game) (file : Option (List ℕ)) → g.wall < 2 ^ 64 → Sound (begins g file)
game_sound g none h = mounted_sound g h
game_sound g (some save) h = serve_sound g.image (mounted_machine g) (mounted_sound g h) (request.loads save g.wall 0) tt

-- at any point of a game the time has 64 bits
pub game_in_time : (g : Game) (file : Option (List ℕ)) → g.wall < 2 ^ 64 → (accesses : List Access) → calls.Octets accesses
    → {xs : List Answer} {n : Machine} → calls.Calls g.image (begins g file) accesses xs n → InTime n.cart.mapper
game_in_time g file h accesses o made =
    subst (λ (x : Machine). InTime x.cart.mapper) (sym (calls_run made).1)
    (run_sound g.image (begins g file) (game_sound g file h) accesses o).timed

-- ---- calls that were made, each as the contract of its exported function says

-- An `imf_mount` that answered 0, and then `imf_read`, `imf_write` and `imf_advance`, each lent what the one before left.
pub made_agrees : (c : Call imf-mount.Learnt) (x : MountsBy c) (octets : bytes.Octets c.passed.1.0.now)
    → (accesses : List Access) → calls.Octets accesses → Unseen (game_by c x octets) none accesses
    → {got : Outs ℕ Kept} → AllMade c.passed.1.0.now (kept_by c) accesses got
    → ShippedAgrees (game_by c x octets) none accesses got
made_agrees c x octets accesses o u made =
    let g = game_by c x octets in
    subst (ShippedAgrees g none accesses)
    (sym (all_made_are made ∙ ap (λ (k : Kept). calls_of g.image k accesses) (mount_leaves c ∙ x.left)))
    (game_ships g none tt tt x.sound accesses o u)

-- ---- a save that was read at the wall time of the mounting

loaded_accepted : (r : Result (Maybe Cartridge) SaveRefusal) → loaded_number r ≡ 0 → Accepted r
loaded_accepted r e w p = omega (arith, ap loaded_number (sym p) ∙ e, save_some w)

module _ (c : Call imf-mount.Learnt) (x : MountsBy c) (octets : bytes.Octets c.passed.1.0.now) (save : List ℕ) (clock : ℕ)
    {l : Out Reply Kept} (made : MadeRequest c.passed.1.0.now (kept_by c) (request.loads save c.passed.1.1.1.0 clock) l) where
  abbrev g : Game
  g = game_by c x octets

  abbrev q : Request
  q = request.loads save g.wall clock

  -- what it leaves is where the game with that file begins,
  save_is : l ≡ out (serve_of g.image (mounted_machine g) q).answer (kept_of (begins g (some save)))
  save_is =
      request_is made ∙ ap (λ (k : Kept). request_of g.image k q) (mount_leaves c ∙ x.left) ∙ request_ships g.image (mounted_machine g) x.sound q

  save_sound : Sound (begins g (some save))
  save_sound = serve_sound g.image (mounted_machine g) x.sound q tt

  -- a file that is read, if it answered 0,
  pub made_readable : bytes.Octets save → l.answer.number ≡ 0 → Readable g (some save)
  made_readable o e =
      (o, loaded_accepted (answer_to (mounted_machine g) save g.wall) (sym (ap (λ (y : Out Reply Kept). y.answer.number) save_is) ∙ e))

  -- and with an `imf_windows` on it such a player keeps that game.
  pub made_watches : (d : Call imf-windows.Learnt) → d.passed.0.now ≡ l.left.state
      → Watches g.image (begins g (some save)) (watched l.left d.left.1.0.now)
  made_watches d e =
      windows_watch g.image (begins g (some save)) d e (ap (λ (y : Out Reply Kept). y.left) save_is) save_sound
      (load_ready save g.wall (mounted_ready c x))

  pub made_saved_agrees : bytes.Octets save → l.answer.number ≡ 0 → CutHarmless g (some save) → (accesses : List Access)
      → calls.Octets accesses → Unseen g (some save) accesses → {got : Outs ℕ Kept} → AllMade g.image l.left accesses got
      → ShippedAgrees g (some save) accesses got
  made_saved_agrees o e cut accesses os u all =
      subst (ShippedAgrees g (some save) accesses)
      (sym (all_made_are all ∙ ap (λ (y : Out Reply Kept). calls_of g.image y.left accesses) save_is))
      (game_ships g (some save) (made_readable o e) cut save_sound accesses os u)

-- ---- the same through windows

-- A player that keeps the game's beginning with its windows, and accesses through them, the state asked where they say so.
pub made_through_agrees : (g : Game) (file : Option (List ℕ)) → Readable g file → CutHarmless g file → (k : Watched)
    → Watches g.image (begins g file) k → (accesses : List Access) → calls.Octets accesses → Unseen g file accesses
    → {got : Outs ℕ Watched} → AllMadeThrough g.image k accesses got
    → ShippedAgrees g file accesses (outs got.answers got.left.kept)
made_through_agrees g file readable cut k h accesses o u made =
    let m = begins g file in
    let r = run_of g.image m accesses in
    record {
      answers = r.answers;
      left = r.left;
      is = ap (λ (y : Outs ℕ Watched). outs y.answers y.left.kept) (made_through_ships g.image m k h accesses o made);
      agrees = game_agrees g file readable cut accesses o u (run_called g.image m accesses);
    }
