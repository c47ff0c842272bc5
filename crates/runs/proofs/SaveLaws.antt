-- Accepted loads, taken apart; what they leave fit; and what comes back.
use Rattle.std.specs.Prelude.{Ok, Err, Some, None, Result, Option}
use mathlib.Core.Bool.{Bool, true, false, not}
use mathlib.Core.List.{List, ◌++◌, append_assoc, append-nil}
use mathlib.Core.Path.{◌≡◌, refl, sym, ap, ◌∙◌, subst}
use Prim.Native.Nat.{ℕ, ◌+◌, ◌^◌, ◌<◌, ◌≤◌}
use native.Mathlib.Omega.{arith}
use lib.Dec.{eqb, ltb}
use lib.ListN.{length, get_or, take, drop, length-append, length-drop, take-append-drop}
use lib.Seq.{take_at, drop_at, take-add, length-take-le}
use borrow.Author.Tests.{eq-eqb, eqb-true, le-ltb, le-leb, leb-true, ltb-false}
use Rattle.facts.specs.Choice.{pick}
use Rattle.facts.specs.Refusals.{no, first_no, any_no}
use Rattle.facts.proofs.ChoiceLaws.{false≢true, both_true, both_left, both_right, not_false}
use Rattle.facts.proofs.RefusalLaws.{none_if, none_at, none_accepts}
use Rattle.bytes_le.specs.Little.{Octets}
use Rattle.bytes_le.proofs.OctetLaws.{octets_drop}
use Rattle.clock_registers.specs.Fit.{fit_registers}
use Rattle.clock_registers.specs.declared.Registers.{Registers}
use Rattle.clock_registers.proofs.FitLaws.{fit_bounds}
use Rattle.clock.specs.Fit.{fit_clock}
use Rattle.clock.specs.declared.Clock.{Clock}
use Rattle.clock.proofs.FitLaws.{fit_parts}
use Rattle.clock_block.specs.Layout.{block_bytes, block_in}
use Rattle.clock_block.specs.Waking.{block_of, taken_of, time_of, woken_of, beyond, late, block_noes}
use Rattle.clock_block.specs.declared.Block.{Block}
use Rattle.clock_block.proofs.Laws.{length_block}
use Rattle.clock_block.proofs.BackLaws.{Narrow, block_back, bytes_back, woken_fit, woken_same, kept_time, again_time, again_same}
use Rattle.mapper.specs.declared.Mapper.{Mapper}
use Rattle.battery.specs.Battery.{clock_in, has_clock, has_block, with_clock, battery_bytes}
use Rattle.cartridge.specs.Fit.{fit_cart, area_of}
use Rattle.cartridge.specs.With.{with_mapper}
use Rattle.cartridge.specs.declared.Cartridge.{Cartridge}
use Rattle.cartridge.proofs.Laws.{fit_registers_lem}
use Rattle.save_file.specs.Admit.{admit_noes}
use Rattle.save_file.specs.Save.{bytes_of, save_noes, save_of}
use Rattle.save_file.specs.Load.{accepted_of, load_noes, load_of, area_after, area_by}
use Rattle.save_file.specs.declared.SaveRefusal.TheVariants.{Unfit}
use Rattle.save_file.proofs.Laws.{only_held}
use Rattle.save_file.specs.declared.SaveRefusal.{SaveRefusal}
use Rattle.bus.specs.Run.{Machine, Ready}
use Rattle.runs.specs.Time.{SameTime}
use Rattle.runs.specs.Saves.{Kept, Back}
use Rattle.runs.specs.Game.{Accepted, cart_by, answer_to, loaded_machine}
use Rattle.runs.proofs.MapperLaws as kept
use Rattle.runs.proofs.BusLaws.{fit_with}

-- ---- a load that is not refused

-- as a test
abbrev accepts : Result (Option Cartridge) SaveRefusal → Bool
accepts (Ok (Some c)) = true
accepts (Ok None) = true
accepts (Err w) = false

accepts_if : (x : Result (Option Cartridge) SaveRefusal) → Accepted x → accepts x ≡ true
accepts_if (Ok (Some c)) h = refl
accepts_if (Ok None) h = refl
accepts_if (Err w) h = absurd (h w refl)

accepts_only : {x : Result (Option Cartridge) SaveRefusal} → accepts x ≡ true → Accepted x
accepts_only e w p = false≢true (sym (ap accepts p) ∙ e)

-- what it relied on, and what it answers
pub record TakenLoad (c : Cartridge) (area : ℕ) (save : List ℕ) (wall : ℕ) : Type 0 where
  pub fit : fit_cart c ≡ true
  pub lent : area ≡ area_of c
  pub battery : c.battery ≡ true
  pub long : area ≤ length save
  pub registers : has_block c.mapper (drop area save) ≡ true → fit_registers (taken_of (block_in (drop area save))) ≡ true
  pub early : has_block c.mapper (drop area save) ≡ true → late (block_in (drop area save)) wall ≡ false
  pub is : load_of c area save wall ≡ accepted_of c (drop area save) wall

-- and of a whole one, what came of the cartridge
pub record TakenWhole (c d : Cartridge) (area : ℕ) (save : List ℕ) (wall : ℕ) : Type 0 where
  pub load : TakenLoad c area save wall
  pub block : has_block c.mapper (drop area save) ≡ true
  pub is : d ≡ with_mapper c (with_clock c.mapper (woken_of (block_in (drop area save)) wall))

module _ (c : Cartridge) (area : ℕ) (save : List ℕ) (wall : ℕ) where
  abbrev read : Block
  read = block_in (drop area save)

  pub load_taken : Accepted (load_of c area save wall) → TakenLoad c area save wall
  unfolding load_of load_noes admit_noes block_noes
  load_taken h =
      let tests = load_noes c area save wall in
      let a = accepted_of c (drop area save) wall in
      let none = none_if accepts Err (λ w. refl) tests a (accepts_if (load_of c area save wall) h) in
      let clear : (i : ℕ) → (get_or tests i (no false Unfit)).holds ≡ false = λ i. none_at tests i (no false Unfit) refl none in
      record {
        fit = not_false (fit_cart c) (clear 0);
        lent = eqb-true _ _ (not_false (eqb area (area_of c)) (clear 1));
        battery = not_false c.battery (clear 2);
        long = ltb-false (length save) area (clear 3);
        registers = λ t. not_false (fit_registers (taken_of read)) (only_held t (clear 4));
        early = λ t. only_held t (clear 5);
        is = none_accepts Err a tests none;
      }

  -- the answer of an accepted load, by whether there is a block
  abbrev answer_by : Bool → Result (Option Cartridge) SaveRefusal
  answer_by t = pick t (Ok (Some (with_mapper c (with_clock c.mapper (woken_of read wall))))) (Ok None)

  pub answer_by_lem : {t : Bool} → has_block c.mapper (drop area save) ≡ t → accepted_of c (drop area save) wall ≡ answer_by t
  unfolding accepted_of
  answer_by_lem e = ap answer_by e

  pub whole_taken : (d : Cartridge) → load_of c area save wall ≡ Ok (Some d) → TakenWhole c d area save wall
  whole_taken d e = go (has_block c.mapper (drop area save)) refl
    where
      load : TakenLoad c area save wall
      load = load_taken (accepts_only (ap accepts e))

      go : (t : Bool) → has_block c.mapper (drop area save) ≡ t → TakenWhole c d area save wall
      go true h = let q = sym (load.is ∙ answer_by_lem h) ∙ e in record { load = load; block = h; is = cc }
      go false h = let q = sym (load.is ∙ answer_by_lem h) ∙ e in let z : ◌≡◌ {A = ℕ} 0 1 = cc in absurd (omega arith)

  -- and put together
  load_accepts : fit_cart c ≡ true → eqb area (area_of c) ≡ true → c.battery ≡ true → ltb (length save) area ≡ false
      → has_block c.mapper (drop area save) ≡ true → beyond read ≡ false → late read wall ≡ false
      → load_of c area save wall ≡ answer_by true
  unfolding load_of load_noes admit_noes block_noes
  load_accepts fit lent battery long h in' early =
      let none : any_no (load_noes c area save wall) ≡ false = rw (fit, lent, battery, long, h, in', early) refl in
      none_accepts Err (accepted_of c (drop area save) wall) (load_noes c area save wall) none ∙ answer_by_lem h

-- ---- it leaves a fit cartridge, and the area its length

pub load_fit : (c d : Cartridge) (area : ℕ) (save : List ℕ) (wall : ℕ) → load_of c area save wall ≡ Ok (Some d) → fit_cart d ≡ true
load_fit c d area save wall e =
    let t = whole_taken c area save wall d e in
    let woken = woken_of (block_in (drop area save)) wall in
    ap fit_cart t.is
    ∙ fit_with c (with_clock c.mapper woken) t.load.fit (kept.with_clock_same c.mapper woken)
    (kept.with_clock_fit c.mapper woken (woken_fit (block_in (drop area save)) wall (t.load.registers t.block)))

pub load_area_stays : (c d : Cartridge) (area : ℕ) (save : List ℕ) (wall : ℕ) → load_of c area save wall ≡ Ok (Some d)
    → area_of d ≡ area_of c
load_area_stays c d area save wall e =
    let t = whole_taken c area save wall d e in
    ap area_of t.is ∙ (kept.with_clock_same c.mapper (woken_of (block_in (drop area save)) wall)).area c.size

-- ---- the way back

-- the fields of a fit clock's block fit their widths
narrow : (k : Clock) (wall : ℕ) → fit_clock k ≡ true → k.time < 2 ^ 64 → Narrow (block_of k wall)
unfolding block_of
narrow k wall f l =
    let r = fit_bounds k.running (fit_parts k f).running in
    record {
      second = omega (arith, r.second);
      minute = omega (arith, r.minute);
      hour = omega (arith, r.hour);
      day = omega (arith, r.day);
      time = l;
      offset = omega arith;
    }

taken_registers : (k : Clock) (wall : ℕ) → fit_clock k ≡ true → fit_registers (taken_of (block_of k wall)) ≡ true
unfolding taken_of block_of fit_registers
taken_registers k wall f = (fit_parts k f).running

taken_shows : (k : Clock) (wall : ℕ) → SameTime (taken_of (block_of k wall)) k.running
unfolding taken_of block_of
taken_shows k wall = record { second = refl; minute = refl; hour = refl; day = refl }

-- what stands behind the RAM in a save, whatever follows
behind_save : (m : Mapper) (k : Clock) (ram rest : List ℕ) (wall : ℕ) → clock_in m ≡ Some k
    → drop (length ram) (bytes_of m ram wall ++ rest) ≡ block_bytes (block_of k wall) ++ rest
unfolding bytes_of
behind_save m k ram rest wall e =
    ap (drop (length ram)) (append_assoc ram (battery_bytes (clock_in m) wall) rest)
    ∙ drop_at ram (battery_bytes (clock_in m) wall ++ rest) (length ram) refl
    ∙ ap (λ (t : Option Clock). battery_bytes t wall ++ rest) e

stored : (k : Clock) (wall : ℕ) → wall ≤ k.time → time_of (block_of k wall) wall ≤ (block_of k wall).time
unfolding block_of
stored k wall h = omega arith

pub way_back : (c d : Cartridge) (k j : Clock) (ram rest : List ℕ) (wall : ℕ) → Kept c k (length ram) → Kept d j (length ram)
    → wall ≤ k.time → k.time < 2 ^ 64 → Back k (load_of d (length ram) (bytes_of c.mapper ram wall ++ rest) wall)
way_back c d k j ram rest wall from to h l =
    let save = bytes_of c.mapper ram wall ++ rest in
    let b = block_of k wall in
    let f = kept.clock_fits c.mapper k from.timed.clock (fit_registers_lem c from.timed.fit) in
    let bytes = behind_save c.mapper k ram rest wall from.timed.clock in
    let is : block_in (drop (length ram) save) ≡ b = ap block_in bytes ∙ block_back b rest (narrow k wall f l) in
    let long : length (drop (length ram) save) ≡ 21 + length rest =
    ap length bytes ∙ length-append (block_bytes b) rest ∙ ap (λ (n : ℕ). n + length rest) (length_block b) in
    let has : has_clock (clock_in d.mapper) ≡ true = ap has_clock to.timed.clock in
    let time = kept_time k wall h in
    let woken = woken_of (block_in (drop (length ram) save)) wall in
    let r : woken.running ≡ taken_of b = ap (λ (x : Block). (woken_of x wall).running) is ∙ woken_same b wall (stored k wall h) in
    record {
      cart = with_mapper d (with_clock d.mapper woken);
      whole = load_accepts d (length ram) save wall to.timed.fit (eq-eqb _ _ to.lent) to.battery
          (le-ltb (length save) (length ram) (omega (arith, length-drop (length ram) save, long)))
          (both_true has (le-leb 21 (length (drop (length ram) save)) (omega (arith, long))))
          (ap (λ (x : Block). beyond x) is ∙ ap not (taken_registers k wall f))
          (ap (λ (x : Block). late x wall) is ∙ le-ltb 18446744073709551615 (time_of b wall) (omega (arith, time)));
      clock = woken;
      has = kept.clock_with_lem d.mapper woken has;
      shows = record {
        second = ap (λ (x : Registers). x.second) r ∙ (taken_shows k wall).second;
        minute = ap (λ (x : Registers). x.minute) r ∙ (taken_shows k wall).minute;
        hour = ap (λ (x : Registers). x.hour) r ∙ (taken_shows k wall).hour;
        day = ap (λ (x : Registers). x.day) r ∙ (taken_shows k wall).day;
      };
    }

woken_early : (b : Block) (wall : ℕ) → time_of b wall ≤ 18446744073709551615 → (woken_of b wall).time < 2 ^ 64
unfolding woken_of
woken_early b wall h = omega arith

-- ---- the RAM area

pub load_area : (c : Cartridge) (ram save : List ℕ) (wall : ℕ) → Accepted (load_of c (length ram) save wall)
    → area_after c ram save wall ≡ take (length ram) save
unfolding area_after
load_area c ram save wall h = go (load_of c (length ram) save wall) h
  where
    go : (x : Result (Option Cartridge) SaveRefusal) → Accepted x → area_by ram save x ≡ take (length ram) save
    go (Ok (Some d)) a = refl
    go (Ok None) a = refl
    go (Err w) a = absurd (a w refl)

pub ram_back : (m : Mapper) (d : Cartridge) (ram area rest : List ℕ) (wall later : ℕ) → length area ≡ length ram
    → Accepted (load_of d (length area) (bytes_of m ram wall ++ rest) later) → area_after d area (bytes_of m ram wall ++ rest) later ≡ ram
unfolding bytes_of
ram_back m d ram area rest wall later n h =
    load_area d area (bytes_of m ram wall ++ rest) later h
    ∙ ap (take (length area)) (append_assoc ram (battery_bytes (clock_in m) wall) rest)
    ∙ take_at ram (battery_bytes (clock_in m) wall ++ rest) (length area) (sym n)

-- ---- read and written again

module _ (c d : Cartridge) (ram save : List ℕ) (wall : ℕ) (e : load_of c (length ram) save wall ≡ Ok (Some d)) where
  abbrev stands : List ℕ
  stands = drop (length ram) save

  taken : TakenWhole c d (length ram) save wall
  taken = whole_taken c (length ram) save wall d e

  block_long : 21 ≤ length stands
  block_long = leb-true 21 (length stands) (both_right (has_clock (clock_in c.mapper)) _ taken.block)

  -- what is then written
  written : bytes_of d.mapper (area_after c ram save wall) wall
      ≡ take (length ram) save ++ block_bytes (block_of (woken_of (block_in stands) wall) wall)
  unfolding bytes_of
  written =
      let has = both_left (has_clock (clock_in c.mapper)) _ taken.block in
      let clock = ap (λ (x : Cartridge). clock_in x.mapper) taken.is ∙ kept.clock_with_lem c.mapper (woken_of (block_in stands) wall) has in
      ap (λ (x : List ℕ). x ++ battery_bytes (clock_in d.mapper) wall) (load_area c ram save wall (accepts_only (ap accepts e)))
      ∙ ap (λ (t : Option Clock). take (length ram) save ++ battery_bytes t wall) clock

  pub again_if : Octets save → (block_in stands).time ≡ time_of (block_in stands) wall
      → bytes_of d.mapper (area_after c ram save wall) wall ≡ take (length ram + 21) save
  again_if o t =
      written
      ∙ ap (λ (b : Block). take (length ram) save ++ block_bytes b) (again_same (block_in stands) wall t)
      ∙ ap (λ (x : List ℕ). take (length ram) save ++ x) (bytes_back stands (octets_drop (length ram) save o) block_long)
      ∙ sym (take-add (length ram) 21 save)

  pub again_only : bytes_of d.mapper (area_after c ram save wall) wall ≡ take (length ram + 21) save
      → (block_in stands).time ≡ time_of (block_in stands) wall
  again_only same =
      let b = block_of (woken_of (block_in stands) wall) wall in
      let n : length (take (length ram) save) ≡ length ram =
      length-take-le (length ram) save taken.load.long in
      let early = ltb-false 18446744073709551615 (time_of (block_in stands) wall) (taken.load.early taken.block) in
      let fits = woken_fit (block_in stands) wall (taken.load.registers taken.block) in
      let bytes : block_bytes b ≡ take 21 stands =
      sym (drop_at (take (length ram) save) (block_bytes b) (length ram) n)
      ∙ ap (drop (length ram)) (sym written ∙ same ∙ take-add (length ram) 21 save)
      ∙ drop_at (take (length ram) save) (take 21 stands) (length ram) n in
      let is : block_in stands ≡ b =
      ap block_in (sym (take-append-drop 21 stands) ∙ ap (λ (x : List ℕ). x ++ drop 21 stands) (sym bytes))
      ∙ block_back b (drop 21 stands) (narrow (woken_of (block_in stands) wall) wall fits (woken_early (block_in stands) wall early)) in
      ap (λ (x : Block). x.time) is ∙ again_time (block_in stands) wall

-- without a timer only the RAM is kept
pub again_ram : (c : Cartridge) (ram save : List ℕ) (wall later : ℕ) → has_clock (clock_in c.mapper) ≡ false
    → Accepted (load_of c (length ram) save wall) → bytes_of c.mapper (area_after c ram save wall) later ≡ take (length ram) save
unfolding bytes_of
again_ram c ram save wall later h acc =
    ap (λ (x : List ℕ). x ++ battery_bytes (clock_in c.mapper) later) (load_area c ram save wall acc)
    ∙ none (clock_in c.mapper) h
  where
    none : (t : Option Clock) → has_clock t ≡ false → take (length ram) save ++ battery_bytes t later ≡ take (length ram) save
    none (Some k) p = false≢true (sym p)
    none None p = append-nil (take (length ram) save)

-- ---- the bus goes on, whatever the answer is

pub load_ready : {rom : List ℕ} {m : Machine} (save : List ℕ) (wall : ℕ) → Ready rom m → Ready rom (loaded_machine m save wall)
unfolding area_after
load_ready {rom} {m} save wall r = go (answer_to m save wall) refl
  where
    c : Cartridge
    c = m.cart

    n : ℕ
    n = length m.area

    go : (x : Result (Option Cartridge) SaveRefusal) → answer_to m save wall ≡ x → Ready rom (record { cart = cart_by c x; area = area_by m.area save x })
    go (Ok (Some d)) e =
        let t = whole_taken c n save wall d e in
        record {
          fit = load_fit c d n save wall e;
          image = r.image ∙ sym (ap (λ (x : Cartridge). x.length) t.is);
          area = length-take-le n save t.load.long ∙ r.area ∙ sym (load_area_stays c d n save wall e);
        }
    go (Ok None) e =
        let t = load_taken c n save wall (accepts_only (ap accepts e)) in
        record { fit = r.fit; image = r.image; area = length-take-le n save t.long ∙ r.area }
    go (Err w) e = r

pub whole_ready : (rom : List ℕ) (m : Machine) (d : Cartridge) (save : List ℕ) (wall : ℕ) → Ready rom m
    → load_of m.cart (length m.area) save wall ≡ Ok (Some d)
    → Ready rom (record { cart = d; area = area_after m.cart m.area save wall })
whole_ready rom m d save wall r e =
    subst (λ (x : Result (Option Cartridge) SaveRefusal). Ready rom (record { cart = cart_by m.cart x; area = area_after m.cart m.area save wall })) e
    (load_ready save wall r)

-- ---- a fit cartridge lent its own area is not refused with 13 or 14

pub fit_saves : (c : Cartridge) (ram : List ℕ) (room wall : ℕ) → fit_cart c ≡ true → length ram ≡ area_of c
    → save_of c ram room wall
    ≡ first_no Err (drop 2 (save_noes c ram room wall)) (Ok (length (bytes_of c.mapper ram wall)))
unfolding save_of save_noes admit_noes
fit_saves c ram room wall f l = let e = eq-eqb _ _ l in rw (f, e) refl

pub fit_loads : (c : Cartridge) (area : ℕ) (save : List ℕ) (wall : ℕ) → fit_cart c ≡ true → area ≡ area_of c
    → load_of c area save wall ≡ first_no Err (drop 2 (load_noes c area save wall)) (accepted_of c (drop area save) wall)
unfolding load_of load_noes admit_noes
fit_loads c area save wall f l = let e = eq-eqb _ _ l in rw (f, e) refl
