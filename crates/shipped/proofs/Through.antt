-- What ships, through windows: each access that was made is the bus's access on the cartridge.
use Rattle.std.specs.Prelude.{Ok, Err, Some, None, Result, Option}
use mathlib.Core.Bool.{Bool, true, false}
use mathlib.Core.List.{List, [], ◌∷◌}
use mathlib.Core.Logic.{◌⊎◌, inl, inr}
use mathlib.Core.Path.{◌≡◌, refl, sym, ap, ◌∙◌, subst}
use Prim.Native.Nat.{ℕ, zero, suc, ◌%◌, ◌<◌, ◌≤◌}
use native.Mathlib.Omega.{arith}
use lib.Dec.{eqb, ltb}
use lib.ListN.{length, get_or, set}
use borrow.Author.Tests.{ltb-true, ltb-false}
use Rattle.facts.specs.Choice.{pick, both}
use Rattle.facts.specs.Refusals.{No, first_no}
use Rattle.facts.proofs.ChoiceLaws.{pick_has, false≢true}
use Rattle.mapper.specs.Mappers as mapper
use Rattle.cartridge.specs.declared.Cartridge.{Cartridge}
use Rattle.access.specs.Verdict.{in_ram, noes, verdict_of}
use Rattle.access.specs.declared.BusRefusal.{BusRefusal}
use Rattle.access.specs.declared.BusRefusal.TheVariants.{BadAddress}
use Rattle.access.proofs.Laws.{above_rom, below_ram, above_ram}
use Rattle.access.specs.declared.Target.{Target}
use Rattle.access.specs.declared.Target.TheVariants.{Rom, Ram}
use Rattle.bus.specs.Bus as bus
use Rattle.bus.specs.Advance as advance
use Rattle.bus.specs.Run.{Access, Machine, after_write, after_clocks, step_of, Ready}
use Rattle.bus.specs.Run as run
use Rattle.states.specs.Layout.{encode_of}
use Rattle.states.specs.OnState.{on_state}
use Rattle.windows.specs.Windows.{windows_of, ask_of, asks_of}
use Rattle.windows.specs.Through.{place_in, from_read, put_by, put_of, area_by, area_after}
use Rattle.windows.specs.declared.Windows.{Windows}
use Rattle.windows.proofs.Laws.{put_low, put_ram, put_outside}
use Rattle.windows.proofs.Same.{window_read_lem, only_15, window_write_lem, unasked_write_keeps, outside_is_refused, windows_stay_in_ram_write, windows_stay_in_advance}
use Rattle.windows.specs.declared.Miss.{Miss}
use Rattle.windows.specs.declared.Miss.TheVariants.{Ask}
use Rattle.player.specs.Bus.{read_number, read_of}
use Rattle.player.specs.Windows.{numbers_of, asked_windows, seen_number, put_number, ask, windows_after, window_read, window_write, area_through}
use Rattle.player.proofs.imf_window_read.Reads as imf-window-read
use Rattle.player.proofs.imf_window_write.Reads as imf-window-write
use Rattle.runs.specs.Calls.{Octet}
use Rattle.runs.proofs.BusLaws as laws
use Rattle.runs.proofs.RunLaws.{read_left}
use Rattle.shipped.specs.Sequence.{call_of, Kept, kept}
use Rattle.shipped.specs.Ships.{number_of, kept_of, Sound}
use Rattle.shipped.specs.Through.{Watched, watched_of, passed_of}
use Rattle.shipped.specs.Along.{Out, out}
use Rattle.shipped.specs.Made.{Call, StaysIn, Renewed, same, anew, MadeThrough, seen}
use Rattle.shipped.specs.Made as made
use Rattle.shipped.proofs.PlainLaws.{read_plain}
use Rattle.shipped.proofs.PlainWindows.{ask_plain}
use Rattle.shipped.proofs.StepLaws.{decoded, step_ships, step_sound}
use Rattle.shipped.proofs.PartLaws.{out_same, kept_same, passed_same}
use Rattle.shipped.proofs.Made.{of_one, of_two, made_is}
use Rattle.clock.specs.declared.AdvanceRefusal.{AdvanceRefusal}

-- `imf_windows` on the bytes of a sound cartridge gives its windows.
pub windows_are : (m : Machine) → Sound m → (n : List ℕ) → windows_after (encode_of m.cart) n ≡ numbers_of (windows_of m.cart)
unfolding windows_after ask_of
windows_are m h n =
    ap (on_state (λ k. asked_windows n (ask_of k)) n) (decoded m h)
    ∙ ap (λ (x : Option Windows). asked_windows n x) (ask_plain m.cart)
    ∙ ap (λ (b : Bool). asked_windows n (pick b (Some (windows_of m.cart)) None)) h.fit

-- Kept where they stay or asked for anew, they are those of what is left.
pub renewed_are : {stays : Type 0} {s w v : List ℕ} (m : Machine) → Sound m → s ≡ encode_of m.cart
    → (stays → w ≡ numbers_of (windows_of m.cart)) → Renewed stays s w v → v ≡ numbers_of (windows_of m.cart)
renewed_are m h e f (same y) = f y
renewed_are m h e f (anew d p) =
    of_one (λ s. windows_after s d.passed.1.0.now) (p ∙ e) d.known.1 ∙ windows_are m h d.passed.1.0.now

-- what is learnt of the calls through windows, of what the player keeps
read_known : (image : List ℕ) (k : Watched) (c : Call imf-window-read.Learnt) → c.passed.0.now ≡ k.windows → c.passed.1.0.now ≡ image
    → c.passed.1.1.0.now ≡ k.kept.area → c.answer ≡ window_read k.windows image k.kept.area c.passed.1.1.1.0
read_known image k c p q r =
    let addr = c.passed.1.1.1.0 in
    of_two (λ w ram. window_read w image ram addr) p r
    (of_one (λ l. window_read c.passed.0.now l c.passed.1.1.0.now addr) q c.known)

put_known : {w : List ℕ} (c : Call imf-window-write.Learnt) → c.passed.0.now ≡ w → c.answer ≡ window_write w c.passed.1.1.0
put_known c p = of_one (λ w. window_write w c.passed.1.1.0) p c.known.0

area_known : {w ram : List ℕ} (c : Call imf-window-write.Learnt) → c.passed.0.now ≡ w → c.passed.1.0.now ≡ ram
    → c.left.1.0.now ≡ area_through w ram c.passed.1.1.0 c.passed.1.1.1.0
area_known c p q = of_two (λ w ram. area_through w ram c.passed.1.1.0 c.passed.1.1.1.0) p q c.known.1

-- ---- one access

-- what the windows answer, the state answers too
unasked : (b : Bool) (n r : ℕ) → n ≡ pick b 0x200 r → eqb n 0x200 ≡ false → n ≡ r
unasked true n r e f = false≢true (sym f ∙ ap (λ (k : ℕ). eqb k 0x200) e)
unasked false n r e f = e

pub number_same : (a : Result ℕ BusRefusal) → ((w : BusRefusal) → a ≡ Err w → w ≡ BadAddress) → seen_number (from_read a) ≡ read_number a
number_same (Ok b) h = refl
number_same (Err w) h = ap (λ (x : BusRefusal). read_number (Err x)) (sym (h w refl))

pub asked_or : (b : Bool) (x : Result ℕ Miss) → seen_number (pick b (Err Ask) x) ≡ pick b 0x200 (seen_number x)
asked_or true x = refl
asked_or false x = refl

-- a write that is asked for has stored nothing
ask_stores_none : (w : Windows) (ram : List ℕ) (addr byte : ℕ) → put_by w ≡ Err Ask → area_by w ram addr byte ≡ ram
unfolding put_by area_by
ask_stores_none w ram addr byte = go w.how
  where
    go : (k : ℕ) → get_or {A = Result (Unit {0}) Miss} (Ok tt ∷ Ok tt ∷ Ok tt ∷ []) k (Err Ask) ≡ Err Ask
        → get_or (ram ∷ set ram (place_in w addr) byte ∷ set ram (place_in w addr) (byte % 16) ∷ []) k ram ≡ ram
    go zero e = refl
    go (suc zero) e = let z : ◌≡◌ {A = ℕ} 0 1 = cc in absurd (omega arith)
    go (suc (suc zero)) e = let z : ◌≡◌ {A = ℕ} 0 1 = cc in absurd (omega arith)
    go (suc (suc (suc k))) e = refl

-- what holds of every refusal and of an accepted verdict holds of the first
first_has : (P : Result Target BusRefusal → Type 0) (v : Result Target BusRefusal) → ((w : BusRefusal) → P (Err w)) → P v → (ts : List (No BusRefusal))
    → P (first_no Err ts v)
first_has P v p q [] = q
first_has P v p q (t ∷ ts) = pick_has P t.holds (p t.why) (first_has P v p q ts)

module _ (image : List ℕ) (m : Machine) (h : Sound m) (r : Ready image m) where
  abbrev cart : Cartridge
  cart = m.cart

  abbrev area : List ℕ
  area = m.area

  abbrev state : List ℕ
  state = encode_of m.cart

  abbrev w : List ℕ
  w = numbers_of (windows_of m.cart)

  -- a read
  read_is : (addr : ℕ) → read_of state image area addr ≡ read_number (bus.read_of cart image area addr)
  unfolding read_of
  read_is addr =
      ap (on_state (λ k. read_number (bus.read_of k image area addr)) 0x10D) (decoded m h) ∙ ap read_number (read_plain cart image area addr)

  sees : (addr : ℕ) → window_read w image area addr ≡ pick (both (in_ram addr) (asks_of cart)) 0x200 (read_of state image area addr)
  unfolding window_read
  sees addr =
      let asks = both (in_ram addr) (asks_of cart) in
      let answer = bus.read_of cart image area addr in
      ap seen_number (window_read_lem cart image area addr r)
      ∙ asked_or asks (from_read answer)
      ∙ ap (pick asks 0x200) (number_same answer (only_15 cart image area addr r) ∙ sym (read_is addr))

  seen_is : (addr : ℕ) {n : ℕ} → n ≡ window_read w image area addr → eqb n ask ≡ false → n ≡ read_of state image area addr
  seen_is addr {n} e f = unasked (both (in_ram addr) (asks_of cart)) n _ (e ∙ sees addr) f

  -- the windows after an access that is no accepted write below 0x8000
  read_windows : (addr : ℕ) → windows_of (step_of image m (run.reads addr)).left.cart ≡ windows_of cart
  read_windows addr = ap (λ (x : Machine). windows_of x.cart) (read_left image m addr)

  write_windows : (addr byte : ℕ) → 0x8000 ≤ addr → windows_of (step_of image m (run.writes addr byte)).left.cart ≡ windows_of cart
  unfolding bus.write_of bus.write_verdict verdict_of
  write_windows addr byte g =
      let tests = noes cart (bus.lent_area cart (length area)) addr (mapper.bad_selection cart.mapper addr byte) in
      subst (λ (b : Bool). Stays (first_no Err tests (pick b (Ok Rom) (Ok Ram)))) (sym (above_rom addr g))
      (first_has Stays (Ok Ram) (λ w. refl) (windows_stay_in_ram_write cart addr byte) tests)
    where
      Stays : Result Target BusRefusal → Type 0
      Stays v = windows_of (after_write m (bus.write_by cart addr byte v) (bus.area_after cart area addr byte)).left.cart ≡ windows_of cart

  clock_windows : (n : ℕ) → windows_of (step_of image m (run.clocks n)).left.cart ≡ windows_of cart
  clock_windows n = go (advance.advance_of cart n) refl
    where
      go : (x : Result Cartridge AdvanceRefusal) → advance.advance_of cart n ≡ x → windows_of (after_clocks m x).left.cart ≡ windows_of cart
      go (Ok d) e = ap windows_of (laws.advance_taken cart d n e).is ∙ windows_stay_in_advance cart n
      go (Err why) e = refl

  refused_windows : (addr byte : ℕ) → (number_of (run.writes addr byte) (step_of image m (run.writes addr byte)).answer ≡ 0 → ⊥)
      → windows_of (step_of image m (run.writes addr byte)).left.cart ≡ windows_of cart
  refused_windows addr byte = go (bus.write_of cart area addr byte)
    where
      after : List ℕ
      after = bus.area_after cart area addr byte

      go : (x : Result Cartridge BusRefusal) → (number_of (run.writes addr byte) (after_write m x after).answer ≡ 0 → ⊥)
          → windows_of (after_write m x after).left.cart ≡ windows_of cart
      go (Ok d) n = absurd (n refl)
      go (Err why) n = refl

  pub access_stays : (a : Access) → StaysIn a (number_of a (step_of image m a).answer) → windows_of (step_of image m a).left.cart ≡ windows_of cart
  access_stays (run.reads addr) s = read_windows addr
  access_stays (run.writes addr byte) (inl g) = write_windows addr byte g
  access_stays (run.writes addr byte) (inr n) = refused_windows addr byte n
  access_stays (run.clocks n) s = clock_windows n

  -- what the windows say of a write: that the state be asked, and nothing is stored; or what the state answers and stores
  module _ (addr byte : ℕ) where
    abbrev a : Access
    a = run.writes addr byte

    abbrev Asks : Type 0
    Asks = (window_write w addr ≡ ask) × (area_through w area addr byte ≡ area)

    abbrev Answers : Type 0
    Answers =
        (eqb (window_write w addr) ask ≡ false)
        × ((out (window_write w addr) (kept state (area_through w area addr byte)) ≡ call_of image (kept_of m) a) × (0x8000 ≤ addr))

    abbrev answered_of : run.Left → Out ℕ Kept
    answered_of x = out (number_of a x.answer) (kept_of x.left)

    answered : {x : Result Cartridge BusRefusal} → bus.write_of cart area addr byte ≡ x
        → call_of image (kept_of m) a ≡ answered_of (after_write m x (bus.area_after cart area addr byte))
    answered e = step_ships image m h a ∙ ap (λ (x : Result Cartridge BusRefusal). answered_of (after_write m x (bus.area_after cart area addr byte))) e

    puts_low : addr < 0x8000 → Asks
    unfolding window_write area_through
    puts_low g = let p = put_low (windows_of cart) area addr byte g in (ap put_number (sym p.0), sym p.1)

    puts_ram : 0xA000 ≤ addr → addr < 0xC000 → Asks ⊎ Answers
    unfolding window_write area_through
    puts_ram g l = go (asks_of cart) refl
      where
        same_put : (put_of (windows_of cart) addr ≡ pick (asks_of cart) (Err Ask) (Ok tt))
            × (area_after (windows_of cart) area addr byte ≡ bus.area_after cart area addr byte)
        same_put = window_write_lem cart area addr byte r.fit r.area g l

        go : (b : Bool) → asks_of cart ≡ b → Asks ⊎ Answers
        go true e =
            let asks = same_put.0 ∙ ap (λ (b : Bool). pick b (Err Ask) (Ok tt)) e in
            let p = put_ram (windows_of cart) area addr byte g l in
            inl (ap put_number asks, sym p.1 ∙ ask_stores_none (windows_of cart) area addr byte (p.0 ∙ asks))
        go false e =
            let done = same_put.0 ∙ ap (λ (b : Bool). pick b (Err Ask) (Ok tt)) e in
            inr (
              ap (λ (x : Result (Unit {0}) Miss). eqb (put_number x) 0x200) done,
              (
                out_same (ap put_number done) (kept_same refl same_put.1)
                    ∙ sym (answered (unasked_write_keeps cart area addr byte r.fit r.area g l e)),
                omega (arith, g),
              ),
            )

    puts_outside : 0x8000 ≤ addr → in_ram addr ≡ false → Answers
    unfolding window_write area_through
    puts_outside g i =
        let p = outside_is_refused cart area addr byte r.fit r.area g i in (
          ap (λ (x : Result (Unit {0}) Miss). eqb (put_number x) 0x200) p.0,
          (
            out_same (ap put_number p.0)
                (kept_same refl
                (sym (put_outside (windows_of cart) area addr byte g i).1 ∙ sym (laws.refused_area cart area addr byte BadAddress p.1)))
                ∙ sym (answered p.1),
            g,
          ),
        )

    puts : Asks ⊎ Answers
    puts = go (ltb addr 0x8000) (ltb addr 0xA000) (ltb addr 0xC000) refl refl refl
      where
        go : (x y z : Bool) → ltb addr 0x8000 ≡ x → ltb addr 0xA000 ≡ y → ltb addr 0xC000 ≡ z → Asks ⊎ Answers
        go true y z p q s = inl (puts_low (ltb-true addr 0x8000 p))
        go false true z p q s = inr (puts_outside (ltb-false addr 0x8000 p) (below_ram addr (ltb-true addr 0xA000 q)))
        go false false true p q s = puts_ram (ltb-false addr 0xA000 q) (ltb-true addr 0xC000 s)
        go false false false p q s = inr (puts_outside (ltb-false addr 0x8000 p) (above_ram addr (ltb-false addr 0xC000 s)))

  -- ---- an access that was made, through the windows or not

  abbrev stepped : Access → Out ℕ Watched
  stepped a = out (number_of a (step_of image m a).answer) (watched_of (step_of image m a).left)

  direct_ships : (a : Access) → Octet a → {x : Out ℕ Kept} {v : List ℕ} → x ≡ call_of image (kept_of m) a
      → Renewed (StaysIn a x.answer) x.left.state w v → passed_of x v ≡ stepped a
  direct_ships a o {x} p n =
      let e = p ∙ step_ships image m h a in
      passed_same e
      (renewed_are (step_of image m a).left (step_sound image m h a o) (ap (λ (y : Out ℕ Kept). y.left.state) e)
      (λ s. ap numbers_of (sym (access_stays a (subst (λ (y : Out ℕ Kept). StaysIn a y.answer) e s)))) n)

  pub through_step : {a : Access} → Octet a → {x : Out ℕ Watched} → MadeThrough image (watched_of m) a x → x ≡ stepped a
  through_step o (seen c p q s f) =
      let addr = c.passed.1.1.1.0 in
      direct_ships (run.reads addr) o (ap (λ (n : ℕ). out n (kept_of m)) (seen_is addr (read_known image (watched_of m) c p q s) f)) (same tt)
  through_step o (made.asked c p q s made) = direct_ships (run.reads c.passed.1.1.1.0) o (made_is made) (same tt)
  through_step o (made.put c f p q) = go (puts addr byte)
    where
      addr : ℕ
      addr = c.passed.1.1.0

      byte : ℕ
      byte = c.passed.1.1.1.0

      go : Asks addr byte ⊎ Answers addr byte
          → passed_of (out c.answer (kept state c.left.1.0.now)) w ≡ stepped (run.writes addr byte)
      go (inl x) = false≢true (sym f ∙ ap (λ (n : ℕ). eqb n ask) (put_known c p ∙ x.0))
      go (inr x) =
          direct_ships (run.writes addr byte) o (out_same (put_known c p) (kept_same refl (area_known c p q)) ∙ x.1.0)
          (same (inl x.1.1))
  through_step o (made.written c p q f {x = y} made {w = v} n) = go (puts addr byte)
    where
      addr : ℕ
      addr = c.passed.1.1.0

      byte : ℕ
      byte = c.passed.1.1.1.0

      go : Asks addr byte ⊎ Answers addr byte → passed_of y v ≡ stepped (run.writes addr byte)
      go (inl x) =
          direct_ships (run.writes addr byte) o
          (made_is made ∙ ap (λ (l : List ℕ). call_of image (kept state l) (run.writes addr byte)) (area_known c p q ∙ x.1)) n
      go (inr x) = false≢true (sym (ap (λ (n : ℕ). eqb n ask) (put_known c p) ∙ x.0) ∙ f)
  through_step {a} o (made.direct made n) = direct_ships a o (made_is made) n
