-- What a player gets that keeps a cartridge as bytes. The theorems speak of `state_mounted`, `write_of`, `state_written` and the like: the
-- contracts of `imf_mount`, `imf_write` and so on say that their answers, and every lent byte, equal these on all inputs.
use Rattle.std.specs.Prelude.{Ok, Err, Some, None, Result, Option}
use borrow.Author.Tests.{ltb-true, leb-true}
use lib.Dec.{ltb, leb}
use mathlib.Core.Bool.{Bool, true, false}
use mathlib.Core.List.{List, [], ◌∷◌}
use mathlib.Core.Logic.{◌⊎◌, inl, inr}
use mathlib.Core.Path.{◌≡◌, refl, sym, ap, ◌∙◌, subst}
use Prim.Native.Nat.{ℕ, suc, ◌<◌, ◌≤◌, ◌^◌, zero, ◌%◌}
use native.Mathlib.Omega.{arith}
use lib.ListN.{length, get_or, set}
use Rattle.facts.proofs.ChoiceLaws.{pick_has, both_left}
use Rattle.facts.specs.Choice.{pick, both}
use Rattle.header.specs.Check.{check_of}
use Rattle.header.specs.declared.Facts.{Facts}
use Rattle.header.specs.declared.HeaderRefusal.{HeaderRefusal}
use Rattle.mapper.specs.declared.Mapper.{Mapper}
use Rattle.mapper.specs.Mappers as mapper
use Rattle.window.specs.Window as window
use Rattle.cartridge.specs.Fit.{fit_cart, area_of, InTime}
use Rattle.cartridge.specs.With.{with_mapper}
use Rattle.cartridge.specs.declared.Cartridge.{Cartridge}
use Rattle.save_file.specs.Save as save
use Rattle.save_file.specs.Load as load
use Rattle.save_file.specs.declared.SaveRefusal.{SaveRefusal}
use Rattle.mount.specs.Mount as mount
use Rattle.mount.specs.declared.MountRefusal.{MountRefusal}
use Rattle.access.specs.Verdict.{in_ram}
use Rattle.access.specs.declared.BusRefusal.{BusRefusal}
use Rattle.bus.specs.Bus as bus
use Rattle.bus.specs.Advance as advance
use Rattle.bus.specs.Run.{Ready}
use Rattle.states.specs.Layout.{encode_of}
use Rattle.states.specs.Reading.{decode_of}
use Rattle.states.specs.Plain.{plain}
use Rattle.states.proofs.Back.{decode_encode, encode_plain, fit_plain, fit_widths}
use Rattle.states.specs.OnState.{on_state}
use Rattle.flat_write.specs.Calls.{write_state, state_written, area_written, timed, advance_state, state_advanced}
use Rattle.flat_write.proofs.Laws.{timed_on, untimed_taken}
use Rattle.windows.specs.Windows.{windows_of, ask_of, asks_of}
use Rattle.windows.specs.Through.{place_in, seen_of, from_read, put_by, put_of, area_by, area_after}
use Rattle.windows.specs.declared.Windows.{Windows}
use Rattle.windows.proofs.Same.{window_read_lem, only_15, window_write_lem, unasked_write_keeps, windows_stay_in_ram_write, windows_stay_in_advance}
use Rattle.windows.specs.declared.Miss.TheVariants.{BadAddress, Ask}
use Rattle.player.specs.Bus.{mount_number, mount_state, mount_of, state_mounted, read_number, read_of, write_number, write_of, advance_number, advance_of}
use Rattle.player.specs.Header.{header_by, header_of, facts_by, facts_after}
use Rattle.player.specs.Save.{size_number, size_told, size_of, size_asked, save_of, room_saved, size_saved, loaded_number, loaded_state, loaded_clock, load_of, state_loaded, area_loaded, clock_loaded}
use Rattle.player.specs.Windows.{windows_in, seen_number, put_number, asked_number, asked_windows, windows_number, windows_after, window_read, window_write, area_through}
use Rattle.runs.proofs.BusLaws as laws
use Rattle.runs.proofs.SaveLaws as saves
use Rattle.shipped.proofs.InTimeLaws as timing
use Rattle.shipped.proofs.Shipped.{mount_sound}
use Rattle.shipped.proofs.Through.{number_same, asked_or}
use Rattle.promises.specs.Boundary.{Wrote, Comes}
use Rattle.clock.specs.declared.AdvanceRefusal.{AdvanceRefusal}

-- 1. Player 4: "the same cartridge is always the same 64 bytes as the library writes it": what it wrote is read as a fit cartridge, of
-- which it would write the same bytes;
pub wrote_comes : (t : List ℕ) → Wrote t → Comes t
unfolding plain
wrote_comes t w =
    let c = w.cart in
    record {
      cart = plain c;
      decoded = ap decode_of w.is ∙ decode_encode c (fit_widths c w.fit w.timed);
      fit = fit_plain c ∙ w.fit;
      timed = timing.plain_in_time c.mapper w.timed;
      again = encode_plain c ∙ sym w.is;
    }

-- a mounting writes such bytes,
pub mount_wrote : (s image ram : List ℕ) (wall : ℕ) (c : Cartridge) → wall < 2 ^ 64 → mount.mount_of image ram wall ≡ Ok c
    → Wrote (state_mounted s image ram wall)
unfolding state_mounted
mount_wrote s image ram wall c h e =
    let sound = mount_sound image ram wall c h e in
    record { cart = c; is = ap (mount_state s) e; fit = sound.fit; timed = sound.timed }

-- and each later call such bytes from such bytes, whatever is written, however many clocks pass, whatever save is read.
made : (d : Cartridge) → fit_cart d ≡ true → InTime d.mapper → Wrote (encode_of d)
made d f t = record { cart = d; is = refl; fit = f; timed = t }

with_in_time : (c d : Cartridge) (m : Mapper) → d ≡ with_mapper c m → InTime m → InTime d.mapper
with_in_time c d m e h = subst (λ (x : Cartridge). InTime x.mapper) (sym e) h

pub write_wrote : (s ram : List ℕ) (addr byte : ℕ) → byte < 256 → Wrote s → Wrote (state_written s ram addr byte)
unfolding state_written
write_wrote s ram addr byte small w =
    subst Wrote (sym (ap (on_state (λ c. write_state s (bus.write_of c ram addr byte)) s) k.decoded))
    (go (bus.write_of k.cart ram addr byte) refl)
  where
    k : Comes s
    k = wrote_comes s w

    timed : (m : Mapper)
        → (m ≡ mapper.written k.cart.mapper addr byte) ⊎ (m ≡ window.mapper_after k.cart.mapper k.cart.size addr byte)
        → InTime m
    timed m (inl e) = subst InTime (sym e) (timing.written_in_time k.cart.mapper addr byte k.timed)
    timed m (inr e) = subst InTime (sym e) (timing.after_in_time k.cart.mapper k.cart.size addr byte k.timed)

    go : (a : Result Cartridge BusRefusal) → bus.write_of k.cart ram addr byte ≡ a → Wrote (write_state s a)
    go (Ok d) e =
        let t = laws.write_taken k.cart d ram addr byte e in
        made d (laws.write_fit k.cart d ram addr byte small e) (with_in_time k.cart d t.next t.is (timed t.next t.way))
    go (Err r) e = w

pub advance_wrote : (s : List ℕ) (n : ℕ) → Wrote s → Wrote (state_advanced s n)
unfolding state_advanced
advance_wrote s n w =
    subst Wrote (sym (ap (on_state (λ c. advance_state s (advance.advance_of c n)) s) k.decoded))
    (go (advance.advance_of k.cart n) refl)
  where
    k : Comes s
    k = wrote_comes s w

    go : (a : Result Cartridge AdvanceRefusal) → advance.advance_of k.cart n ≡ a → Wrote (advance_state s a)
    go (Ok d) e =
        let t = laws.advance_taken k.cart d n e in
        pick_has Wrote (timed d.mapper)
        (made d (laws.advance_fit k.cart d n e)
        (with_in_time k.cart d (mapper.clocks_on k.cart.mapper n) t.is
        (timing.clocks_in_time k.cart.mapper n t.early k.timed)))
        w
    go (Err r) e = w

pub load_wrote : (s : List ℕ) (area : ℕ) (bytes : List ℕ) (wall : ℕ) → Wrote s → Wrote (state_loaded s area bytes wall)
unfolding state_loaded
load_wrote s area bytes wall w =
    subst Wrote (sym (ap (on_state (λ c. loaded_state s (load.load_of c area bytes wall)) s) k.decoded))
    (go (load.load_of k.cart area bytes wall) refl)
  where
    k : Comes s
    k = wrote_comes s w

    go : (a : Result (Option Cartridge) SaveRefusal) → load.load_of k.cart area bytes wall ≡ a → Wrote (loaded_state s a)
    go (Ok (Some d)) e =
        let t = saves.whole_taken k.cart area bytes wall d e in
        made d (saves.load_fit k.cart d area bytes wall e)
        (subst (λ (x : Cartridge). InTime x.mapper) (sym t.is)
        (timing.woken_in_time k.cart.mapper _ wall (t.load.early t.block)))
    go (Ok None) e = w
    go (Err r) e = w

-- 2. Demand 1: "a refused call changes neither the cartridge nor any lent byte": where `imf_write` answers a number, state and area stay.
pub refused_write_keeps : (s ram : List ℕ) (addr byte k : ℕ) → write_of s ram addr byte ≡ suc k
    → (state_written s ram addr byte ≡ s) × (area_written s ram addr byte ≡ ram)
unfolding write_of state_written area_written
refused_write_keeps s ram addr byte k e = go (decode_of s) e
  where
    kept : (c : Cartridge) (a : Result Cartridge BusRefusal) → bus.write_of c ram addr byte ≡ a → write_number a ≡ suc k
        → (write_state s a ≡ s) × (bus.area_after c ram addr byte ≡ ram)
    kept c (Ok d) p q = absurd (omega (arith, q))
    kept c (Err w) p q = (refl, laws.refused_area c ram addr byte w p)

    go : (d : Option Cartridge) → on_state (λ c. write_number (bus.write_of c ram addr byte)) 13 d ≡ suc k
        → (on_state (λ c. write_state s (bus.write_of c ram addr byte)) s d ≡ s)
        × (on_state (λ c. bus.area_after c ram addr byte) ram d ≡ ram)
    go (Some c) q = kept c (bus.write_of c ram addr byte) refl q
    go None q = (refl, refl)

-- So do all the others.
pub refused_advance_keeps : (s : List ℕ) (n k : ℕ) → advance_of s n ≡ suc k → state_advanced s n ≡ s
unfolding advance_of state_advanced
refused_advance_keeps s n k e = go (decode_of s) e
  where
    kept : (a : Result Cartridge AdvanceRefusal) → advance_number a ≡ suc k → advance_state s a ≡ s
    kept (Ok d) q = absurd (omega (arith, q))
    kept (Err w) q = refl

    go : (d : Option Cartridge) → on_state (λ c. advance_number (advance.advance_of c n)) 13 d ≡ suc k
        → on_state (λ c. advance_state s (advance.advance_of c n)) s d ≡ s
    go (Some c) q = kept (advance.advance_of c n) q
    go None q = refl

-- Clock 5: "without a timer it is taken and changes nothing": of any bytes that are such a state not a byte changes, also where the library
-- would have written them otherwise; and it is accepted where they are fit.
pub untimed_advance_keeps : (s : List ℕ) (n : ℕ) (c : Cartridge) → decode_of s ≡ Some c → timed c.mapper ≡ false → state_advanced s n ≡ s
unfolding state_advanced
untimed_advance_keeps s n c e h =
    ap (on_state (λ c. advance_state s (advance.advance_of c n)) s) e ∙ go (advance.advance_of c n) refl
  where
    go : (a : Result Cartridge AdvanceRefusal) → advance.advance_of c n ≡ a → advance_state s a ≡ s
    go (Ok d) p =
        ap (λ (b : Bool). pick b (encode_of d) s)
        (ap (λ (x : Cartridge). timed x.mapper) (laws.advance_taken c d n p).is ∙ timed_on c.mapper n ∙ h)
    go (Err w) p = refl

pub untimed_advance_taken : (s : List ℕ) (n : ℕ) (c : Cartridge) → decode_of s ≡ Some c → timed c.mapper ≡ false → fit_cart c ≡ true
    → advance_of s n ≡ 0
unfolding advance_of
untimed_advance_taken s n c e h f =
    ap (on_state (λ c. advance_number (advance.advance_of c n)) 13) e ∙ ap advance_number (untimed_taken c n f h)

pub refused_header_keeps : (image facts : List ℕ) (k : ℕ) → header_of image ≡ suc k → facts_after image facts ≡ facts
unfolding header_of facts_after
refused_header_keeps image facts k e = go (check_of image) e
  where
    go : (x : Result Facts HeaderRefusal) → header_by x ≡ suc k → facts_by facts x ≡ facts
    go (Ok d) q = absurd (omega (arith, q))
    go (Err w) q = refl

pub refused_size_keeps : (s : List ℕ) (size k : ℕ) → size_of s ≡ suc k → size_asked s size ≡ size
unfolding size_of size_asked
refused_size_keeps s size k e = go (decode_of s) e
  where
    kept : (x : Result ℕ SaveRefusal) → size_number x ≡ suc k → size_told size x ≡ size
    kept (Ok n) q = absurd (omega (arith, q))
    kept (Err w) q = refl

    go : (d : Option Cartridge) → on_state (λ c. size_number (save.room_for c)) 13 d ≡ suc k → on_state (λ c. size_told size (save.room_for c)) size d ≡ size
    go (Some c) q = kept (save.room_for c) q
    go None q = refl

pub refused_windows_keep : (s numbers : List ℕ) (k : ℕ) → windows_number s ≡ suc k → windows_after s numbers ≡ numbers
unfolding windows_number windows_after
refused_windows_keep s numbers k e = go (decode_of s) e
  where
    kept : (x : Option Windows) → asked_number x ≡ suc k → asked_windows numbers x ≡ numbers
    kept (Some w) q = absurd (omega (arith, q))
    kept None q = refl

    go : (d : Option Cartridge) → on_state (λ c. asked_number (ask_of c)) 13 d ≡ suc k → on_state (λ c. asked_windows numbers (ask_of c)) numbers d ≡ numbers
    go (Some c) q = kept (ask_of c) q
    go None q = refl

-- whatever the numbers are: 15, and 0x200 too
pub refused_window_write_keeps : (numbers ram : List ℕ) (addr byte k : ℕ) → window_write numbers addr ≡ suc k
    → area_through numbers ram addr byte ≡ ram
unfolding window_write area_through put_of area_after put_by area_by
refused_window_write_keeps numbers ram addr byte k e = go (ltb addr 0x8000) (in_ram addr) refl refl e
  where
    w : Windows
    w = windows_in numbers

    by_how : (h : ℕ) → put_number (get_or ((Ok tt) ∷ (Ok tt) ∷ (Ok tt) ∷ []) h (Err Ask)) ≡ suc k
        → get_or (ram ∷ set ram (place_in w addr) byte ∷ set ram (place_in w addr) (byte % 16) ∷ []) h ram ≡ ram
    by_how zero q = refl
    by_how (suc zero) q = absurd (omega (arith, q))
    by_how (suc (suc zero)) q = absurd (omega (arith, q))
    by_how (suc (suc (suc h))) q = refl

    go : (low inside : Bool) → ltb addr 0x8000 ≡ low → in_ram addr ≡ inside
        → put_number (pick low (Err Ask) (pick inside (put_by w) (Err BadAddress))) ≡ suc k → pick inside (area_by w ram addr byte) ram ≡ ram
    go low false p q n = refl
    go true true p q n =
        absurd (omega (arith, ltb-true addr 0x8000 p, leb-true 0xA000 addr (both_left (leb 0xA000 addr) (leb addr 0xBFFF) q)))
    go false true p q n = by_how w.how n

pub refused_mount_keeps : (s image ram : List ℕ) (wall k : ℕ) → mount_of image ram wall ≡ suc k
    → (state_mounted s image ram wall ≡ s) × (mount.area_after image ram wall ≡ ram)
unfolding mount_of state_mounted mount.area_after
refused_mount_keeps s image ram wall k e = go (mount.mount_of image ram wall) e
  where
    go : (a : Result Cartridge MountRefusal) → mount_number a ≡ suc k → (mount_state s a ≡ s) × (mount.area_by a ram ≡ ram)
    go (Ok c) q = absurd (omega (arith, q))
    go (Err w) q = (refl, refl)

pub refused_load_keeps : (s ram bytes : List ℕ) (wall clock k : ℕ) → load_of s (length ram) bytes wall ≡ suc k
    → (state_loaded s (length ram) bytes wall ≡ s)
    × ((area_loaded s ram bytes wall ≡ ram) × (clock_loaded s (length ram) bytes wall clock ≡ clock))
unfolding load_of state_loaded area_loaded clock_loaded load.area_after
refused_load_keeps s ram bytes wall clock k e = go (decode_of s) e
  where
    kept : (a : Result (Option Cartridge) SaveRefusal) → loaded_number a ≡ suc k
        → (loaded_state s a ≡ s) × ((load.area_by ram bytes a ≡ ram) × (loaded_clock clock a ≡ clock))
    kept (Ok (Some d)) q = absurd (omega (arith, q))
    kept (Ok None) q = absurd (omega (arith, q))
    kept (Err w) q = (refl, (refl, refl))

    go : (d : Option Cartridge) → on_state (λ c. loaded_number (load.load_of c (length ram) bytes wall)) 13 d ≡ suc k
        → (on_state (λ c. loaded_state s (load.load_of c (length ram) bytes wall)) s d ≡ s)
        × ((on_state (λ c. load.area_after c ram bytes wall) ram d ≡ ram)
        × (on_state (λ c. loaded_clock clock (load.load_of c (length ram) bytes wall)) clock d ≡ clock))
    go (Some c) q = kept (load.load_of c (length ram) bytes wall) q
    go None q = (refl, (refl, refl))

pub refused_save_keeps : (s ram room : List ℕ) (wall size k : ℕ) → save_of s ram (length room) wall ≡ suc k
    → (room_saved s ram room wall ≡ room) × (size_saved s ram (length room) wall size ≡ size)
unfolding save_of room_saved size_saved save.room_after
refused_save_keeps s ram room wall size k e = go (decode_of s) e
  where
    kept : (c : Cartridge) (a : Result ℕ SaveRefusal) → size_number a ≡ suc k
        → (save.room_by (save.bytes_of c.mapper ram wall) room a ≡ room) × (size_told size a ≡ size)
    kept c (Ok n) q = absurd (omega (arith, q))
    kept c (Err w) q = (refl, refl)

    go : (d : Option Cartridge) → on_state (λ c. size_number (save.save_of c ram (length room) wall)) 13 d ≡ suc k
        → (on_state (λ c. save.room_after c ram room wall) room d ≡ room)
        × (on_state (λ c. size_told size (save.save_of c ram (length room) wall)) size d ≡ size)
    go (Some c) q = kept c (save.save_of c ram (length room) wall) q
    go None q = (refl, refl)

-- 3. Player 13: "read every address and write the RAM window .. as the state does, or answer 0x200", where a clock register stands there.
put_or : (b : Bool) → put_number (pick b (Err Ask) (Ok tt)) ≡ pick b 0x200 0
put_or true = refl
put_or false = refl

pub window_read_is_read : (s numbers rom ram : List ℕ) (addr : ℕ) (c : Cartridge) → decode_of s ≡ Some c → Ready rom (record { cart = c; area = ram })
    → window_read (windows_after s numbers) rom ram addr ≡ pick (both (in_ram addr) (asks_of c)) 0x200 (read_of s rom ram addr)
unfolding window_read windows_after ask_of read_of
window_read_is_read s numbers rom ram addr c e l =
    let asks = both (in_ram addr) (asks_of c) in
    ap (λ (d : Option Cartridge). seen_number
    (seen_of (windows_in (on_state (λ k. asked_windows numbers (ask_of k)) numbers d)) rom ram addr)) e
    ∙ ap (λ (b : Bool). seen_number
    (seen_of (windows_in (asked_windows numbers (pick b (Some (windows_of c)) None))) rom ram addr)) l.fit
    ∙ ap seen_number (window_read_lem c rom ram addr l)
    ∙ asked_or asks (from_read (bus.read_of c rom ram addr))
    ∙ ap (pick asks 0x200) (number_same (bus.read_of c rom ram addr) (only_15 c rom ram addr l))
    ∙ ap (pick asks 0x200) (sym (ap (on_state (λ k. read_number (bus.read_of k rom ram addr)) 0x10D) e))

-- The RAM window is written through them as by `imf_write`; what is not asked leaves the state's bytes as they were.
pub window_write_is_write : (s numbers ram : List ℕ) (addr byte : ℕ) (c : Cartridge) → decode_of s ≡ Some c → fit_cart c ≡ true
    → length ram ≡ area_of c → 0xA000 ≤ addr → addr < 0xC000
    → (window_write (windows_after s numbers) addr ≡ pick (asks_of c) 0x200 0)
    × (area_through (windows_after s numbers) ram addr byte ≡ area_written s ram addr byte)
unfolding window_write area_through windows_after ask_of area_written
window_write_is_write s numbers ram addr byte c e fit area l h =
    let found = ap (on_state (λ k. asked_windows numbers (ask_of k)) numbers) e
    ∙ ap (λ (b : Bool). asked_windows numbers (pick b (Some (windows_of c)) None)) fit in
    let same = window_write_lem c ram addr byte fit area l h in (
      ap (λ (n : List ℕ). put_number (put_of (windows_in n) addr)) found ∙ ap put_number same.0 ∙ put_or (asks_of c),
      ap (λ (n : List ℕ). area_after (windows_in n) ram addr byte) found
          ∙ same.1
          ∙ sym (ap (on_state (λ k. bus.area_after k ram addr byte) ram) e),
    )

pub unasked_write_keeps_state : (s ram : List ℕ) (addr byte : ℕ) (c : Cartridge) → decode_of s ≡ Some c → encode_of c ≡ s
    → fit_cart c ≡ true → length ram ≡ area_of c → 0xA000 ≤ addr → addr < 0xC000 → asks_of c ≡ false
    → (write_of s ram addr byte ≡ 0) × (state_written s ram addr byte ≡ s)
unfolding write_of state_written
unasked_write_keeps_state s ram addr byte c e again fit area l h a =
    let done = unasked_write_keeps c ram addr byte fit area l h a in (
      ap (on_state (λ k. write_number (bus.write_of k ram addr byte)) 13) e ∙ ap write_number done,
      ap (on_state (λ k. write_state s (bus.write_of k ram addr byte)) s) e ∙ ap (write_state s) done ∙ again,
    )

-- They stay where they are while clocks pass and RAM is written: windows change only by a write below 0x8000 or a save read.
pub windows_stay : (c : Cartridge) (addr byte n : ℕ)
    → (windows_of (with_mapper c (window.mapper_after c.mapper c.size addr byte)) ≡ windows_of c)
    × (windows_of (with_mapper c (mapper.clocks_on c.mapper n)) ≡ windows_of c)
windows_stay c addr byte n = (windows_stay_in_ram_write c addr byte, windows_stay_in_advance c n)
