-- Accepted calls, taken apart: what they relied on, what they leave fit, and that they change at most one byte.
use Rattle.std.specs.Prelude.{Ok, Err, Some, None, Result}
use mathlib.Core.Bool.{Bool, true, false, not}
use mathlib.Core.List.{List, [], ◌∷◌, ◌++◌}
use mathlib.Core.Logic.{◌⊎◌, inl, inr}
use mathlib.Core.Path.{◌≡◌, refl, sym, ap, ◌∙◌}
use Prim.Native.Nat.{ℕ, zero, suc, ◌+◌, ◌*◌, ◌%◌, ◌^◌, ◌<◌, ◌≤◌}
use native.Mathlib.Omega.{arith}
use lib.Dec.{eqb, ltb}
use lib.ListN.{length, take, drop, take-append-drop, length-set}
use lib.Pow.{pow-lt}
use borrow.Author.Tests.{eqb-true, eqb-false, eq-eqb, ltb-true, ltb-false}
use Rattle.facts.specs.Choice.{pick, both}
use Rattle.facts.specs.Listed.{one_of}
use Rattle.facts.specs.Refusals.{No, no, first_no}
use Rattle.facts.proofs.ChoiceLaws.{both_parts, both_true, not_false, pick_has}
use Rattle.facts.proofs.RefusalLaws.{first_map}
use Rattle.facts.proofs.ListLaws.{part_set}
use Rattle.mbc2.specs.Registers as mbc2
use Rattle.clock.specs.declared.AdvanceRefusal.TheVariants as clock
use Rattle.image.specs.Image.{padded_length}
use Rattle.image.proofs.ImageLaws.{padded_le}
use Rattle.header.specs.Check.{check_of}
use Rattle.header.specs.Accepted.{Fitting}
use Rattle.header.specs.declared.Facts.{Facts}
use Rattle.header.proofs.AcceptedLaws.{accepted_fits}
use Rattle.header.specs.declared.HeaderRefusal.{HeaderRefusal}
use Rattle.mapper.specs.Mappers as mapper
use Rattle.mapper.specs.declared.Mapper.{Mapper}
use Rattle.window.specs.Window as window
use Rattle.window.specs.declared.Way.{Way}
use Rattle.window.specs.declared.Way.TheVariants.{Bytes, Half, Timer}
use Rattle.cartridge.specs.Fit.{bank_counts, fit_board, fit_cart, area_of}
use Rattle.cartridge.specs.declared.Cartridge.{Cartridge}
use Rattle.cartridge.proofs.Laws.{fit_board_lem, fit_registers_lem}
use Rattle.mount.specs.Mount.{cart_of, area_in, asked_by, area_for, mount_by, mount_of}
use Rattle.mount.proofs.Laws.{asked_is_area}
use Rattle.mount.specs.declared.MountRefusal.TheVariants.{WrongArea}
use Rattle.access.specs.Verdict.{in_rom, noes, verdict_of}
use Rattle.cartridge.specs.With.{with_mapper}
use Rattle.bus.specs.Bus.{lent_area, write_verdict, write_by, area_by, write_of, area_after}
use Rattle.bus.specs.Advance.{advance_of}
use Rattle.access.specs.declared.BusRefusal.{BusRefusal}
use Rattle.access.proofs.Laws.{rom_window, taken_fit, taken_lent}
use Rattle.access.specs.declared.Target.{Target}
use Rattle.access.specs.declared.Target.TheVariants.{Rom, Ram}
use Rattle.runs.specs.Calls.{AtMostOne}
use Rattle.runs.proofs.MapperLaws as kept

-- ---- another mapper in a fit cartridge

pub fit_with : (c : Cartridge) (m : Mapper) → fit_cart c ≡ true → kept.Same c.mapper m
    → (mapper.fit_registers c.mapper ≡ true → mapper.fit_registers m ≡ true) → fit_cart (with_mapper c m) ≡ true
unfolding fit_cart fit_board
fit_with c m fit same registers =
    let limits = same.limits c.banks c.size in
    let board : fit_board (with_mapper c m) ≡ true = rw limits (fit_board_lem c fit) in
    both_true board (registers (fit_registers_lem c fit))

-- ---- an accepted write

-- what it relied on, and what came of the mapper: a register write, or a write to the window
pub record TakenWrite (c d : Cartridge) (ram : List ℕ) (addr byte : ℕ) : Type 0 where
  pub fit : fit_cart c ≡ true
  pub lent : length ram ≡ area_of c
  pub next : Mapper
  pub is : d ≡ with_mapper c next
  pub way : (next ≡ mapper.written c.mapper addr byte) ⊎ (next ≡ window.mapper_after c.mapper c.size addr byte)

pub write_taken : (c d : Cartridge) (ram : List ℕ) (addr byte : ℕ) → write_of c ram addr byte ≡ Ok d
    → TakenWrite c d ram addr byte
unfolding write_of write_verdict
write_taken c d ram addr byte e = go (write_verdict c ram addr byte) refl e
  where
    go : (v : Result Target BusRefusal) → write_verdict c ram addr byte ≡ v → write_by c addr byte v ≡ Ok d → TakenWrite c d ram addr byte
    go (Ok Rom) p q =
        record {
          fit = taken_fit c (lent_area c (length ram)) addr (mapper.bad_selection c.mapper addr byte) (Ok Rom) p refl;
          lent = eqb-true _ _ (taken_lent c (lent_area c (length ram)) addr (mapper.bad_selection c.mapper addr byte) (Ok Rom) p refl);
          next = mapper.written c.mapper addr byte;
          is = cc;
          way = inl refl;
        }
    go (Ok Ram) p q =
        record {
          fit = taken_fit c (lent_area c (length ram)) addr (mapper.bad_selection c.mapper addr byte) (Ok Ram) p refl;
          lent = eqb-true _ _ (taken_lent c (lent_area c (length ram)) addr (mapper.bad_selection c.mapper addr byte) (Ok Ram) p refl);
          next = window.mapper_after c.mapper c.size addr byte;
          is = cc;
          way = inr refl;
        }
    go (Err w) p q = let z : ◌≡◌ {A = ℕ} 0 1 = cc in absurd (omega arith)

pub write_fit : (c d : Cartridge) (ram : List ℕ) (addr byte : ℕ) → byte < 256 → write_of c ram addr byte ≡ Ok d
    → fit_cart d ≡ true
write_fit c d ram addr byte l e = let t = write_taken c d ram addr byte e in ap fit_cart t.is ∙ go t.next t.way t.fit
  where
    go : (m : Mapper) → (m ≡ mapper.written c.mapper addr byte) ⊎ (m ≡ window.mapper_after c.mapper c.size addr byte)
        → fit_cart c ≡ true → fit_cart (with_mapper c m) ≡ true
    go m (inl p) fit =
        ap (λ (x : Mapper). fit_cart (with_mapper c x)) p
        ∙ fit_with c _ fit (kept.written_same c.mapper addr byte) (kept.written_fit c.mapper addr byte l)
    go m (inr p) fit =
        ap (λ (x : Mapper). fit_cart (with_mapper c x)) p
        ∙ fit_with c _ fit (kept.window_same c.mapper c.size addr byte) (kept.window_fit c.mapper c.size addr byte l)

pub write_area_stays : (c d : Cartridge) (ram : List ℕ) (addr byte : ℕ) → write_of c ram addr byte ≡ Ok d
    → area_of d ≡ area_of c
write_area_stays c d ram addr byte e = let t = write_taken c d ram addr byte e in ap area_of t.is ∙ go t.next t.way
  where
    go : (m : Mapper) → (m ≡ mapper.written c.mapper addr byte) ⊎ (m ≡ window.mapper_after c.mapper c.size addr byte)
        → mapper.area_of m c.size ≡ area_of c
    go m (inl p) = ap (λ (x : Mapper). mapper.area_of x c.size) p ∙ (kept.written_same c.mapper addr byte).area c.size
    go m (inr p) = ap (λ (x : Mapper). mapper.area_of x c.size) p ∙ (kept.window_same c.mapper c.size addr byte).area c.size

-- ---- an accepted advance

pub record TakenAdvance (c d : Cartridge) (n : ℕ) : Type 0 where
  pub fit : fit_cart c ≡ true
  pub early : mapper.late c.mapper n ≡ false
  pub is : d ≡ with_mapper c (mapper.clocks_on c.mapper n)

pub advance_taken : (c d : Cartridge) (n : ℕ) → advance_of c n ≡ Ok d → TakenAdvance c d n
unfolding advance_of
advance_taken c d n e = go (not (fit_cart c)) (mapper.late c.mapper n) refl refl e
  where
    go : (t u : Bool) → not (fit_cart c) ≡ t → mapper.late c.mapper n ≡ u
        → first_no Err (no t clock.Unfit ∷ no u clock.Late ∷ [])
        (Ok (with_mapper c (mapper.clocks_on c.mapper n))) ≡ Ok d → TakenAdvance c d n
    go true u p q r = let z : ◌≡◌ {A = ℕ} 0 1 = cc in absurd (omega arith)
    go false true p q r = let z : ◌≡◌ {A = ℕ} 0 1 = cc in absurd (omega arith)
    go false false p q r = record { fit = not_false (fit_cart c) p; early = q; is = cc }

pub advance_fit : (c d : Cartridge) (n : ℕ) → advance_of c n ≡ Ok d → fit_cart d ≡ true
advance_fit c d n e =
    let t = advance_taken c d n e in
    ap fit_cart t.is
    ∙ fit_with c (mapper.clocks_on c.mapper n) t.fit (kept.clocks_same c.mapper n)
    (kept.clocks_fit c.mapper n)

-- ---- an accepted mounting

-- what is computed of every number below n holds of each
abbrev below : ℕ → (ℕ → Bool) → Bool
below zero P = true
below (suc n) P = both (P n) (below n P)

below_each : (n : ℕ) (P : ℕ → Bool) (k : ℕ) → below n P ≡ true → k < n → P k ≡ true
below_each zero P k e h = absurd (omega arith)
below_each (suc n) P k e h =
    let p = both_parts (P n) (below n P) e in go (eqb k n) refl p.0 (λ l. below_each n P k p.1 l)
  where
    go : (t : Bool) → eqb k n ≡ t → P n ≡ true → (k < n → P k ≡ true) → P k ≡ true
    go true q now' rest = ap P (eqb-true k n q) ∙ now'
    go false q now' rest = let d = eqb-false k n q in rest (omega (arith, d))

-- the powers of two from 2 to 512
power_listed : (k : ℕ) → 2 * 2 ^ k ≤ 512 → one_of (2 * 2 ^ k) bank_counts ≡ true
power_listed k h = go (ltb k 9) refl
  where
    go : (t : Bool) → ltb k 9 ≡ t → one_of (2 * 2 ^ k) bank_counts ≡ true
    go true q = below_each 9 (λ i. one_of (2 * 2 ^ i) bank_counts) k refl (ltb-true k 9 q)
    go false q =
        let l = ltb-false k 9 q in
        let m : 2 ^ 8 < 2 ^ k = pow-lt {i = 8} {j = k} (omega arith) in absurd (omega arith)

started_fit : (s : List ℕ) (d : Facts) (wall : ℕ) → Fitting s d → fit_cart (cart_of d (length s) wall) ≡ true
unfolding fit_cart fit_board cart_of
started_fit s d wall f =
    let room : padded_length (length s) ≤ 8388608 = padded_le (length s) f.short in
    let banks : one_of d.banks bank_counts ≡ true =
    ap (λ (x : ℕ). one_of x bank_counts) f.power ∙ power_listed f.log (omega (arith, room, f.padded, f.power)) in
    both_true
    (both_true (both_true banks (eq-eqb _ _ f.padded))
    (both_true f.sized (kept.start_holds d.kind d.multicart wall d.banks d.size f.supported f.limit f.multi)))
    (kept.start_fit d.kind d.multicart wall)

pub record TakenMount (image ram : List ℕ) (wall : ℕ) (c : Cartridge) : Type 0 where
  pub facts : Facts
  pub accepted : check_of image ≡ Ok facts
  pub is : c ≡ cart_of facts (length image) wall
  pub lent : length ram ≡ area_of c

pub mount_taken : (image ram : List ℕ) (wall : ℕ) (c : Cartridge) → mount_of image ram wall ≡ Ok c
    → TakenMount image ram wall c
unfolding mount_of
mount_taken image ram wall c e = go (check_of image) refl e
  where
    go : (k : Result Facts HeaderRefusal) → check_of image ≡ k → mount_by k (length image) (length ram) wall ≡ Ok c → TakenMount image ram wall c
    go (Ok d) p q = area (eqb (length ram) (area_of (cart_of d (length image) wall))) refl q
      where
        area : (t : Bool) → eqb (length ram) (area_of (cart_of d (length image) wall)) ≡ t
            → pick t (Ok (cart_of d (length image) wall)) (Err WrongArea) ≡ Ok c
            → TakenMount image ram wall c
        area true h r =
            let i : cart_of d (length image) wall ≡ c = cc in
            record { facts = d; accepted = p; is = sym i; lent = eqb-true _ _ h ∙ ap area_of i }
        area false h r = let z : ◌≡◌ {A = ℕ} 0 1 = cc in absurd (omega arith)
    go (Err w) p q = let z : ◌≡◌ {A = ℕ} 0 1 = cc in absurd (omega arith)

pub mount_fit : (image ram : List ℕ) (wall : ℕ) (c : Cartridge) → mount_of image ram wall ≡ Ok c → fit_cart c ≡ true
mount_fit image ram wall c e =
    let t = mount_taken image ram wall c e in
    ap fit_cart t.is ∙ started_fit image t.facts wall (accepted_fits image t.facts t.accepted)

-- ---- at most one byte

half_one : (m : _) (size : ℕ) (ram : List ℕ) (addr byte : ℕ)
    → AtMostOne ram (take size ram ++ mbc2.half_after m (drop size ram) addr byte)
unfolding mbc2.half_after
half_one m size ram addr byte =
    pick_has (λ (x : List ℕ). AtMostOne ram (take size ram ++ x)) m.enabled
    (inr (record { place = size + addr % 512; byte = byte % 16; is = part_set size ram (addr % 512) (byte % 16) }))
    (inl (take-append-drop size ram))

way_one : (w : Way) (size : ℕ) (ram : List ℕ) (addr byte : ℕ) → AtMostOne ram (window.area_by w size ram addr byte)
way_one (Bytes (Some i)) size ram addr byte = inr (record { place = i; byte = byte; is = refl })
way_one (Bytes None) size ram addr byte = inl refl
way_one (Half m) size ram addr byte = half_one m size ram addr byte
way_one (Timer m) size ram addr byte = inl refl

pub write_one : (c : Cartridge) (ram : List ℕ) (addr byte : ℕ) → AtMostOne ram (area_after c ram addr byte)
unfolding area_after window.area_after
write_one c ram addr byte = go (write_verdict c ram addr byte)
  where
    go : (v : Result Target BusRefusal) → AtMostOne ram (area_by c ram addr byte v)
    go (Ok Rom) = inl refl
    go (Ok Ram) = way_one (window.way_of c.mapper c.size addr) c.size ram addr byte
    go (Err w) = inl refl

pub refused_area : (c : Cartridge) (ram : List ℕ) (addr byte : ℕ) (w : BusRefusal) → write_of c ram addr byte ≡ Err w
    → area_after c ram addr byte ≡ ram
unfolding write_of area_after
refused_area c ram addr byte w e = go (write_verdict c ram addr byte) e
  where
    go : (v : Result Target BusRefusal) → write_by c addr byte v ≡ Err w → area_by c ram addr byte v ≡ ram
    go (Ok Rom) p = let z : ◌≡◌ {A = ℕ} 0 1 = cc in absurd (omega arith)
    go (Ok Ram) p = let z : ◌≡◌ {A = ℕ} 0 1 = cc in absurd (omega arith)
    go (Err x) p = refl

-- an access below 0x8000 is not to the RAM window
pub register_area : (c : Cartridge) (ram : List ℕ) (addr byte : ℕ) → addr < 0x8000 → area_after c ram addr byte ≡ ram
unfolding area_after write_verdict verdict_of noes
register_area c ram addr byte h =
    first_map (area_by c ram addr byte) Err (noes c (lent_area c (length ram)) addr (mapper.bad_selection c.mapper addr byte)) (pick (in_rom addr) (Ok Rom) (Ok Ram))
    ∙ same (noes c (lent_area c (length ram)) addr (mapper.bad_selection c.mapper addr byte))
    (ap (λ (t : Bool). area_by c ram addr byte (pick t (Ok Rom) (Ok Ram))) (rom_window addr h))
  where
    same : (ts : List (No BusRefusal)) {x : List ℕ} → x ≡ ram → first_no (λ w. ram) ts x ≡ ram
    same [] e = e
    same (t ∷ ts) e = pick_has (λ (y : List ℕ). y ≡ ram) t.holds refl (same ts e)

pub one_length : (s t : List ℕ) → AtMostOne s t → length t ≡ length s
one_length s t (inl e) = ap length e
one_length s t (inr p) = ap length p.is ∙ length-set s p.place p.byte

-- ---- the area that is asked for

pub asked_mounts : (image ram : List ℕ) (wall : ℕ) (d : Facts) → check_of image ≡ Ok d
    → area_for image ≡ Ok (length ram) → mount_of image ram wall ≡ Ok (cart_of d (length image) wall)
unfolding mount_of area_for cart_of
asked_mounts image ram wall d e asked =
    let n : area_in d.kind d.size ≡ length ram = bytes_same (sym (ap asked_by e) ∙ asked) in
    ap (λ (x : Result Facts HeaderRefusal). mount_by x (length image) (length ram) wall) e
    ∙ ap (λ (t : Bool). pick t (Ok (cart_of d (length image) wall)) (Err WrongArea))
    (eq-eqb _ _ (sym n ∙ asked_is_area d.kind d.multicart wall d.size))
  where
    bytes_same : {m n : ℕ} → ◌≡◌ {A = Result ℕ HeaderRefusal} (Ok m) (Ok n) → m ≡ n
    bytes_same p = cc
