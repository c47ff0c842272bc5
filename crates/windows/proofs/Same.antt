-- What the windows promise: through them every address reads and writes as it does by the state, but where a clock register stands
-- in the RAM window; and they stay where they are until a register is written or a save is read. `seen_of`, `put_of` and `area_after` are
-- what `windows::read` and `write` answer, `windows_of` what `windows::of` gives for a fit cartridge.
use Rattle.std.specs.Prelude.{Ok, Err, Some, None, Result, Option}
use mathlib.Core.Bool.{Bool, true, false, not}
use mathlib.Core.List.{List, [], ◌∷◌}
use mathlib.Core.Path.{◌≡◌, refl, sym, ap, ◌∙◌}
use Prim.Native.Nat.{ℕ, ◌+◌, ◌%◌, ◌<◌, ◌≤◌}
use native.Mathlib.Omega.{arith}
use lib.Dec.{ltb, leb}
use lib.ListN.{length}
use borrow.Author.Tests.{ltb-true, ltb-false, leb-true, lt-leb, eq-eqb}
use Rattle.facts.specs.Choice.{pick, both}
use Rattle.facts.specs.Banking.{place_of}
use Rattle.facts.proofs.ChoiceLaws.{both_true, both_false, both_parts, pick_has}
use Rattle.facts.specs.Refusals.{no, first_no}
use Rattle.banking.specs.Banks.{rom_place}
use Rattle.clock.specs.Access.{written_of}
use Rattle.clock.specs.Ticking.{ticks}
use Rattle.clock.specs.declared.Clock.{Clock}
use Rattle.mbc3.specs.Registers as mbc3
use Rattle.mbc3.specs.Registers.{selectable}
use Rattle.mbc3.specs.declared.Mbc3 as state
use Rattle.mapper.specs.declared.Mapper.{Mapper}
use Rattle.mapper.specs.declared.Mapper.TheVariants.{NoMapper, Mbc1, Mbc2, Mbc3, Mbc5}
use Rattle.image.specs.Image.{byte_at}
use Rattle.timer.specs.Advance as timer
use Rattle.timer.specs.ClockWindow.{on_clock, clock_or, window_written}
use Rattle.mapper.specs.Mappers.{bank_at, bank0, bank_x, bad_selection, clocks_on}
use Rattle.window.specs.Window as window
use Rattle.window.specs.Window.{way_of}
use Rattle.window.specs.declared.Way.TheVariants.{Bytes, Timer}
use Rattle.window.proofs.Laws.{lent_within}
use Rattle.cartridge.specs.Fit.{fit_cart, area_of}
use Rattle.cartridge.specs.With.{with_mapper}
use Rattle.cartridge.specs.declared.Cartridge.{Cartridge}
use Rattle.access.specs.Verdict.{in_ram}
use Rattle.access.specs.declared.BusRefusal.{BusRefusal}
use Rattle.access.specs.declared.BusRefusal.TheVariants.{Unfit, WrongLength, BadAddress, BadSelection}
use Rattle.access.proofs.Laws.{by_tests, rom_window, above_rom, ram_window, below_ram, above_ram}
use Rattle.access.specs.declared.Target.TheVariants.{Ram}
use Rattle.bus.specs.Bus as bus
use Rattle.bus.specs.Run.{Ready}
use Rattle.windows.specs.Windows.{by_way, rom_at, ram_at, windows_by, windows_of, asks_of}
use Rattle.windows.specs.Through.{seen_of, from_read, put_of, area_after}
use Rattle.windows.proofs.Laws as laws
use Rattle.windows.proofs.Moving.{way_moves, way_seen, way_stored, way_put, mapper_stays}
use Rattle.windows.specs.declared.Miss.TheVariants.{Ask}
use Rattle.windows.specs.declared.Miss.TheVariants as miss

-- ---- what the bus answers, by the window

lent_both : (c : Cartridge) (rom ram : List ℕ) → Ready rom (record { cart = c; area = ram }) → bus.lent_both c (length rom) (length ram) ≡ true
lent_both c rom ram l = both_true (eq-eqb _ _ l.image) (eq-eqb _ _ l.area)

module _ (c : Cartridge) (rom ram : List ℕ) (addr : ℕ) (l : Ready rom (record { cart = c; area = ram })) where
  bus_rom : addr < 0x8000 → bus.read_of c rom ram addr ≡ Ok (bus.rom_byte c rom addr)
  unfolding bus.read_of bus.read_verdict
  bus_rom h =
      ap (bus.read_by c rom ram addr)
      (sym (by_tests c _ addr false l.fit (lent_both c rom ram l) (rom_window addr h) refl refl))

  bus_ram : 0xA000 ≤ addr → addr < 0xC000
      → bus.read_of c rom ram addr ≡ Ok (window.read_of c.mapper c.size ram addr)
  unfolding bus.read_of bus.read_verdict
  bus_ram g h =
      ap (bus.read_by c rom ram addr)
      (sym (by_tests c _ addr false l.fit (lent_both c rom ram l) (above_rom addr (omega arith)) (ram_window addr g h) refl))

  bus_outside : 0x8000 ≤ addr → in_ram addr ≡ false → bus.read_of c rom ram addr ≡ Err BadAddress
  unfolding bus.read_of bus.read_verdict
  bus_outside g h =
      ap (bus.read_by c rom ram addr)
      (sym (by_tests c _ addr false l.fit (lent_both c rom ram l) (above_rom addr g) h refl))

-- ---- the places of the image

rom_from_0 : (banks bank base addr : ℕ) → base % 0x4000 ≡ 0 → rom_place banks bank base + addr % 0x4000 ≡ rom_place banks bank addr
unfolding place_of
rom_from_0 banks bank base addr e = omega (arith, e)

-- from the place that a window shows first, on to the address's
rom_seen : (banks : ℕ) (m : Mapper) (addr : ℕ)
    → pick (ltb addr 0x4000) (rom_at banks m 0) (rom_at banks m 0x4000) + addr % 0x4000 ≡ rom_place banks (bank_at m addr) addr
unfolding rom_at bank_at
rom_seen banks m addr = go (ltb addr 0x4000)
  where
    go : (b : Bool) → pick b (rom_place banks (bank0 m) 0) (rom_place banks (bank_x m) 0x4000) + addr % 0x4000
        ≡ rom_place banks (pick b (bank0 m) (bank_x m)) addr
    go true = rom_from_0 banks (bank0 m) 0 addr refl
    go false = rom_from_0 banks (bank_x m) 0x4000 addr refl

-- ---- every address reads through the windows as by the state, and asks where a clock register stands

module _ (c : Cartridge) (rom ram : List ℕ) (addr : ℕ) (l : Ready rom (record { cart = c; area = ram })) where
  -- the answer that is promised, by whether the address is in the RAM window
  abbrev Sees : Type 0
  Sees = seen_of (windows_of c) rom ram addr ≡ pick (both (in_ram addr) (asks_of c)) (Err Ask) (from_read (bus.read_of c rom ram addr))

  by_answer : {inside : Bool} {a : Result ℕ BusRefusal} → in_ram addr ≡ inside → bus.read_of c rom ram addr ≡ a
      → seen_of (windows_of c) rom ram addr ≡ pick (both inside (asks_of c)) (Err Ask) (from_read a) → Sees
  by_answer {a = a} p q e =
      e
      ∙ ap (λ (b : Bool). pick (both b (asks_of c)) (Err Ask) (from_read a)) (sym p)
      ∙ ap (λ x. pick (both (in_ram addr) (asks_of c)) (Err Ask) (from_read x)) (sym q)

  sees_rom : addr < 0x8000 → Sees
  unfolding windows_by
  sees_rom h =
      by_answer (below_ram addr (omega arith)) (bus_rom c rom ram addr l h)
      (sym (laws.seen_rom (windows_of c) rom ram addr h) ∙ ap (λ (k : ℕ). Ok (byte_at rom k)) (rom_seen c.banks c.mapper addr))

  sees_ram : 0xA000 ≤ addr → addr < 0xC000 → Sees
  unfolding windows_by ram_at window.read_of
  sees_ram g h =
      let moves = way_moves c.mapper c.size addr in
      by_answer (ram_window addr g h) (bus_ram c rom ram addr l g h)
      (sym (laws.seen_ram (windows_of c) rom ram addr g h)
      ∙ way_seen (way_of c.mapper c.size 0xA000) (rom_at c.banks c.mapper 0) (rom_at c.banks c.mapper 0x4000) c.size addr ram
      (lent_within c.mapper c.size addr (sym moves) l.area)
      ∙ ap (λ w. pick (asks_of c) (Err Ask) (Ok (window.read_by w c.size ram addr))) (sym moves))

  sees_outside : 0x8000 ≤ addr → in_ram addr ≡ false → Sees
  sees_outside g h = by_answer h (bus_outside c rom ram addr l g h) (sym (laws.seen_outside (windows_of c) rom ram addr g h))

  pub window_read_lem : seen_of (windows_of c) rom ram addr ≡ pick (both (in_ram addr) (asks_of c)) (Err Ask) (from_read (bus.read_of c rom ram addr))
  window_read_lem = go (ltb addr 0x8000) (ltb addr 0xA000) (ltb addr 0xC000) refl refl refl
    where
      go : (a b d : Bool) → ltb addr 0x8000 ≡ a → ltb addr 0xA000 ≡ b → ltb addr 0xC000 ≡ d → Sees
      go true b d p q r = sees_rom (ltb-true addr 0x8000 p)
      go false true d p q r = sees_outside (ltb-false addr 0x8000 p) (below_ram addr (ltb-true addr 0xA000 q))
      go false false true p q r = sees_ram (ltb-false addr 0xA000 q) (ltb-true addr 0xC000 r)
      go false false false p q r = sees_outside (ltb-false addr 0x8000 p) (above_ram addr (ltb-false addr 0xC000 r))

  -- what is not a byte is refused with 15
  pub only_15 : (w : BusRefusal) → bus.read_of c rom ram addr ≡ Err w → w ≡ BadAddress
  only_15 w refused = go (ltb addr 0x8000) (in_ram addr) refl refl
    where
      no_byte : {b : ℕ} → bus.read_of c rom ram addr ≡ Ok b → w ≡ BadAddress
      no_byte e = let p = sym e ∙ refused in let z : ◌≡◌ {A = ℕ} 0 1 = cc in absurd (omega arith)

      go : (b d : Bool) → ltb addr 0x8000 ≡ b → in_ram addr ≡ d → w ≡ BadAddress
      go true d p q = no_byte (bus_rom c rom ram addr l (ltb-true addr 0x8000 p))
      go false true p q =
          let within = both_parts (leb 0xA000 addr) (leb addr 0xBFFF) q in
          let above = leb-true 0xA000 addr within.0 in
          let below = leb-true addr 0xBFFF within.1 in
          no_byte (bus_ram c rom ram addr l above (omega arith))
      go false false p q =
          let r = sym (bus_outside c rom ram addr l (ltb-false addr 0x8000 p) q) ∙ refused in cc

-- ---- the RAM window is written through them as by the state: the same area; what is not asked leaves the state as it was

no_bad_selection : (m : Mapper) (addr byte : ℕ) → 0x6000 ≤ addr → bad_selection m addr byte ≡ false
no_bad_selection (NoMapper m) addr byte h = refl
no_bad_selection (Mbc1 m) addr byte h = refl
no_bad_selection (Mbc2 m) addr byte h = refl
no_bad_selection (Mbc3 m) addr byte h =
    ap (λ (b : Bool). both (both (leb 0x4000 addr) b) (not (selectable byte))) (lt-leb addr 0x5FFF (omega arith))
    ∙ ap (λ (b : Bool). both b (not (selectable byte))) (both_false (leb 0x4000 addr))
no_bad_selection (Mbc5 m) addr byte h = refl

module _ (c : Cartridge) (ram : List ℕ) (addr byte : ℕ) (fit : fit_cart c ≡ true) (area : length ram ≡ area_of c) where
  judged : {r : Bool} → 0x8000 ≤ addr → in_ram addr ≡ r
      → bus.write_verdict c ram addr byte ≡ pick r (Ok Ram) (Err BadAddress)
  unfolding bus.write_verdict
  judged {r = r} g h =
      sym
      (by_tests c _ addr _ fit (eq-eqb _ _ area) (above_rom addr g) h (no_bad_selection c.mapper addr byte (omega arith)))
      ∙ go r
    where
      go : (b : Bool)
          → first_no Err
          (no false Unfit ∷ no false WrongLength ∷ no (not b) BadAddress ∷ no false BadSelection ∷ [])
          (Ok Ram)
          ≡ pick b (Ok Ram) (Err BadAddress)
      go true = refl
      go false = refl

  pub window_write_lem : 0xA000 ≤ addr → addr < 0xC000
      → (put_of (windows_of c) addr ≡ pick (asks_of c) (Err Ask) (Ok tt))
      × (area_after (windows_of c) ram addr byte ≡ bus.area_after c ram addr byte)
  unfolding windows_by ram_at bus.area_after window.area_after
  window_write_lem g h =
      let moves = way_moves c.mapper c.size addr in
      let first = way_of c.mapper c.size 0xA000 in
      let answers = laws.put_ram (windows_of c) ram addr byte g h in (
        sym answers.0 ∙ way_put first (rom_at c.banks c.mapper 0) (rom_at c.banks c.mapper 0x4000) c.size,
        sym answers.1
            ∙ way_stored first (rom_at c.banks c.mapper 0) (rom_at c.banks c.mapper 0x4000) c.size addr byte ram
            ∙ ap (λ w. window.area_by w c.size ram addr byte) (sym moves)
            ∙ ap (bus.area_by c ram addr byte) (sym (judged (omega arith) (ram_window addr g h))),
      )

  pub unasked_write_keeps : 0xA000 ≤ addr → addr < 0xC000 → asks_of c ≡ false → bus.write_of c ram addr byte ≡ Ok c
  unfolding bus.write_of
  unasked_write_keeps g h e =
      ap (bus.write_by c addr byte) (judged (omega arith) (ram_window addr g h))
      ∙ ap (λ m. Ok (with_mapper c m)) (mapper_stays c.mapper c.size addr byte e)

  pub outside_is_refused : 0x8000 ≤ addr → in_ram addr ≡ false
      → (put_of (windows_of c) addr ≡ Err miss.BadAddress) × (bus.write_of c ram addr byte ≡ Err BadAddress)
  unfolding bus.write_of
  outside_is_refused g h =
      (sym (laws.put_outside (windows_of c) ram addr byte g h).0, ap (bus.write_by c addr byte) (judged g h))

-- a register is for the state
pub register_is_asked : (c : Cartridge) (ram : List ℕ) (addr byte : ℕ) → addr < 0x8000
    → ((Err Ask) ≡ put_of (windows_of c) addr) × (ram ≡ area_after (windows_of c) ram addr byte)
register_is_asked c ram addr byte = laws.put_low (windows_of c) ram addr byte

-- ---- they stay where they are but for a write below 0x8000 and a save that is read

way_by_clock : (b : Bool) (p : Option ℕ) (m : state.Mbc3) (k : Clock) (size : ℕ)
    → by_way (pick b (Bytes p) (Timer (mbc3.with_clock m k))) size ≡ by_way (pick b (Bytes p) (Timer m)) size
way_by_clock true p m k size = refl
way_by_clock false p m k size = refl

module _ (banks size : ℕ) where
  -- only the clock differs
  clock_moves_none : (m : state.Mbc3) (k : Clock) → windows_by banks size (Mbc3 (mbc3.with_clock m k)) ≡ windows_by banks size (Mbc3 m)
  unfolding windows_by rom_at ram_at bank_at mbc3.ram_at
  clock_moves_none m k =
      ap (λ r. record {
        rom0 = rom_at banks (Mbc3 m) 0;
        romx = rom_at banks (Mbc3 m) 0x4000;
        ram = r.ram;
        mask = r.mask;
        how = r.how;
      })
      (way_by_clock m.memory (mbc3.ram_at m size 0xA000) m k size)

  -- a write to the RAM window may change a clock register, and no window;
  written_stays : (m : state.Mbc3) (w : Option Clock) → windows_by banks size (Mbc3 (clock_or m w)) ≡ windows_by banks size (Mbc3 m)
  written_stays m (Some k) = clock_moves_none m k
  written_stays m None = refl

  selected_stays : (b : Bool) (m : state.Mbc3) (p : Option ℕ) (byte : ℕ)
      → windows_by banks size (window.mapper_by (pick b (Bytes p) (Timer m)) (Mbc3 m) byte) ≡ windows_by banks size (Mbc3 m)
  unfolding window_written
  selected_stays true m p byte = refl
  selected_stays false m p byte =
      pick_has (λ (x : state.Mbc3). windows_by banks size (Mbc3 x) ≡ windows_by banks size (Mbc3 m)) (on_clock m)
      (written_stays m (written_of m.clock m.register byte)) refl

  mapper_written : (m : Mapper) (addr byte : ℕ) → windows_by banks size (window.mapper_after m size addr byte) ≡ windows_by banks size m
  unfolding window.mapper_after
  mapper_written (NoMapper m) addr byte = refl
  mapper_written (Mbc1 m) addr byte = refl
  mapper_written (Mbc2 m) addr byte = refl
  mapper_written (Mbc3 m) addr byte = selected_stays m.memory m (mbc3.ram_at m size addr) byte
  mapper_written (Mbc5 m) addr byte = refl

  -- nor do passing clocks.
  mapper_clocked : (m : Mapper) (n : ℕ) → windows_by banks size (clocks_on m n) ≡ windows_by banks size m
  unfolding timer.clocks_on
  mapper_clocked (NoMapper m) n = refl
  mapper_clocked (Mbc1 m) n = refl
  mapper_clocked (Mbc2 m) n = refl
  mapper_clocked (Mbc3 m) n =
      pick_has (λ (x : state.Mbc3). windows_by banks size (Mbc3 x) ≡ windows_by banks size (Mbc3 m)) m.timer
      (clock_moves_none m (ticks n m.clock)) refl
  mapper_clocked (Mbc5 m) n = refl

module _ (c : Cartridge) where
  pub windows_stay_in_ram_write : (addr byte : ℕ)
      → windows_of (with_mapper c (window.mapper_after c.mapper c.size addr byte)) ≡ windows_of c
  windows_stay_in_ram_write = mapper_written c.banks c.size c.mapper

  pub windows_stay_in_advance : (n : ℕ) → windows_of (with_mapper c (clocks_on c.mapper n)) ≡ windows_of c
  windows_stay_in_advance = mapper_clocked c.banks c.size c.mapper
