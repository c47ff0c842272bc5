-- Each question to a mapper, of the original's state that goes with ours: the same place, byte and area, and no panic. What is
-- known of the accesses before, and what the domain asks of this one, matter to MBC3's clock alone.
use Rattle.std.specs.Prelude.{Some, None, Option}
use mathlib.Core.Bool.{Bool, true, false, not}
use mathlib.Core.List.{List}
use mathlib.Core.Path.{◌≡◌, refl, sym, ap, ◌∙◌, subst}
use Prim.Native.Nat.{ℕ, zero, suc, ◌+◌, ◌<◌, ◌≤◌}
use native.Mathlib.Omega.{arith}
use lib.ListN.{length, set, take, drop, length-set, length-drop}
use lib.Seq.{take_all, length-take-le, take_at, drop_at}
use Rattle.facts.specs.Choice.{pick, both}
use Rattle.facts.proofs.ChoiceLaws.{both_left, not_true}
use Rattle.facts.proofs.ListLaws.{one_of_le}
use Rattle.bytes_le.proofs.OctetLaws.{octets_drop}
use Rattle.banking.specs.Banks.{Inside, rom_place, ram_place}
use Rattle.banking.proofs.Laws.{ram_inside}
use Rattle.types.specs.Types.{supported_of, beyond_of}
use Rattle.header.specs.Size.{ram_sizes}
use Rattle.mbc1.specs.Registers as reg1
use Rattle.mbc1.proofs.Laws as our1
use Rattle.mbc2.specs.Registers as our2
use Rattle.mbc2.specs.declared.Mbc2 as declared2
use Rattle.mbc3.specs.Registers as reg3
use Rattle.mbc3.specs.declared.Mbc3 as declared3
use Rattle.mbc3.proofs.Laws.{good_selection}
use Rattle.mbc3.proofs.FitLaws as our3
use Rattle.clock.specs.Ticking as clock
use Rattle.timer.specs.Advance.{late_of}
use Rattle.timer.specs.ClockWindow.{on_clock, window_read, window_written}
use Rattle.timer.proofs.WindowLaws.{write_off}
use Rattle.mbc5.specs.Registers as reg5
use Rattle.mbc5.proofs.Laws as our5
use Rattle.mapper.specs.Mappers.{kind_of, holds, bank0, bank_x, written, late, clocks_on}
use Rattle.mapper.specs.declared.Mapper.{Mapper}
use Rattle.mapper.specs.declared.Mapper.TheVariants.{NoMapper, Mbc1, Mbc2, Mbc3, Mbc5}
use Rattle.window.specs.Window as window
use Rattle.window.specs.declared.Way.{Way}
use Rattle.window.specs.declared.Way.TheVariants.{Bytes, Timer}
use Rattle.access.specs.Verdict.{in_ram}
use Rattle.access.proofs.Laws.{below_ram}
use Rattle.bus.specs.Run.{reads, writes, clocks}
use Rattle.runs.specs.Limits.{Within}
use Rattle.runs.proofs.ImageLaws as image
use Rattle.original.specs.Machine.{Outcome, ok, panic, bind}
use Rattle.original.specs.MappingResult.{MappingResult, mapped, Value, NotMapped}
use Rattle.original.specs.Mbc3 as rust3
use Rattle.original.specs.Mapper as original
use Rattle.original.specs.Mapper.{boxed, boxed_result}
use Rattle.original.specs.Cartridge.{read_at, write_at}
use Rattle.original.specs.Same.{none_of, mbc1_of, mbc2_of, mbc5_of, SameMapper, Fit}
use Rattle.original.specs.Place.{result_of}
use Rattle.original.specs.Domain.{Since, since, since_after, within, in_time, Allowed}
use Rattle.original.specs.Follows as follows
use Rattle.original.proofs.MachineLaws.{index_ok, store_ok}
use Rattle.original.proofs.StepForms.{mapper_clocks}
use Rattle.original.proofs.Mbc3Forms as forms3
use Rattle.original.proofs.NoMapperLaws as none
use Rattle.original.proofs.Mbc1Laws as mbc1
use Rattle.original.proofs.Mbc2Laws as mbc2
use Rattle.original.proofs.Mbc3Laws as mbc3
use Rattle.original.proofs.DomainLaws as domain
use Rattle.original.proofs.Mbc5Laws as mbc5

-- ---- what fitness says

supported : (m : Mapper) → supported_of (kind_of m) ≡ true
supported (NoMapper m) = refl
supported (Mbc1 m) = refl
supported (Mbc2 m) = refl
supported (Mbc3 m) = refl
supported (Mbc5 m) = refl

pub limits : (m : Mapper) (banks size : ℕ) → holds m banks size ≡ true → Within (kind_of m) banks size
unfolding holds
limits m banks size h =
    image.within (kind_of m) banks size (supported m)
    (not_true (beyond_of (kind_of m) banks size) (both_left (not (beyond_of (kind_of m) banks size)) _ h))

small : {banks size : ℕ} {area : List ℕ} {m : Mapper} → Fit banks size area m → size ≤ 0x20000
small {size = size} f = one_of_le 0x20000 size ram_sizes refl f.sized

-- ---- the ROM

pub rom0_same : (m : Mapper) (o : original.Mapper) (past : Since) {banks size : ℕ} {area : List ℕ} → Fit banks size area m
    → SameMapper banks size area past m o → (addr : ℕ) → addr < 0x4000 → original.map_read_rom0 o addr ≡ ok
    (rom_place banks (bank0 m) addr)
rom0_same (NoMapper m) o past {banks} {size} f s addr h =
    ap (λ (x : original.Mapper). original.map_read_rom0 x addr) s ∙ none.rom0_same size banks addr h
rom0_same (Mbc1 m) o past {banks} {size} f s addr h =
    ap (λ (x : original.Mapper). original.map_read_rom0 x addr) s
    ∙ mbc1.rom0_same banks size m f.banked f.registers addr (limits (Mbc1 m) banks size f.held) h
rom0_same (Mbc2 m) o past {banks} {size} {area} f s addr h =
    ap (λ (x : original.Mapper). original.map_read_rom0 x addr) s ∙ mbc2.rom0_same banks (drop size area) m addr h
rom0_same (Mbc3 m) o past {banks} {size} f (u, p, q) addr h =
    ap (λ (x : original.Mapper). original.map_read_rom0 x addr) p ∙ ap (λ (x : rust3.Mbc3). ok (rust3.map_read_rom0 x addr)) q.is
    ∙ forms3.rom_0 banks size m q.rtc addr h
rom0_same (Mbc5 m) o past {banks} {size} f s addr h =
    ap (λ (x : original.Mapper). original.map_read_rom0 x addr) s.1 ∙ mbc5.rom0_same banks size s.0 m addr h

pub romx_same : (m : Mapper) (o : original.Mapper) (past : Since) {banks size : ℕ} {area : List ℕ} → Fit banks size area m
    → SameMapper banks size area past m o → (addr : ℕ) → 0x4000 ≤ addr → addr < 0x8000
    → original.map_read_romx o addr ≡ ok (rom_place banks (bank_x m) addr)
romx_same (NoMapper m) o past {banks} {size} f s addr l h =
    ap (λ (x : original.Mapper). original.map_read_romx x addr) s ∙ none.romx_same size addr l h
    ∙ ap (λ (x : ℕ). ok (rom_place x 1 addr)) (sym (limits (NoMapper m) banks size f.held).0)
romx_same (Mbc1 m) o past {banks} {size} f s addr l h =
    ap (λ (x : original.Mapper). original.map_read_romx x addr) s
    ∙ mbc1.romx_same banks size m f.banked f.registers addr
romx_same (Mbc2 m) o past {banks} {size} {area} f s addr l h =
    ap (λ (x : original.Mapper). original.map_read_romx x addr) s ∙ mbc2.romx_same banks (drop size area) m addr f.banked
romx_same (Mbc3 m) o past {banks} {size} f (u, p, q) addr l h =
    ap (λ (x : original.Mapper). original.map_read_romx x addr) p ∙ ap (λ (x : rust3.Mbc3). rust3.map_read_romx x addr) q.is
    ∙ forms3.rom_x banks size m q.rtc addr f.banked
romx_same (Mbc5 m) o past {banks} {size} f s addr l h =
    ap (λ (x : original.Mapper). original.map_read_romx x addr) s.1 ∙ mbc5.romx_same banks size s.0 m addr f.banked

-- ---- a register

-- the next state of the original, which goes with ours
pub record NextSame (banks size : ℕ) (area : List ℕ) (past : Since) (m : Mapper) (x : Outcome original.Mapper) : Type 0 where
  pub next : original.Mapper
  pub is : x ≡ ok next
  pub same : SameMapper banks size area past m next

pub register_same : (m : Mapper) (o : original.Mapper) (past : Since) {banks size : ℕ} {area : List ℕ} → Fit banks size area m
    → SameMapper banks size area past m o → (addr byte : ℕ) → addr < 0x8000 → byte < 256
    → Allowed m past (writes addr byte) (written m addr byte) → NextSame banks size area past (written m addr byte)
    (original.write_bank_controller_register o addr byte)
register_same (NoMapper m) o past {banks} {size} f s addr byte h l d =
    record {
      next = o;
      is =
          ap (λ (x : original.Mapper). original.write_bank_controller_register x addr byte) s
          ∙ ap (boxed original.NoMapper) (none.register_same size addr byte) ∙ ap ok (sym s);
      same = s;
    }
register_same (Mbc1 m) o past {banks} {size} f s addr byte h l d =
    record {
      next = _;
      is =
          ap (λ (x : original.Mapper). original.write_bank_controller_register x addr byte) s
          ∙ ap (boxed original.Mbc1) (mbc1.register_same banks size m addr byte);
      same = refl;
    }
register_same (Mbc2 m) o past {banks} {size} {area} f s addr byte h l d =
    record {
      next = _;
      is =
          ap (λ (x : original.Mapper). original.write_bank_controller_register x addr byte) s
          ∙ ap (boxed original.Mbc2) (mbc2.register_same banks (drop size area) m addr byte);
      same = refl;
    }
register_same (Mbc3 m) o past {banks} {size} f (u, p, q) addr byte h l d =
    let x =
    mbc3.write_register_lem banks size past m u q addr byte h l
    (good_selection addr byte (not_true _ d.selection))
    (domain.latch_due banks size past m u q addr byte (written (Mbc3 m) addr byte) d) in
    record {
      next = original.Mbc3 x.next;
      is =
          ap (λ (y : original.Mapper). original.write_bank_controller_register y addr byte) p ∙ ap (boxed original.Mbc3) x.is;
      same = (x.next, refl, x.same);
    }
register_same (Mbc5 m) o past {banks} {size} f s addr byte h l d =
    record {
      next = _;
      is =
          ap (λ (x : original.Mapper). original.write_bank_controller_register x addr byte) s.1
          ∙ ap (boxed original.Mbc5) (mbc5.register_same banks size s.0 m addr byte l);
      same = (s.0, refl);
    }

-- ---- the window

-- a read: the mapper's result gives the byte that we read
pub record ReadSame (banks size : ℕ) (area : List ℕ) (past : Since) (m : Mapper) (o : original.Mapper) (addr : ℕ) : Type 0 where
  pub next : original.Mapper
  pub result : MappingResult
  pub is : original.map_ram_read o addr ≡ ok (mapped next result)
  pub byte : read_at (take size area) result ≡ ok (window.read_of m size area addr)
  pub same : SameMapper banks size area past m next

-- a write: it leaves the area that we leave
pub record WriteSame (banks size : ℕ) (area : List ℕ) (past : Since) (m : Mapper) (o : original.Mapper)
    (addr byte : ℕ) : Type 0 where
  pub next : original.Mapper
  pub result : MappingResult
  pub is : original.map_ram_write o addr byte ≡ ok (mapped next result)
  pub ram : write_at (take size area) result byte ≡ ok (take size (window.area_after m size area addr byte))
  pub same : SameMapper banks size (window.area_after m size area addr byte) past (window.mapper_after m size addr byte) next

-- a place within the area
module _ (p : Option ℕ) (size : ℕ) (area : List ℕ) (long : length area ≡ size) (inside : Inside p size) where
  whole : take size area ≡ area
  whole = take_all size area (omega (arith, long))

  pub bytes_read : read_at (take size area) (result_of p) ≡ ok (window.loaded area p)
  bytes_read = ap (λ (x : List ℕ). read_at x (result_of p)) whole ∙ go p inside
    where
      go : (q : Option ℕ) → Inside q size → read_at area (result_of q) ≡ ok (window.loaded area q)
      go (Some i) h = index_ok area i (omega (arith, long))
      go None h = refl

  pub bytes_write : (byte : ℕ) → write_at (take size area) (result_of p) byte ≡ ok (take size (window.stored area p byte))
  bytes_write byte = ap (λ (x : List ℕ). write_at x (result_of p) byte) whole ∙ go p inside
    where
      go : (q : Option ℕ) → Inside q size → write_at area (result_of q) byte ≡ ok (take size (window.stored area q byte))
      go (Some i) h =
          store_ok area i byte (omega (arith, long))
          ∙ ap ok (sym (take_all size (set area i byte) (omega (arith, length-set area i byte, long))))
      go None h = ap ok (sym whole)

-- a value, or nothing mapped
valued : (ram : List ℕ) (t : Bool) (x : ℕ) → read_at ram (pick t (Value (pick t x 0xFF)) NotMapped) ≡ ok (pick t x 0xFF)
valued ram true x = refl
valued ram false x = refl

half_byte : (m : declared2.Mbc2) (ram half : List ℕ) (addr : ℕ)
    → read_at ram (pick m.enabled (Value (our2.half_read m half addr)) NotMapped) ≡ ok (our2.half_read m half addr)
unfolding our2.half_read
half_byte m ram half addr = valued ram m.enabled _

-- the half-bytes behind the RAM
module _ (size : ℕ) (area : List ℕ) (long : length area ≡ size + 512) where
  half_long : length (drop size area) ≡ 512
  half_long = omega (arith, length-drop size area, long)

  front : length (take size area) ≡ size
  front = length-take-le size area (omega (arith, long))

-- MBC3's window: RAM, a clock register or nothing
pub stored_byte : (m : declared3.Mbc3) (size : ℕ) (area : List ℕ) (addr byte : ℕ) → length area ≡ size
    → write_at (take size area) (follows.stored_at m size addr) byte ≡ ok (take size (window.area_after (Mbc3 m) size area addr byte))
unfolding window.area_after
stored_byte m size area addr byte long = by m.memory
  where
    by : (t : Bool)
        → write_at (take size area) (pick t (result_of (reg3.ram_at m size addr)) NotMapped) byte
        ≡ ok (take size (window.area_by (pick t (Bytes (reg3.ram_at m size addr)) (Timer m)) size area addr byte))
    by true = bytes_write (reg3.ram_at m size addr) size area long (our3.ram_at_inside m size addr) byte
    by false = refl

-- a write to RAM leaves the mapper, and so does one to a clock register that does not stand in the window
pub after_write_lem : (m : declared3.Mbc3) (size addr byte : ℕ) → window.mapper_after (Mbc3 m) size addr byte ≡ Mbc3 (window_written m byte)
unfolding window.mapper_after
after_write_lem m size addr byte = by m.memory refl
  where
    off : (a b : Bool) → both a (both b false) ≡ false
    off true true = refl
    off true false = refl
    off false b = refl

    by : (t : Bool) → m.memory ≡ t
        → window.mapper_by (pick t (Bytes (reg3.ram_at m size addr)) (Timer m)) (Mbc3 m) byte ≡ Mbc3 (window_written m byte)
    by true e =
        ap Mbc3 (write_off m byte (ap (λ (x : Bool). both m.timer (both m.enabled (not x))) e ∙ off m.timer m.enabled))
    by false e = refl

module _ (banks size : ℕ) (area : List ℕ) (past : Since) (m : declared3.Mbc3) (u : rust3.Mbc3)
    (q : follows.Same banks size past m u)
    (addr : ℕ) where
  shown_byte : length area ≡ size → read_at (take size area) (follows.shown_at m size addr) ≡ ok
      (window.read_of (Mbc3 m) size area addr)
  unfolding window.read_of window_read
  shown_byte long = by m.memory
    where
      by : (t : Bool)
          → read_at (take size area)
          (pick t (result_of (reg3.ram_at m size addr)) (pick (on_clock m) (Value (window_read m)) NotMapped))
          ≡ ok (window.read_by (pick t (Bytes (reg3.ram_at m size addr)) (Timer m)) size area addr)
      by true = bytes_read (reg3.ram_at m size addr) size area long (our3.ram_at_inside m size addr)
      by false = valued (take size area) (on_clock m) _

  clock_read : {o : original.Mapper} → in_ram addr ≡ true → length area ≡ size → o ≡ original.Mbc3 u
      → ReadSame banks size area (since_after (Mbc3 m) past (reads addr)) (Mbc3 m) o addr
  clock_read i long p =
      let x = mbc3.read_mapped banks size past m u q addr in
      record {
        next = original.Mbc3 x.next;
        result = follows.shown_at m size addr;
        is =
            ap (λ (y : original.Mapper). original.map_ram_read y addr) p ∙ ap (boxed_result original.Mbc3) x.is;
        byte = shown_byte long;
        same = (
          x.next,
          refl,
          subst (λ (y : Since). follows.Same banks size y m x.next)
              (sym (ap
              (λ (t : Bool). pick (both t (both (on_clock m) (not m.clock.latched))) (since 0 past.idle) past) i))
              x.same,
        );
      }

  clock_write_lem : {o : original.Mapper} (byte : ℕ) → in_ram addr ≡ true → byte < 256
      → Allowed (Mbc3 m) past (writes addr byte) (window.mapper_after (Mbc3 m) size addr byte) → length area ≡ size
      → o ≡ original.Mbc3 u → WriteSame banks size area past (Mbc3 m) o addr byte
  clock_write_lem byte i l d long p =
      let x =
      mbc3.write_mapped banks size past m u q addr byte l
      (domain.clock_write_lem banks size past m u q addr byte (window.mapper_after (Mbc3 m) size addr byte) d i
      (after_write_lem m size addr byte)) in
      record {
        next = original.Mbc3 x.next;
        result = follows.stored_at m size addr;
        is =
            ap (λ (y : original.Mapper). original.map_ram_write y addr byte) p ∙ ap (boxed_result original.Mbc3) x.is;
        ram = stored_byte m size area addr byte long;
        same =
            subst (λ (y : Mapper). SameMapper banks size (window.area_after (Mbc3 m) size area addr byte) past y
            (original.Mbc3 x.next))
            (sym (after_write_lem m size addr byte)) (x.next, refl, x.same);
      }

-- a mapper whose window is a place in RAM, and that no access there changes
module _ (m : Mapper) (o next : original.Mapper) (past : Since) {banks size : ℕ} {area : List ℕ} (addr : ℕ) (p : Option ℕ)
    (long : length area ≡ size)
    (inside : Inside p size)
    (way : window.way_of m size addr ≡ Bytes p) (same : (a : List ℕ) → SameMapper banks size a past m next) where
  place_read : original.map_ram_read o addr ≡ ok (mapped next (result_of p)) → ReadSame banks size area past m o addr
  unfolding window.read_of
  place_read e =
      record {
        next = next;
        result = result_of p;
        is = e;
        byte = bytes_read p size area long inside ∙ ap (λ (w : Way). ok (window.read_by w size area addr)) (sym way);
        same = same area;
      }

  place_write : (byte : ℕ) → original.map_ram_write o addr byte ≡ ok (mapped next (result_of p))
      → WriteSame banks size area past m o addr byte
  unfolding window.area_after window.mapper_after
  place_write byte e =
      record {
        next = next;
        result = result_of p;
        is = e;
        ram =
            bytes_write p size area long inside byte
            ∙ ap (λ (w : Way). ok (take size (window.area_by w size area addr byte))) (sym way);
        same =
            subst (λ (w : Way). SameMapper banks size (window.area_by w size area addr byte) past
            (window.mapper_by w m byte) next)
            (sym way) (same (window.stored area p byte));
      }

pub read_same : (m : Mapper) (o : original.Mapper) (past : Since) {banks size : ℕ} {area : List ℕ} → Fit banks size area m
    → SameMapper banks size area past m o → (addr : ℕ) → in_ram addr ≡ true
    → ReadSame banks size area (since_after m past (reads addr)) m o addr
unfolding window.read_of
read_same (NoMapper m) o past {banks} {size} {area} f s addr i =
    place_read (NoMapper m) o (original.NoMapper (none_of size)) past addr (ram_place size 0 addr) f.long
    (ram_inside size 0 addr) refl (λ a. refl)
    (ap (λ (x : original.Mapper). original.map_ram_read x addr) s
    ∙ ap (boxed_result original.NoMapper) (none.ram_same size addr f.sized (limits (NoMapper m) banks size f.held).1))
read_same (Mbc1 m) o past {banks} {size} {area} f s addr i =
    place_read (Mbc1 m) o (original.Mbc1 (mbc1_of banks size m)) past addr (reg1.ram_at m size addr) f.long
    (our1.ram_at_inside m size addr) refl (λ a. refl)
    (ap (λ (x : original.Mapper). original.map_ram_read x addr) s
    ∙ ap (boxed_result original.Mbc1) (mbc1.ram_same banks size m addr (small f)))
read_same (Mbc2 m) o past {banks} {size} {area} f s addr i =
    record {
      next = original.Mbc2 (mbc2_of banks (drop size area) m);
      result = _;
      is =
          ap (λ (x : original.Mapper). original.map_ram_read x addr) s
          ∙ ap (boxed_result original.Mbc2)
          (mbc2.read_same banks (drop size area) m addr (half_long size area f.long)
          (octets_drop size area f.octets));
      byte = half_byte m (take size area) (drop size area) addr;
      same = refl;
    }
read_same (Mbc3 m) o past {banks} {size} {area} f (u, p, q) addr i = clock_read banks size area past m u q addr i f.long p
read_same (Mbc5 m) o past {banks} {size} {area} f s addr i =
    place_read (Mbc5 m) o (original.Mbc5 (mbc5_of banks size s.0 m)) past addr (reg5.ram_at m size addr) f.long
    (our5.ram_at_inside m size addr) refl (λ a. (s.0, refl))
    (ap (λ (x : original.Mapper). original.map_ram_read x addr) s.1
    ∙ ap (boxed_result original.Mbc5) (mbc5.ram_same banks size s.0 m addr (small f)))

pub write_same : (m : Mapper) (o : original.Mapper) (past : Since) {banks size : ℕ} {area : List ℕ} → Fit banks size area m
    → SameMapper banks size area past m o → (addr byte : ℕ) → in_ram addr ≡ true → byte < 256
    → Allowed m past (writes addr byte) (window.mapper_after m size addr byte) → WriteSame banks size area past m o addr byte
unfolding window.area_after window.mapper_after
write_same (NoMapper m) o past {banks} {size} {area} f s addr byte i l d =
    place_write (NoMapper m) o (original.NoMapper (none_of size)) past addr (ram_place size 0 addr) f.long
    (ram_inside size 0 addr) refl (λ a. refl) byte
    (ap (λ (x : original.Mapper). original.map_ram_write x addr byte) s
    ∙ ap (boxed_result original.NoMapper)
    (none.ram_write_same size addr byte f.sized (limits (NoMapper m) banks size f.held).1))
write_same (Mbc1 m) o past {banks} {size} {area} f s addr byte i l d =
    place_write (Mbc1 m) o (original.Mbc1 (mbc1_of banks size m)) past addr (reg1.ram_at m size addr) f.long
    (our1.ram_at_inside m size addr) refl (λ a. refl) byte
    (ap (λ (x : original.Mapper). original.map_ram_write x addr byte) s
    ∙ ap (boxed_result original.Mbc1) (mbc1.ram_write_same banks size m addr byte (small f)))
write_same (Mbc2 m) o past {banks} {size} {area} f s addr byte i l d =
    let after = our2.half_after m (drop size area) addr byte in
    let first = front size area f.long in
    record {
      next = original.Mbc2 (mbc2_of banks after m);
      result = NotMapped;
      is =
          ap (λ (x : original.Mapper). original.map_ram_write x addr byte) s
          ∙ ap (boxed_result original.Mbc2) (mbc2.write_same banks (drop size area) m addr byte (half_long size area f.long));
      ram = ap ok (sym (take_at (take size area) after size first));
      same = ap (λ (x : List ℕ). original.Mbc2 (mbc2_of banks x m)) (sym (drop_at (take size area) after size first));
    }
write_same (Mbc3 m) o past {banks} {size} {area} f
    (u, p, q) addr byte i l d = clock_write_lem banks size area past m u q addr byte i l d f.long p
write_same (Mbc5 m) o past {banks} {size} {area} f s addr byte i l d =
    place_write (Mbc5 m) o (original.Mbc5 (mbc5_of banks size s.0 m)) past addr (reg5.ram_at m size addr) f.long
    (our5.ram_at_inside m size addr) refl (λ a. (s.0, refl)) byte
    (ap (λ (x : original.Mapper). original.map_ram_write x addr byte) s.1
    ∙ ap (boxed_result original.Mbc5) (mbc5.ram_write_same banks size s.0 m addr byte (small f)))

-- ---- clocks

-- where one changes nothing, none do
still : (o : original.Mapper) → original.clock o ≡ ok o → (n : ℕ) → mapper_clocks n o ≡ ok o
still o e zero = refl
still o e (suc n) = ap (λ (x : Outcome original.Mapper). bind x original.clock) (still o e n) ∙ e

pub boxed_clocks : (u : rust3.Mbc3) (n : ℕ) → mapper_clocks n (original.Mbc3 u) ≡ boxed original.Mbc3 (follows.clocks_on n u)
unfolding follows.clocks_on
boxed_clocks u zero = refl
boxed_clocks u (suc n) =
    ap (λ (x : Outcome original.Mapper). bind x original.clock) (boxed_clocks u n) ∙ go (follows.clocks_on n u)
  where
    go : (x : Outcome rust3.Mbc3) → bind (boxed original.Mbc3 x) original.clock ≡ boxed original.Mbc3 (bind x rust3.clock)
    go (ok x) = refl
    go panic = refl

pub clocks_same : (m : Mapper) (o : original.Mapper) (past : Since) {banks size : ℕ} {area : List ℕ} → Fit banks size area m
    → SameMapper banks size area past m o → (n : ℕ) → Allowed m past (clocks n) (clocks_on m n)
    → NextSame banks size area (since_after m past (clocks n)) (clocks_on m n) (mapper_clocks n o)
clocks_same (NoMapper m) o past f s n d =
    record { next = o; is = still o (ap original.clock s ∙ ap ok (sym s)) n; same = s }
clocks_same (Mbc1 m) o past f s n d = record { next = o; is = still o (ap original.clock s ∙ ap ok (sym s)) n; same = s }
clocks_same (Mbc2 m) o past f s n d = record { next = o; is = still o (ap original.clock s ∙ ap ok (sym s)) n; same = s }
clocks_same (Mbc3 m) o past {banks} {size} f (u, p, q) n d =
    let x =
    mbc3.clocks_same banks size past m u q n (domain.in_time_lem m past n d.time)
    (domain.clocks_allowed banks size past m u q n d) in
    record {
      next = original.Mbc3 x.next;
      is = ap (mapper_clocks n) p ∙ boxed_clocks u n ∙ ap (boxed original.Mbc3) x.is;
      same = (x.next, refl, x.same);
    }
clocks_same (Mbc5 m) o past f s n d =
    record { next = o; is = still o (ap original.clock s.1 ∙ ap ok (sym s.1)) n; same = s }

-- ---- the history: a write and a read of the ROM leave it

pub past_write : (m : Mapper) (past : Since) (addr byte : ℕ) → since_after m past (writes addr byte) ≡ past
past_write (NoMapper m) past addr byte = refl
past_write (Mbc1 m) past addr byte = refl
past_write (Mbc2 m) past addr byte = refl
past_write (Mbc3 m) past addr byte = refl
past_write (Mbc5 m) past addr byte = refl

pub past_rom : (m : Mapper) (past : Since) (addr : ℕ) → addr < 0x8000 → since_after m past (reads addr) ≡ past
past_rom (NoMapper m) past addr h = refl
past_rom (Mbc1 m) past addr h = refl
past_rom (Mbc2 m) past addr h = refl
past_rom (Mbc3 m) past addr h =
    ap (λ (t : Bool). pick (both t (both (on_clock m) (not m.clock.latched))) (since 0 past.idle) past)
    (below_ram addr (omega arith))
past_rom (Mbc5 m) past addr h = refl

-- 17 is not given
timer_early : (m : declared3.Mbc3) (past : Since) (n : ℕ) → within m past (clocks n) ≡ true → late_of m n ≡ false
timer_early m past n e = go m.timer e
  where
    go : (t : Bool) → not (clock.late m.clock (pick t n (past.idle + n))) ≡ true → both t (clock.late m.clock n) ≡ false
    go true q = not_true (clock.late m.clock n) q
    go false q = refl

pub early : (m : Mapper) (past : Since) (n : ℕ) → in_time m past (clocks n) ≡ true → late m n ≡ false
early (NoMapper m) past n e = refl
early (Mbc1 m) past n e = refl
early (Mbc2 m) past n e = refl
early (Mbc3 m) past n e = timer_early m past n e
early (Mbc5 m) past n e = refl
