-- Access by access: the original does not panic, gives the byte that we give, and its state stays the one that goes with ours.
use Rattle.std.specs.Prelude.{Ok, Some, None}
use mathlib.Core.Bool.{Bool, true, false}
use mathlib.Core.List.{List, ◌++◌}
use mathlib.Core.Path.{◌≡◌, refl, sym, ap, ◌∙◌, subst}
use Prim.Native.Nat.{ℕ, ◌+◌, ◌*◌, ◌%◌, ◌<◌, ◌≤◌}
use native.Mathlib.Omega.{arith}
use lib.Dec.{eqb}
use lib.ListN.{take, drop, take-append-drop}
use borrow.Author.Tests.{leb-true}
use Rattle.facts.specs.Choice.{pick, both, either}
use Rattle.facts.specs.Listed.{one_of}
use Rattle.facts.proofs.ChoiceLaws.{both_parts, not_true, pick_has}
use Rattle.facts.proofs.ListLaws.{part_set}
use Rattle.bytes_le.specs.Little.{Octets}
use Rattle.bytes_le.proofs.OctetLaws.{octets_set}
use Rattle.image.specs.Image.{padded_length}
use Rattle.header.specs.Size.{ram_sizes}
use Rattle.mbc2.specs.Registers as our2
use Rattle.mbc2.specs.declared.Mbc2 as declared2
use Rattle.mapper.specs.Mappers as mapper
use Rattle.mapper.specs.declared.Mapper.{Mapper}
use Rattle.window.specs.Window as window
use Rattle.window.specs.declared.Way.{Way}
use Rattle.window.specs.declared.Way.TheVariants.{Bytes, Half, Timer}
use Rattle.cartridge.specs.Fit.{bank_counts, fit_board}
use Rattle.cartridge.specs.With.{with_mapper}
use Rattle.cartridge.specs.declared.Cartridge as our
use Rattle.cartridge.proofs.Laws.{fit_board_lem, fit_registers_lem, fit_banks}
use Rattle.access.specs.Verdict.{in_rom, in_ram}
use Rattle.access.proofs.Laws.{ram_bounds}
use Rattle.access.specs.declared.Target.TheVariants.{Rom, Ram}
use Rattle.bus.specs.Bus.{rom_byte, read_by, write_by, area_by}
use Rattle.bus.specs.Run as run
use Rattle.bus.specs.Run.{Access, Machine, after_read, after_write, step_of, Ready}
use Rattle.runs.specs.Calls.{Octet}
use Rattle.runs.proofs.StepLaws.{read_step, write_step, clock_step}
use Rattle.original.specs.Machine.{ok}
use Rattle.original.specs.Cartridge as cartridge
use Rattle.original.specs.Cartridge.{Cartridge, read_at, write_at}
use Rattle.original.specs.Same.{Same, Fit}
use Rattle.original.specs.Step.{left, original_step}
use Rattle.original.specs.Domain.{Since, since_after, Allowed}
use Rattle.original.specs.Along.{Stepped}
use Rattle.original.proofs.StepForms as forms
use Rattle.original.proofs.MapperLaws.{rom0_same, romx_same, register_same, read_same, write_same, clocks_same, past_write, past_rom, early}

-- ---- bytes stay bytes

half_octets : (m : declared2.Mbc2) (size : ℕ) (area : List ℕ) (addr byte : ℕ) → Octets area
    → Octets (take size area ++ our2.half_after m (drop size area) addr byte)
unfolding our2.half_after
half_octets m size area addr byte o =
    pick_has (λ (x : List ℕ). Octets (take size area ++ x)) m.enabled
    (subst Octets (sym (part_set size area (addr % 512) (byte % 16)))
    (octets_set area (size + addr % 512) (byte % 16) o (omega arith)))
    (subst Octets (sym (take-append-drop size area)) o)

way_octets : (w : Way) (size : ℕ) (area : List ℕ) (addr byte : ℕ) → Octets area → byte < 256
    → Octets (window.area_by w size area addr byte)
way_octets (Bytes (Some i)) size area addr byte o h = octets_set area i byte o h
way_octets (Bytes None) size area addr byte o h = o
way_octets (Half m) size area addr byte o h = half_octets m size area addr byte o
way_octets (Timer m) size area addr byte o h = o

pub window_octets : (m : Mapper) (size : ℕ) (area : List ℕ) (addr byte : ℕ) → Octets area → byte < 256
    → Octets (window.area_after m size area addr byte)
unfolding window.area_after
window_octets m size area addr byte o h = way_octets (window.way_of m size addr) size area addr byte o h

-- ---- what a ready machine knows

fit_of : {rom : List ℕ} {past : Since} {m : Machine} {o : Cartridge} → Ready rom m → Same rom past m o
    → Fit m.cart.banks m.cart.size m.area m.cart.mapper
unfolding fit_board
fit_of {m = m} r s =
    let c = m.cart in
    let board = both_parts (both (one_of c.banks bank_counts) (eqb (padded_length c.length) (c.banks * 0x4000))) _
    (fit_board_lem c r.fit) in
    let ram = both_parts (one_of c.size ram_sizes) _ board.1 in
    record {
      banked = fit_banks c r.fit;
      sized = ram.0;
      held = ram.1;
      registers = fit_registers_lem c r.fit;
      long = r.area;
      octets = s.octets;
    }

-- ---- one access

module _ {image : List ℕ} {past : Since} {m : Machine} {o : Cartridge} (r : Ready image m) (s : Same image past m o) where
  abbrev board : our.Cartridge
  board = m.cart

  known : Fit board.banks board.size m.area board.mapper
  known = fit_of r s

  -- a read below 0x8000
  rom_read : (addr : ℕ) → addr < 0x8000 → original_step o (run.reads addr) ≡ ok (left (run.gave (rom_byte board image addr)) o)
  rom_read addr h =
      forms.rom_read image board o r.fit r.image s.rom addr h
      (λ l. rom0_same board.mapper o.mapper past known s.mapper addr l)
      (λ l. romx_same board.mapper o.mapper past known s.mapper addr l h)

  -- and one of the window
  ram_read : (addr : ℕ) → in_ram addr ≡ true
      → Stepped image (since_after board.mapper past (run.reads addr)) o (run.reads addr)
      (record { answer = run.gave (window.read_of board.mapper board.size m.area addr); left = m })
  ram_read addr i =
      let x = read_same board.mapper o.mapper past known s.mapper addr i in
      let p = ram_bounds addr i in
      record {
        next = cartridge.with_mapper o x.next;
        is =
            forms.window_read_lem o addr x.next x.result _ p.0 p.1 x.is
            (ap (λ (ram : List ℕ). read_at ram x.result) s.ram ∙ x.byte);
        same = record { rom = s.rom; ram = s.ram; octets = s.octets; mapper = x.same };
      }

  -- a register write
  rom_write : (addr byte : ℕ) → byte < 256 → addr < 0x8000
      → Allowed board.mapper past (run.writes addr byte) (mapper.written board.mapper addr byte)
      → Stepped image past o (run.writes addr byte)
      (record {
        answer = run.took;
        left = record { cart = with_mapper board (mapper.written board.mapper addr byte); area = m.area };
      })
  rom_write addr byte b h d =
      let x = register_same board.mapper o.mapper past known s.mapper addr byte h b d in
      record {
        next = cartridge.with_mapper o x.next;
        is = forms.register_write o addr byte (ok x.next) h x.is;
        same = record { rom = s.rom; ram = s.ram; octets = s.octets; mapper = x.same };
      }

  -- a write to the window
  ram_write : (addr byte : ℕ) → byte < 256 → in_ram addr ≡ true
      → Allowed board.mapper past (run.writes addr byte) (window.mapper_after board.mapper board.size addr byte)
      → Stepped image past o (run.writes addr byte)
      (record {
        answer = run.took;
        left =
            record {
              cart = with_mapper board (window.mapper_after board.mapper board.size addr byte);
              area = window.area_after board.mapper board.size m.area addr byte;
            };
      })
  ram_write addr byte b i d =
      let x = write_same board.mapper o.mapper past known s.mapper addr byte i b d in
      let p = ram_bounds addr i in
      let after = window.area_after board.mapper board.size m.area addr byte in
      record {
        next = cartridge.with_ram o x.next (take board.size after);
        is =
            forms.window_write_lem o addr byte x.next x.result (take board.size after) p.0 p.1 x.is
            (ap (λ (ram : List ℕ). write_at ram x.result byte) s.ram ∙ x.ram);
        same =
            record {
              rom = s.rom;
              ram = refl;
              octets = window_octets board.mapper board.size m.area addr byte s.octets b;
              mapper = x.same;
            };
      }

  -- clocks
  clocks : (n : ℕ) → Allowed board.mapper past (run.clocks n) (mapper.clocks_on board.mapper n)
      → Stepped image (since_after board.mapper past (run.clocks n)) o (run.clocks n)
      (record {
        answer = run.took;
        left = record
            { cart = with_mapper board (mapper.clocks_on board.mapper n); area = m.area };
      })
  clocks n d =
      let x = clocks_same board.mapper o.mapper past known s.mapper n d in
      record {
        next = cartridge.with_mapper o x.next;
        is = forms.clocks_pass o n (ok x.next) x.is;
        same = record { rom = s.rom; ram = s.ram; octets = s.octets; mapper = x.same };
      }

-- ---- the theorem

-- what an access leaves of the history
abbrev pub later : Machine → Since → Access → Since
later m past a = since_after m.cart.mapper past a

pub step_same : {image : List ℕ} {past : Since} {m : Machine} {o : Cartridge} → Ready image m → Same image past m o
    → (a : Access) → Octet a → Allowed m.cart.mapper past a (step_of image m a).left.cart.mapper
    → Stepped image (later m past a) o a (step_of image m a)
step_same {image} {past} {m} {o} r s (run.reads addr) b d =
    subst (Stepped image (later m past (run.reads addr)) o (run.reads addr)) (sym (read_step r addr d.address))
    (go (in_rom addr) refl d.address)
  where
    go : (t : Bool) → in_rom addr ≡ t → either t (in_ram addr) ≡ true
        → Stepped image (later m past (run.reads addr)) o (run.reads addr)
        (after_read m (read_by m.cart image m.area addr (pick t (Ok Rom) (Ok Ram))))
    go true e v =
        let h : addr ≤ 0x7FFF = leb-true addr 0x7FFF e in
        record {
          next = o;
          is = rom_read r s addr (omega arith);
          same = subst (λ (x : Since). Same image x m o) (sym (past_rom m.cart.mapper past addr (omega arith))) s;
        }
    go false e v = ram_read r s addr v
step_same {image} {past} {m} {o} r s (run.writes addr byte) b d =
    let e = write_step r addr byte d.address (not_true _ d.selection) in
    subst (Stepped image (later m past (run.writes addr byte)) o (run.writes addr byte)) (sym e)
    (subst (λ (x : Since). Stepped image x o (run.writes addr byte) (wrote (in_rom addr)))
    (sym (past_write m.cart.mapper past addr byte))
    (go (in_rom addr) refl d.address
    (subst (λ (x : run.Left). Allowed m.cart.mapper past (run.writes addr byte) x.left.cart.mapper) e d)))
  where
    wrote : Bool → run.Left
    wrote t =
        after_write m (write_by m.cart addr byte (pick t (Ok Rom) (Ok Ram)))
        (area_by m.cart m.area addr byte (pick t (Ok Rom) (Ok Ram)))

    go : (t : Bool) → in_rom addr ≡ t → either t (in_ram addr) ≡ true
        → Allowed m.cart.mapper past (run.writes addr byte) (wrote t).left.cart.mapper
        → Stepped image past o (run.writes addr byte) (wrote t)
    go true e v a =
        let h : addr ≤ 0x7FFF = leb-true addr 0x7FFF e in rom_write r s addr byte b (omega arith) a
    go false e v a = ram_write r s addr byte b v a
step_same {image} {past} {m} {o} r s (run.clocks n) b d =
    let e = clock_step r n (early m.cart.mapper past n d.time) in
    subst (Stepped image (later m past (run.clocks n)) o (run.clocks n)) (sym e)
    (clocks r s n (subst (λ (x : run.Left). Allowed m.cart.mapper past (run.clocks n) x.left.cart.mapper) e d))
