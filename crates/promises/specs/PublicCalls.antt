-- The public calls that refuse, each on any input: its tests, its answers, and the bytes that it is lent to write.
use Rattle.std.specs.Prelude.{false, not, List, [], ◌∷◌, ◌++◌, ℕ, ◌+◌, eqb, ltb, length, replicate, drop, Ok, Err, Some, Result, Option}
use Rattle.facts.specs.Choice.{pick}
use Rattle.facts.specs.Refusals.{No, no, in_words}
use Rattle.clock.specs.Fit.{fit_clock}
use Rattle.clock.specs.Ticking as clock
use Rattle.clock.specs.declared.AdvanceRefusal.{AdvanceRefusal}
use Rattle.clock.specs.declared.AdvanceRefusal.TheVariants.{Unfit, Late}
use Rattle.clock.specs.declared.Clock.{Clock}
use Rattle.clock_block.specs.Waking as block
use Rattle.clock_block.specs.declared.Block.{Block}
use Rattle.clock_block.specs.declared.BlockRefusal.{BlockRefusal}
use Rattle.header.specs.Check as header
use Rattle.header.specs.Check.{row_of, found_of, facts_of}
use Rattle.header.specs.Accepted.{tests_of}
use Rattle.header.specs.declared.Facts.{Facts}
use Rattle.header.specs.declared.HeaderRefusal.{HeaderRefusal}
use Rattle.mapper.specs.Mappers as mapper
use Rattle.battery.specs.Battery.{clock_in, battery_size}
use Rattle.cartridge.specs.Fit.{area_of}
use Rattle.cartridge.specs.With.{with_mapper}
use Rattle.cartridge.specs.declared.Cartridge.{Cartridge}
use Rattle.mount.specs.Mount as mount
use Rattle.mount.specs.Mount.{cart_of}
use Rattle.mount.specs.declared.MountRefusal.{MountRefusal}
use Rattle.mount.specs.declared.MountRefusal.TheVariants.{Header, WrongArea}
use Rattle.access.specs.Verdict as access
use Rattle.access.specs.declared.BusRefusal.{BusRefusal}
use Rattle.access.specs.declared.Target.TheVariants.{Rom, Ram}
use Rattle.bus.specs.Advance as advance
use Rattle.bus.specs.Bus as bus
use Rattle.save_file.specs.Admit as admit
use Rattle.save_file.specs.Save as save
use Rattle.save_file.specs.Load as load
use Rattle.save_file.specs.declared.SaveRefusal.{SaveRefusal}
use Rattle.trace.specs.Trace as trace
use Rattle.trace.specs.Noes.{trace_noes, taken_at}
use Rattle.trace.specs.declared.TraceRefusal.{TraceRefusal}
use Rattle.trace.specs.declared.Record.{Record}
use Rattle.lines.specs.Lines.{numbered}
use Rattle.replay_step.specs.Step.{machine}
use Rattle.replay_text.specs.Replay.{text_of}
use Rattle.replay_program.specs.Written.{written_of, ram_after}
use Rattle.promises.specs.Refusing.{Call}

-- ---- the header and mounting

-- what the header says
abbrev pub facts_in : List ℕ → Facts
facts_in image = facts_of image (row_of (found_of image))

-- `header::check`
abbrev pub checking : List ℕ → Call HeaderRefusal (Result Facts HeaderRefusal)
checking image =
    record {
      tests = tests_of image;
      number_of = header.number_of;
      refuse = Err;
      accepted = Ok (facts_in image);
      answer = header.check_of image;
      before = [];
      after = [];
    }

-- `mount::ask_area`
abbrev pub asking : List ℕ → Call HeaderRefusal (Result ℕ HeaderRefusal)
asking image =
    record {
      tests = tests_of image;
      number_of = header.number_of;
      refuse = Err;
      accepted = Ok (mount.area_in (facts_in image).kind (facts_in image).size);
      answer = mount.area_for image;
      before = [];
      after = [];
    }

-- Numbers 12: "the lent RAM area is not as long as the cartridge asks"
abbrev pub area_noes : List ℕ → ℕ → ℕ → List (No MountRefusal)
area_noes image ram wall = no (not (eqb ram (area_of (cart_of (facts_in image) (length image) wall)))) WrongArea ∷ []

-- Order 3: "A header is tested for 1 to 11, in the order of the numbers; a mounting goes on to 12."
unfoldable pub mount_noes : List ℕ → ℕ → ℕ → List (No MountRefusal)
mount_noes image ram wall = in_words Header (tests_of image) ++ area_noes image ram wall

-- `mount::mount`, of an image, a RAM area lent to be written, and a wall time
abbrev pub mounting : List ℕ → List ℕ → ℕ → Call MountRefusal (Result Cartridge MountRefusal)
mounting image ram wall =
    record {
      tests = mount_noes image (length ram) wall;
      number_of = mount.number_of;
      refuse = Err;
      accepted = Ok (cart_of (facts_in image) (length image) wall);
      answer = mount.mount_of image ram wall;
      before = ram;
      after = mount.area_after image ram wall;
    }

-- ---- the bus

-- `bus::read`. It selects nothing, so that its test for 16 never holds
abbrev pub reading : Cartridge → List ℕ → List ℕ → ℕ → Call BusRefusal (Result ℕ BusRefusal)
reading c rom ram addr =
    record {
      tests = access.noes c (bus.lent_both c (length rom) (length ram)) addr false;
      number_of = access.number_of;
      refuse = Err;
      accepted = bus.read_by c rom ram addr (pick (access.in_rom addr) (Ok Rom) (Ok Ram));
      answer = bus.read_of c rom ram addr;
      before = [];
      after = [];
    }

-- `bus::write`, which is lent the RAM area to write
abbrev pub writing : Cartridge → List ℕ → ℕ → ℕ → Call BusRefusal (Result Cartridge BusRefusal)
writing c ram addr byte =
    record {
      tests = access.noes c (bus.lent_area c (length ram)) addr (mapper.bad_selection c.mapper addr byte);
      number_of = access.number_of;
      refuse = Err;
      accepted = bus.write_by c addr byte (pick (access.in_rom addr) (Ok Rom) (Ok Ram));
      answer = bus.write_of c ram addr byte;
      before = ram;
      after = bus.area_after c ram addr byte;
    }

-- `bus::advance`
abbrev pub advancing : Cartridge → ℕ → Call AdvanceRefusal (Result Cartridge AdvanceRefusal)
advancing c n =
    record {
      tests = advance.advance_noes c n;
      number_of = clock.number_of;
      refuse = Err;
      accepted = Ok (with_mapper c (mapper.clocks_on c.mapper n));
      answer = advance.advance_of c n;
      before = [];
      after = [];
    }

-- `Clock::advance`
abbrev pub ticking : Clock → ℕ → Call AdvanceRefusal (Result Clock AdvanceRefusal)
ticking c n =
    record {
      tests = no (not (fit_clock c)) Unfit ∷ no (clock.late c n) Late ∷ [];
      number_of = clock.number_of;
      refuse = Err;
      accepted = Ok (clock.ticks n c);
      answer = clock.advance_of c n;
      before = [];
      after = [];
    }

-- ---- the save file

-- `save_file::save`, which is lent the room to write
abbrev pub saving : Cartridge → List ℕ → List ℕ → ℕ → Call SaveRefusal (Result ℕ SaveRefusal)
saving c ram room wall =
    record {
      tests = save.save_noes c ram (length room) wall;
      number_of = admit.number_of;
      refuse = Err;
      accepted = Ok (length (save.bytes_of c.mapper ram wall));
      answer = save.save_of c ram (length room) wall;
      before = room;
      after = save.room_after c ram room wall;
    }

-- `save_file::ask_room`
abbrev pub sizing : Cartridge → Call SaveRefusal (Result ℕ SaveRefusal)
sizing c =
    record {
      tests = save.ask_noes c;
      number_of = admit.number_of;
      refuse = Err;
      accepted = Ok (area_of c + battery_size (clock_in c.mapper));
      answer = save.room_for c;
      before = [];
      after = [];
    }

-- `save_file::load`, which is lent the RAM area to write
abbrev pub loading : Cartridge → List ℕ → List ℕ → ℕ → Call SaveRefusal (Result (Option Cartridge) SaveRefusal)
loading c ram bytes wall =
    record {
      tests = load.load_noes c (length ram) bytes wall;
      number_of = admit.number_of;
      refuse = Err;
      accepted = load.accepted_of c (drop (length ram) bytes) wall;
      answer = load.load_of c (length ram) bytes wall;
      before = ram;
      after = load.area_after c ram bytes wall;
    }

-- `Block::wake`
abbrev pub waking : Block → ℕ → Call BlockRefusal (Result Clock BlockRefusal)
waking b wall =
    record {
      tests = block.block_noes b wall;
      number_of = block.number_of;
      refuse = Err;
      accepted = Ok (block.woken_of b wall);
      answer = block.wake_of b wall;
      before = [];
      after = [];
    }

-- ---- the trace

-- `trace::next_record`, and with it `Reader::next`
abbrev pub stepping : List ℕ → ℕ → Call TraceRefusal (Result (Option (Record × ℕ)) TraceRefusal)
stepping s at =
    record {
      tests = trace_noes s at;
      number_of = trace.number_of;
      refuse = Err;
      accepted = taken_at s at;
      answer = trace.record_at s at;
      before = [];
      after = [];
    }

-- ---- the replay program

-- the area that an image asks for
abbrev pub asked_in : List ℕ → ℕ
asked_in image = mount.area_in (facts_in image).kind (facts_in image).size

-- Trace 5: "never more than 8,192 bytes; an image that asks for more is refused with 12"
abbrev pub large_noes : List ℕ → List (No MountRefusal)
large_noes image = no (ltb 8192 (asked_in image)) WrongArea ∷ []

unfoldable pub program_noes : List ℕ → List (No MountRefusal)
program_noes image = in_words Header (tests_of image) ++ large_noes image

-- Trace 5: "Where mounting is refused, all that it writes is `M` and the number": `M` is 77
abbrev pub mount_line : MountRefusal → List ℕ
mount_line w = numbered 77 (mount.number_of w)

-- `replay_program::write`, of two files that were read: its answer is all that it writes, and lent is the room for RAM
abbrev pub replaying : List ℕ → List ℕ → List ℕ → Call MountRefusal (List ℕ)
replaying image s ram =
    record {
      tests = program_noes image;
      number_of = mount.number_of;
      refuse = mount_line;
      accepted = text_of image (machine (cart_of (facts_in image) (length image) 0) (replicate (asked_in image) 0)) s;
      answer = written_of (Some image) (Some s);
      before = ram;
      after = ram_after (Some image) (Some s) ram;
    }
