-- Demand 2: "The verdict on a header, the byte that an address reads and the RAM that a write changes are the Rust's, for every image up to
-- 8 MiB and every sequence of accesses, within Original 1 to 4." First what the definitions say, then that the Rust, written down as
-- definitions in `original`, answers alike. The theorems speak of `check_of`, `mount_of`, `run_of` and what is below them: the contracts
-- say that the code's answers, and every byte of the lent RAM area, equal these on all inputs.
use Rattle.std.specs.Prelude.{Ok, Err, Some, Result}
use mathlib.Core.Bool.{Bool, true, false}
use mathlib.Core.List.{List}
use mathlib.Core.Logic.{◌↔◌, ◌⊎◌}
use mathlib.Core.Option.{Option, none, some}
use mathlib.Core.Path.{◌≡◌, refl, ap}
use Prim.Native.Nat.{ℕ, ◌+◌, ◌%◌, ◌^◌, ◌<◌, ◌≤◌}
use lib.Count.{ones, count_trailing_zeros}
use lib.ListN.{get_or, length, take, drop, replicate}
use Rattle.bytes_le.specs.Little as bytes
use Rattle.banking.specs.Banks.{or_one}
use Rattle.clock.specs.declared.Clock.{Clock}
use Rattle.clock_block.specs.Layout.{block_in}
use Rattle.clock_block.specs.Waking.{late, block_of}
use Rattle.clock_block.specs.declared.BlockRefusal.TheVariants.{Late}
use Rattle.utf8.specs.Utf8.{Octets, is_utf8}
use Rattle.utf8.proofs.Grammar.{takes, has}
use Rattle.image.specs.Image.{byte_at, padded_length, sum_from, checksum_of}
use Rattle.image.proofs.title.Reads as answered
use Rattle.header.specs.Size.{mends, Power, rom_fits}
use Rattle.header.specs.Check as header
use Rattle.header.specs.Check.{check_of}
use Rattle.header.specs.Accepted.{Fitting, Agree}
use Rattle.header.specs.declared.HeaderRefusal.{HeaderRefusal}
use Rattle.header.specs.declared.HeaderRefusal.TheVariants.{Beyond}
use Rattle.header.specs.declared.Facts.{Facts}
use Rattle.header.proofs.SizeLaws.{mends_power, power_mends}
use Rattle.header.proofs.AcceptedLaws.{accepted_only, accepted_fits}
use Rattle.header.proofs.LocalLaws.{same_verdict}
use Rattle.mbc1.specs.Registers as mbc1
use Rattle.mbc2.specs.declared.Mbc2.{Mbc2}
use Rattle.mapper.specs.declared.Mapper.TheVariants as mapper
use Rattle.battery.specs.Battery.{clock_in, has_clock}
use Rattle.cartridge.specs.declared.Cartridge.{Cartridge}
use Rattle.save_file.specs.Save.{save_of, room_after}
use Rattle.save_file.specs.declared.SaveRefusal.TheVariants.{NoBattery, ShortSave, Block}
use Rattle.mount.specs.Mount as mount
use Rattle.mount.specs.Mount.{mount_of}
use Rattle.mount.specs.declared.MountRefusal.{MountRefusal}
use Rattle.bus.specs.Bus.{area_after}
use Rattle.bus.specs.Run.{Access, Answer, Machine, step_of, run_of, Ready}
use Rattle.bus.specs.Run as run
use Rattle.states.specs.Layout.{encode_of}
use Rattle.states.specs.Reading.{decode_of}
use Rattle.player.specs.Header.{facts_of, facts_after}
use Rattle.player.proofs.imf_header.Reads as imf-header
use Rattle.player.proofs.imf_mount.Reads as imf-mount
use Rattle.player.proofs.imf_windows.Reads as imf-windows
use Rattle.runs.specs.Padded.{padded}
use Rattle.runs.specs.Limits.{Within}
use Rattle.runs.specs.Game.{Game, mounted_machine, answer_to, Accepted, Readable, begins}
use Rattle.runs.specs.Calls.{Calls, AtMostOne}
use Rattle.runs.specs.Calls as calls
use Rattle.runs.specs.Kept.{kept_answers}
use Rattle.runs.proofs.ImageLaws as image
use Rattle.runs.proofs.BusLaws as laws
use Rattle.runs.proofs.RunLaws as sequence
use Rattle.original.specs.Machine.{ok, panic, u64}
use Rattle.original.specs.Cartridge as rust
use Rattle.original.specs.Cartridge.{CartridgeError, taken, error, from_file, with_ram}
use Rattle.original.specs.Same.{Same, mbc2_of}
use Rattle.original.specs.Domain.{Since, in_time}
use Rattle.original.specs.Beyond.{BeyondGives}
use Rattle.original.specs.Verdict.{number_of, cartridge_of, ImageInDomain}
use Rattle.original.proofs.Original as original
use Rattle.original.specs.Step.{original_step, original_run}
use Rattle.original.specs.Mapper as original-mapper
use Rattle.original.specs.Mbc3 as rust-mbc3
use Rattle.board.specs.Reach.{InReach}
use Rattle.board.specs.Beside.{SameBoard}
use Rattle.board.specs.Alike.{RunsBeside}
use Rattle.board.proofs.Board as board
use Rattle.refused.specs.Served.{Unserved}
use Rattle.refused.proofs.BusLaws.{fifteen_unserved, sixteen_stops, panic_refused}
use Rattle.refused.proofs.ClockLaws.{seventeen_stops}
use Rattle.original_saves.specs.SramFile.{from_file_with, save_sram_file, buffer}
use Rattle.original_saves.specs.Written.{WritesRam, BlockOurs}
use Rattle.original_saves.specs.ReadIn.{CutInTime, CutBlock, Prompt, ReadsRam}
use Rattle.original_saves.specs.Agrees.{given, ClockHolds, NothingDue, Unseen, CutHarmless, GameAgrees}
use Rattle.original_saves.proofs.StopLaws as stop
use Rattle.original_saves.proofs.RefusedLaws as saves
use Rattle.original_saves.proofs.Games as games
use Rattle.title_part.specs.Part.{TitlePart}
use Rattle.title_part.specs.Answered.{AnswersTitle}
use Rattle.title_part.proofs.Title as title
use Rattle.shipped.specs.Along.{Out, Outs, outs}
use Rattle.shipped.specs.Sequence.{Kept, kept}
use Rattle.shipped.specs.Ships.{kept_of}
use Rattle.shipped.specs.Requests.{Request, Reply, serves_of}
use Rattle.shipped.specs.Requests as requests
use Rattle.shipped.specs.Held.{lent_of, on_lents, Stands, Own}
use Rattle.shipped.specs.Through.{Watched, watched, watched_of, Watches}
use Rattle.shipped.specs.Agrees.{VerdictAgrees, ShippedAgrees}
use Rattle.shipped.specs.Made.{Call, AllMade, MadeRequest, AllRequested, AllMadeThrough, AllMadeAny}
use Rattle.shipped.specs.Mounted.{MountsBy, kept_by, mounted_by, game_by, watched_by, area_number}
use Rattle.shipped.proofs.Mounted as mounting
use Rattle.shipped.proofs.MadeSaves as shipped
use Rattle.shipped.proofs.AnyBytes as any-bytes
use Rattle.shipped.proofs.MadeThrough as through
use Rattle.shipped.proofs.AllCalls as windows
use Rattle.shipped.proofs.Verdict as verdict
use Rattle.shipped.proofs.Demand2 as ships
use Rattle.promises.specs.PublicCalls.{facts_in}

-- ---- Against the definitions

-- 1. Demand 2: "The verdict on a header". An image is accepted with what its header says and nothing else,
pub accepted_facts : (s : List ℕ) (d : Facts) → check_of s ≡ Ok d → d ≡ facts_in s
accepted_facts s d e = (accepted_only s d e).1

-- its banks and RAM are within its mapper's limits,
pub accepted_within : (s : List ℕ) (d : Facts) → check_of s ≡ Ok d → Within d.kind d.banks d.size
accepted_within s d e =
    let f = accepted_fits s d e in image.within d.kind d.banks d.size f.supported f.limit

-- the bank count is a power of two from 2 on, the padded length that many banks, a multicart's 64, the RAM size one of six.
pub accepted_is_fitting : (s : List ℕ) (d : Facts) → check_of s ≡ Ok d → Fitting s d
accepted_is_fitting = accepted_fits

-- Header 1: "An image counts as padded: zeros follow it .. So a byte past its end is 0.": the image read as padded is the padded image.
pub padded_length_lem : (s : List ℕ) → length (padded s) ≡ padded_length (length s)
padded_length_lem = image.padded_length_lem

pub padded_byte : (s : List ℕ) (i : ℕ) → get_or (padded s) i 0 ≡ byte_at s i
padded_byte = image.padded_byte

-- Header 7: "the quotient has a single bit set, with at most seven zeros below it": that is a power of two of at most 128.
pub mends_powers : (q : ℕ) → q < 4294967296 → mends q ≡ true → Power q
mends_powers = mends_power

pub powers_mend : (k : ℕ) → k ≤ 7 → mends (2 ^ k) ≡ true
powers_mend = power_mends

-- Header 7: "So 8 MiB with code 0, a quotient of 256, is refused, and with code 1 taken."
pub quotient_256 : rom_fits 8388608 0 ≡ false
unfolding rom_fits mends ones count_trailing_zeros
quotient_256 = refl

pub quotient_128 : rom_fits 8388608 1 ≡ true
unfolding rom_fits mends ones count_trailing_zeros
quotient_128 = refl

-- The checksum makes the sum of the 25 bytes, their count and itself a multiple of 256.
pub checksum_whole : (s : List ℕ) → (checksum_of s + (sum_from s 0x134 25 + 25)) % 256 ≡ 0
checksum_whole = image.checksum_whole

-- The title's reader takes exactly the octets of RFC 3629's grammar.
pub utf8_exactly : (s : List ℕ) → (is_utf8 s ≡ true) ↔ Octets s
utf8_exactly s = (has s, takes)

-- Bytes past 0x14D matter only through the length and, on MBC1 of 0x100000 bytes, the three other logos.
pub verdict_is_local : (s t : List ℕ) → Agree s t → check_of s ≡ check_of t
verdict_is_local = same_verdict

-- 2. Demand 2: "the RAM that a write changes". First Bus 2: "An accepted mounting makes every byte of the RAM area 0.";
pub mount_zeroes : (image ram : List ℕ) (wall : ℕ) (c : Cartridge) → mount_of image ram wall ≡ Ok c
    → mount.area_after image ram wall ≡ replicate (length ram) 0
unfolding mount.area_after
mount_zeroes image ram wall c e = ap (λ (x : Result Cartridge MountRefusal). mount.area_by x ram) e

-- a write changes at most one byte of the area, below 0x8000 none, and a read changes nothing.
pub write_changes_one : (c : Cartridge) (ram : List ℕ) (addr byte : ℕ) → AtMostOne ram (area_after c ram addr byte)
write_changes_one = laws.write_one

pub register_write_changes_none : (c : Cartridge) (ram : List ℕ) (addr byte : ℕ) → addr < 0x8000 → area_after c ram addr byte ≡ ram
register_write_changes_none = laws.register_area

pub read_changes_nothing : (rom : List ℕ) (m : Machine) (addr : ℕ) → (step_of rom m (run.reads addr)).left ≡ m
read_changes_nothing = sequence.read_left

-- 3. Demand 2: "the byte that an address reads", where the slips of Promise 5 would show. MBC1: in mode 0 the two-bit register moves
-- neither 0x0000..=0x3FFF nor the RAM bank,
pub mode_0_low_window : (multicart enabled : Bool) (low two : ℕ) → mbc1.bank0 (mbc1.mbc1 multicart enabled false low two) ≡ 0
unfolding mbc1.bank0
mode_0_low_window multicart enabled low two = refl

pub mode_0_ram_bank : (multicart enabled : Bool) (low two : ℕ) → mbc1.ram_bank (mbc1.mbc1 multicart enabled false low two) ≡ 0
unfolding mbc1.ram_bank
mode_0_ram_bank multicart enabled low two = refl

-- and the zero test stands before the multicart's mask: a zero in five bits becomes 1, and 0x10 in five bits becomes 0.
pub zero_becomes_1 : (multicart : Bool) (byte : ℕ) → byte % 32 ≡ 0 → mbc1.low_of multicart byte ≡ 1
unfolding mbc1.low_of or_one
zero_becomes_1 true byte e = rw e
zero_becomes_1 false byte e = rw e

pub sixteen_becomes_0 : (byte : ℕ) → byte % 32 ≡ 16 → mbc1.low_of true byte ≡ 0
unfolding mbc1.low_of or_one
sixteen_becomes_0 byte e = rw e

-- 4. Demand 2: "every sequence of accesses": calls made one after the other on any machine, each answered as its contract allows, give
-- exactly the answers of `run_of`, and leave what it leaves.
pub calls_are_run : {rom : List ℕ} {m n : Machine} {accesses : List Access} {xs : List Answer} → Calls rom m accesses xs n
    → (xs ≡ (run_of rom m accesses).answers) × (n ≡ (run_of rom m accesses).left)
calls_are_run = sequence.calls_run

-- ---- Against the Rust

-- 5. Demand 2: "The verdict on a header .. for every image up to 8 MiB", of bytes, that 11 does not refuse: the Rust does not panic,
pub rust_does_not_panic : (image : List ℕ) (now : ℕ) → ImageInDomain image → from_file image now ≡ panic → ⊥
rust_does_not_panic = original.no_panic

-- takes what we accept, with our facts, and only that,
pub rust_takes_what_we_accept : (image : List ℕ) (now : ℕ) → ImageInDomain image → (d : Facts) → check_of image ≡ Ok d
    → from_file image now ≡ ok (taken (cartridge_of image now d))
rust_takes_what_we_accept = original.taken_if

pub we_accept_what_rust_takes : (image : List ℕ) (now : ℕ) → ImageInDomain image → (o : rust.Cartridge)
    → from_file image now ≡ ok (taken o) → (d : Facts) × (check_of image ≡ Ok d) × (o ≡ cartridge_of image now d)
we_accept_what_rust_takes = original.taken_only

-- and errs where we refuse, with the error of our number, and only there.
pub rust_errs_where_we_refuse : (image : List ℕ) (now : ℕ) → ImageInDomain image → (w : HeaderRefusal) → check_of image ≡ Err w
    → (e : CartridgeError) × (from_file image now ≡ ok (error e)) × (number_of e ≡ header.number_of w)
rust_errs_where_we_refuse = original.erred_if

pub we_refuse_where_rust_errs : (image : List ℕ) (now : ℕ) → ImageInDomain image → (e : CartridgeError)
    → from_file image now ≡ ok (error e) → (w : HeaderRefusal) × (check_of image ≡ Err w) × (number_of e ≡ header.number_of w)
we_refuse_where_rust_errs = original.erred_only

-- 6. Demand 2: "the byte that an address reads and the RAM that a write changes .. for .. every sequence of accesses": any game with its
-- save file, or none, any list of accesses of bytes, refused ones among them, whatever the clock does, and any answers xs that our calls
-- give to it and leave n. The Rust mounts the image, is given what we don't refuse, and never panics; it gives the answers xs, of clock
-- registers within Original 3, leaves the RAM that we leave, and writes a save that begins with it (`GameAgrees`).
pub game_agrees : (g : Game) (file : Option (List ℕ)) → Readable g file → CutHarmless g file → (accesses : List Access)
    → calls.Octets accesses → Unseen g file accesses → {xs : List Answer} {n : Machine} → Calls g.image (begins g file) accesses xs n
    → GameAgrees g file accesses xs n
game_agrees = games.game_agrees

-- Where the sequence keeps the clock's clauses, every answer is ours,
pub inside_agrees : {g : Game} {file : Option (List ℕ)} {accesses : List Access} {xs : List Answer} {n : Machine}
    → (a : GameAgrees g file accesses xs n) → ClockHolds g file accesses
    → original_run a.start (given g file accesses) ≡ ok (record { answers = kept_answers xs; left = a.left })
inside_agrees = games.inside_agrees

-- and every byte of the 21 behind the RAM exactly where no second is due;
pub save_is_ours : {g : Game} {file : Option (List ℕ)} {accesses : List Access} → calls.Octets accesses
    → {xs : List Answer} {n : Machine} → Calls g.image (begins g file) accesses xs n → (a : GameAgrees g file accesses xs n)
    → ClockHolds g file accesses → (now : ℕ) → NothingDue g file accesses n ↔ BlockOurs n now (a.writes now).behind
save_is_ours = games.save_is_ours

-- the room of our own call then begins with the Rust's file.
pub room_is_file : (m : Machine) (o : rust.Cartridge) (now : ℕ) (w : WritesRam m o now) → BlockOurs m now w.behind → (room : List ℕ) (k : ℕ)
    → save_of m.cart m.area (length room) now ≡ Ok k → save_sram_file o now ≡ ok (take k (room_after m.cart m.area room now))
room_is_file = games.room_is_file

-- The same from any point of a game on, where the Rust's state stands beside ours.
pub run_agrees : {image : List ℕ} {past : Since} {m : Machine} {o : rust.Cartridge} {held : Type 0} → Ready image m
    → SameBoard image past.idle m o → (held → Same image past m o) → (accesses : List Access) → calls.Octets accesses
    → InReach image m past accesses → RunsBeside image m past held o accesses
run_agrees = board.board_run

-- 7. A save that we accept the Rust reads to our RAM, a block that is cut short with it, if that does not stop it.
pub rust_reads_our_save : (g : Game) (save : List ℕ) → bytes.Octets save → Accepted (answer_to (mounted_machine g) save g.wall)
    → CutInTime (mounted_machine g) save g.wall → ReadsRam g save
rust_reads_our_save = stop.accepted_ram_read

-- The premise of 6 on such a block holds where no byte stands behind the RAM area,
pub no_block_is_harmless : (m : Machine) (save : List ℕ) (wall : ℕ) → wall < u64 → length save ≤ length m.area → CutBlock m save wall
no_block_is_harmless = games.no_block_harmless

-- and the one on the clock of a save that was read holds of what we save, by Save 10, but for minute 60 and hour 24.
pub way_back_goes_on : (k : Clock) (wall : ℕ) → wall ≤ k.time → (k.running.minute ≡ 60 → ⊥) → (k.running.hour ≡ 24 → ⊥)
    → Prompt (block_of k wall) wall
way_back_goes_on = games.way_back_prompt

-- Where we refuse one with 18 it reads none,
pub rust_reads_none_at_18 : (g : Game) (save : List ℕ) → answer_to (mounted_machine g) save g.wall ≡ Err NoBattery
    → from_file_with g.image g.wall (some save) ≡ from_file g.image g.wall
rust_reads_none_at_18 = saves.rust_at_18

-- with 19 none either, but for an MBC2's that has the header's RAM:
pub rust_reads_none_at_19 : (g : Game) (save : List ℕ) → answer_to (mounted_machine g) save g.wall ≡ Err ShortSave
    → (from_file_with g.image g.wall (some save) ≡ from_file g.image g.wall)
    ⊎ ((k : Mbc2) × (g.cart.mapper ≡ mapper.Mbc2 k) × (g.cart.battery ≡ true) × (g.cart.size ≤ length save))
rust_reads_none_at_19 = saves.rust_at_19

-- that one it takes, with zeros for the half-bytes that are missing;
pub rust_fills_half_bytes : (g : Game) (save : List ℕ) (k : Mbc2) → g.cart.mapper ≡ mapper.Mbc2 k → g.cart.battery ≡ true
    → g.cart.size ≤ length save
    → (o : rust.Cartridge) × (from_file g.image g.wall ≡ ok (taken o))
    × (from_file_with g.image g.wall (some save)
    ≡ ok
    (taken (with_ram o (original-mapper.Mbc2 (mbc2_of g.cart.banks (buffer 512 (drop g.cart.size save)) k)) (take g.cart.size save))))
rust_fills_half_bytes = saves.half_bytes_filled

-- with 17 it panics,
pub rust_panics_at_17_of_a_save : (g : Game) (save : List ℕ) → answer_to (mounted_machine g) save g.wall ≡ Err (Block Late)
    → from_file_with g.image g.wall (some save) ≡ panic
rust_panics_at_17_of_a_save = saves.rust_at_17

-- and every other one of a cartridge with a timer, 20 too, it reads to the save's RAM.
pub rust_reads_the_ram : (g : Game) → g.cart.battery ≡ true → has_clock (clock_in g.cart.mapper) ≡ true → (save : List ℕ)
    → g.cart.size ≤ length save → late (block_in (drop g.cart.size save)) g.wall ≡ false
    → (o : rust.Cartridge) × (from_file_with g.image g.wall (some save) ≡ ok (taken o)) × (o.ram ≡ take g.cart.size save)
rust_reads_the_ram = stop.timer_ram_read

-- 8. Nothing is refused without need. Where 11 is given the Rust panics, or it is an MBC1 above 128 banks,
pub rust_panics_at_11 : (image : List ℕ) (now : ℕ) → bytes.Octets image → check_of image ≡ Err Beyond
    → BeyondGives (header.row_of (header.found_of image)).1 (header.banks_of image) (from_file image now)
rust_panics_at_11 = original.eleven_stops

-- where 15 is given it serves no such address, in no state,
pub rust_serves_no_15 : (rom : List ℕ) (m : Machine) (a : Access) → (step_of rom m a).answer ≡ run.refused 15 → Unserved a
rust_serves_no_15 = fifteen_unserved

-- where 16 is given every MBC3 of the Rust's panics, whatever its state,
pub rust_panics_at_16 : (o : rust.Cartridge) (u : rust-mbc3.Mbc3) → o.mapper ≡ original-mapper.Mbc3 u → (rom : List ℕ) (m : Machine) (a : Access)
    → (step_of rom m a).answer ≡ run.refused 16 → original_step o a ≡ panic
rust_panics_at_16 = sixteen_stops

-- and at any point of a game it panics where 17 is, of an advance.
pub rust_panics_at_17 : {g : Game} {file : Option (List ℕ)} {accesses : List Access} {xs : List Answer} {n : Machine} → g.wall < 2 ^ 64
    → calls.Octets accesses → Calls g.image (begins g file) accesses xs n → (x : GameAgrees g file accesses xs n) → (k : ℕ)
    → (step_of g.image n (run.clocks k)).answer ≡ run.refused 17 → original_step x.left (run.clocks k) ≡ panic
rust_panics_at_17 {g} {file} {accesses} h o made x k = seventeen_stops x.beside k (ships.game_in_time g file h accesses o made)

-- And where the Rust panics, and no time passes 2^64 - 1 seconds, 15 or 16 is given.
pub rust_panics_only_there : {image : List ℕ} (past : Since) {m : Machine} {o : rust.Cartridge} → Ready image m
    → SameBoard image past.idle m o → (a : Access) → calls.Octet a → in_time m.cart.mapper past a ≡ true
    → original_step o a ≡ panic → ((step_of image m a).answer ≡ run.refused 15) ⊎ ((step_of image m a).answer ≡ run.refused 16)
rust_panics_only_there = panic_refused

-- 9. Header 4: "a part of the caller's own image, not a copy": the title is the part from 0x134 of the accepted facts' length,
pub title_is_a_part : (image : List ℕ) (d : Facts) → check_of image ≡ Ok d → TitlePart image 0x134 d.title
title_is_a_part = title.accepted_title

-- where every answer of `image::title` lies,
pub title_lies_there : AnswersTitle answered.Learnt (λ k a. a.0) (λ k r. r)
title_lies_there = title.title_answers

-- and the place and the length that the boundary hands out.
pub boundary_title : (image facts : List ℕ) (d : Facts) → check_of image ≡ Ok d
    → TitlePart image (get_or (facts_after image facts) 8 0) (get_or (facts_after image facts) 9 0)
boundary_title = title.boundary_title

-- ---- What ships

-- 10. The exported calls. `imf_mount` answered 0, at a wall time of 64 bits,
pub mounted_ships : (c : Call imf-mount.Learnt) → c.answer ≡ 0 → c.passed.1.1.1.0 < 2 ^ 64 → MountsBy c
mounted_ships = mounting.mount_made

-- and any list of exported calls follows, each lent what the one before left, and each answering and leaving what its contract says: reads,
-- writes, advances, saves out and in, windows, and the image mounted anew. They answer and leave what the calls on the mounted cartridge do,
-- refused ones among them.
pub calls_ship : (c : Call imf-mount.Learnt) (x : MountsBy c) (qs : List Request) → requests.AllTyped qs
    → {got : Outs Reply Kept} → AllRequested c.passed.1.0.now (kept_by c) qs got
    → let served = serves_of c.passed.1.0.now (mounted_by c x) qs in got ≡ outs served.answers (kept_of served.left)
calls_ship = shipped.made_requests_ship

-- On any bytes at all: those of a fit cartridge answer and leave what it does, which is read as what it leaves, and is what the library writes
-- of it where the first bytes were; all others are refused with 13, and stay, until an image is mounted.
pub calls_ship_on_any_bytes : (image : List ℕ) (k : Kept) → bytes.Octets k.state → (qs : List Request) → requests.AllTyped qs
    → {got : Outs Reply Kept} → AllRequested image k qs got
    → let served = on_lents image (lent_of k) qs in (got.answers ≡ served.answers) × Stands (Own k.state) served.left got.left
calls_ship_on_any_bytes = any-bytes.any_bytes_ship

-- So it is with accesses through windows, beside those without them, by a player that keeps a cartridge with its windows: the state is asked where
-- they say so, and the windows anew after an accepted write below 0x8000, a save that was read and an image that was mounted, or whenever the
-- player likes.
pub calls_ship_through_windows : (image : List ℕ) (m : Machine) (k : Watched) → Watches image m k → (qs : List Request) → requests.AllTyped qs
    → {got : Outs Reply Watched} → AllMadeAny image k qs got
    → let served = serves_of image m qs in got ≡ outs served.answers (watched_of served.left)
calls_ship_through_windows = windows.made_all_ship

-- Such a player is one after an `imf_mount` that answered 0 and an `imf_windows` on what it left,
pub mounted_watches : (c : Call imf-mount.Learnt) (x : MountsBy c) (d : Call imf-windows.Learnt) → d.passed.0.now ≡ (kept_by c).state
    → Watches c.passed.1.0.now (mounted_by c x) (watched_by c d)
mounted_watches = through.watched_mounted

-- and one that kept the bytes of a state as the library wrote them, with an image and an area of its lengths.
pub resumed_watches : (image s ram : List ℕ) (c : Cartridge) → bytes.Octets s → decode_of s ≡ Some c → encode_of c ≡ s
    → Ready image (record { cart = c; area = ram }) → (d : Call imf-windows.Learnt) → d.passed.0.now ≡ s
    → Watches image (record { cart = c; area = ram }) (watched (kept s ram) d.left.1.0.now)
resumed_watches = through.watched_again

-- 11. And of them Demand 2: "The verdict on a header", as in 5: `imf_header` answers 0 with the facts that the Rust takes the image with,
-- and else the number of its error,
pub shipped_header_agrees : (c : Call imf-header.Learnt) (wall : ℕ) → ImageInDomain c.passed.0.now
    → VerdictAgrees c.passed.0.now wall c.answer (λ d. (c.answer ≡ 0) × (c.left.1.0.now ≡ facts_of d))
shipped_header_agrees = verdict.header_agrees

-- and so does `imf_mount`, but for 12, the number of a RAM area of another length than the cartridge wants.
pub shipped_mount_agrees : (c : Call imf-mount.Learnt) (wall : ℕ) → ImageInDomain c.passed.1.0.now
    → VerdictAgrees c.passed.1.0.now wall c.answer (λ d. c.answer ≡ area_number c d)
shipped_mount_agrees = verdict.mount_agrees

-- Demand 2: "the byte that an address reads and the RAM that a write changes", as in 6: their numbers are those of answers, and their bytes
-- those of a cartridge, that agree with the Rust,
pub shipped_calls_agree : (c : Call imf-mount.Learnt) (x : MountsBy c) (octets : bytes.Octets c.passed.1.0.now)
    → (accesses : List Access) → calls.Octets accesses → Unseen (game_by c x octets) none accesses
    → {got : Outs ℕ Kept} → AllMade c.passed.1.0.now (kept_by c) accesses got
    → ShippedAgrees (game_by c x octets) none accesses got
shipped_calls_agree = ships.made_agrees

-- and after an `imf_save_in` that answered 0, at the wall time of the mounting, with what 6 asks of a block that is cut short.
pub shipped_saved_calls_agree : (c : Call imf-mount.Learnt) (x : MountsBy c) (octets : bytes.Octets c.passed.1.0.now)
    (save : List ℕ) (clock : ℕ)
    → {l : Out Reply Kept} → MadeRequest c.passed.1.0.now (kept_by c) (requests.loads save c.passed.1.1.1.0 clock) l
    → bytes.Octets save → l.answer.number ≡ 0 → CutHarmless (game_by c x octets) (some save) → (accesses : List Access)
    → calls.Octets accesses → Unseen (game_by c x octets) (some save) accesses
    → {got : Outs ℕ Kept} → AllMade c.passed.1.0.now l.left accesses got
    → ShippedAgrees (game_by c x octets) (some save) accesses got
shipped_saved_calls_agree = ships.made_saved_agrees

-- Through windows too, by a player that keeps the beginning of a game with them: one of 10, and file is none,
pub shipped_windows_agree : (g : Game) (file : Option (List ℕ)) → Readable g file → CutHarmless g file → (k : Watched)
    → Watches g.image (begins g file) k → (accesses : List Access) → calls.Octets accesses → Unseen g file accesses
    → {got : Outs ℕ Watched} → AllMadeThrough g.image k accesses got
    → ShippedAgrees g file accesses (outs got.answers got.left.kept)
shipped_windows_agree = ships.made_through_agrees

-- or one after that `imf_save_in`, and an `imf_windows` on what it left.
pub saved_watches : (c : Call imf-mount.Learnt) (x : MountsBy c) (octets : bytes.Octets c.passed.1.0.now) (save : List ℕ) (clock : ℕ)
    → {l : Out Reply Kept} → MadeRequest c.passed.1.0.now (kept_by c) (requests.loads save c.passed.1.1.1.0 clock) l
    → (d : Call imf-windows.Learnt) → d.passed.0.now ≡ l.left.state
    → Watches c.passed.1.0.now (begins (game_by c x octets) (some save)) (watched l.left d.left.1.0.now)
saved_watches = ships.made_watches

pub saved_is_readable : (c : Call imf-mount.Learnt) (x : MountsBy c) (octets : bytes.Octets c.passed.1.0.now) (save : List ℕ) (clock : ℕ)
    → {l : Out Reply Kept} → MadeRequest c.passed.1.0.now (kept_by c) (requests.loads save c.passed.1.1.1.0 clock) l
    → bytes.Octets save → l.answer.number ≡ 0 → Readable (game_by c x octets) (some save)
saved_is_readable = ships.made_readable
