-- Demand 1: "No image, state, address, byte, clock count or save file makes a call trap, or touch memory that it was not lent. Every bad
-- input has its number, and a refused call changes neither the cartridge nor any lent byte."
-- That no call traps and none touches what it was not lent is what the prover shows of every function before it shows its
-- contract. The rest is one statement, `Refusing`, and an instance of it for each call of a player that refuses (of the exported
-- ones in `Exported`), and for a clock's advance, the 21 bytes of a save, the trace's reader and the replay program. The calls of
-- `PublicCalls` speak of definitions (`check_of`, `mount_of`, ..): the contracts say that the code's answers, and every lent byte,
-- equal these on all inputs.
use Rattle.std.specs.Prelude.{Ok, Err, Some, Result, Option}
use mathlib.Core.Bool.{true, false}
use mathlib.Core.List.{List, [], ◌∷◌}
use mathlib.Core.Logic.{◌⊎◌, inl, inr, ◌↔◌}
use mathlib.Core.Path.{◌≡◌, refl, sym, ap}
use Prim.Native.Nat.{ℕ, ◌*◌, ◌<◌, ◌≤◌}
use native.Mathlib.Omega.{arith}
use lib.ListN.{length, drop, replicate}
use borrow.Author.Tests.{eqb-true}
use Rattle.facts.specs.Choice.{pick, either}
use Rattle.facts.specs.Refusals.{first_no, any_no, First}
use Rattle.facts.proofs.RefusalLaws.{none_or_first, first_map}
use Rattle.trace.proofs.NoesLaws.{next_is_first, taken_is_none}
use Rattle.banking.specs.Banks.{rom_place}
use Rattle.banking.proofs.Laws.{rom_inside}
use Rattle.clock.specs.Ticking as clock
use Rattle.clock.specs.declared.Clock.{Clock}
use Rattle.clock_block.specs.Waking as block
use Rattle.clock_block.specs.declared.Block.{Block}
use Rattle.image.specs.Image.{padded_length}
use Rattle.header.specs.Check as header
use Rattle.header.specs.Check.{check_of}
use Rattle.header.specs.Accepted.{tests_of}
use Rattle.header.specs.declared.HeaderRefusal.TheVariants.{TooLong}
use Rattle.header.specs.declared.Facts.{Facts}
use Rattle.header.proofs.CheckLaws.{no_1}
use Rattle.mapper.specs.Mappers as mapper
use Rattle.window.specs.Window.{way_of, Within}
use Rattle.window.proofs.Laws.{way_within}
use Rattle.cartridge.specs.Fit.{fit_cart, area_of}
use Rattle.cartridge.specs.declared.Cartridge.{Cartridge}
use Rattle.cartridge.proofs.Laws.{fit_banks, fit_padded}
use Rattle.save_file.specs.Admit.{admit_noes}
use Rattle.save_file.specs.Save.{bytes_of, save_noes, save_of, room_by, room_after, room_for}
use Rattle.save_file.specs.Load as load
use Rattle.save_file.specs.Load.{load_noes, accepted_of, load_of}
use Rattle.mount.specs.Mount as mount
use Rattle.mount.specs.Mount.{cart_of, mount_of}
use Rattle.mount.specs.declared.MountRefusal.{MountRefusal}
use Rattle.access.specs.Verdict.{in_rom, noes, verdict_of}
use Rattle.access.specs.declared.Target.TheVariants.{Rom, Ram}
use Rattle.bus.specs.Bus.{read_verdict, write_verdict, read_by, read_of, write_by, write_of}
use Rattle.bus.specs.Advance.{advance_of}
use Rattle.bus.specs.Run.{Access, Machine, step_of, run_of, Ready}
use Rattle.bus.specs.Run as run
use Rattle.replay_step.specs.Step.{machine}
use Rattle.replay_program.specs.Written.{not_read, file_line, written_of, ram_after}
use Rattle.replay_program.proofs.Apart.{one_refusal, text_is_no_refusal}
use Rattle.replay_program.proofs.Theorems.{file_exactly, file_keeps, refused_keeps}
use Rattle.runs.specs.Calls.{Octets, AllNeither}
use Rattle.runs.proofs.BusLaws as laws
use Rattle.runs.proofs.RunLaws as sequence
use Rattle.runs.proofs.SaveLaws as saves
use Rattle.promises.specs.Refusing.{Call, Refusing}
use Rattle.promises.specs.PublicCalls.{
  facts_in,
  checking,
  asking,
  mount_noes,
  mounting,
  reading,
  writing,
  advancing,
  ticking,
  saving,
  sizing,
  loading,
  waking,
  stepping,
  asked_in,
  program_noes,
  replaying,
}
use Rattle.promises.proofs.RefusingLaws.{
  by_first,
  mount_is_first,
  read_taken,
  write_taken,
  load_taken,
  replay_is_first,
  asked_saves,
}

-- 1. Demand 1: "Every bad input has its number". Every input of a call of which the statement holds gets the answer, or the number of
-- the first test that holds.
pub answer_or_number : {R A : Type 0} {numbers : List ℕ} (c : Call R A) → Refusing numbers c
    → (c.answer ≡ c.accepted) ⊎ ((f : First c.tests) × (c.answer ≡ c.refuse f.test.why))
answer_or_number c r = go (none_or_first c.tests)
  where
    go : (any_no c.tests ≡ false) ⊎ First c.tests
        → (c.answer ≡ c.accepted) ⊎ ((f : First c.tests) × (c.answer ≡ c.refuse f.test.why))
    go (inl n) = inl (r.none n)
    go (inr f) = inr (f, r.first f)

-- `header::check` and `mount::ask_area`, of any image. Order 3: "A header is tested for 1 to 11, in the order of the numbers"
pub check_refuses : (image : List ℕ) → Refusing (1 ∷ 2 ∷ 3 ∷ 4 ∷ 5 ∷ 6 ∷ 7 ∷ 8 ∷ 9 ∷ 10 ∷ 11 ∷ []) (checking image)
unfolding check_of header.noes
check_refuses image =
    by_first (checking image) refl (λ v w e. cc) (λ w e. cc) refl (λ w e. refl)

pub ask_area_refuses : (image : List ℕ) → Refusing (1 ∷ 2 ∷ 3 ∷ 4 ∷ 5 ∷ 6 ∷ 7 ∷ 8 ∷ 9 ∷ 10 ∷ 11 ∷ []) (asking image)
unfolding mount.area_for check_of header.noes
ask_area_refuses image =
    by_first (asking image) (first_map mount.asked_by Err (tests_of image) (Ok (facts_in image)))
    (λ v w e. cc) (λ w e. cc) refl (λ w e. refl)

-- `mount::mount`, of any image, any lent RAM area and any wall time. Order 3: "a mounting goes on to 12"
pub mount_refuses : (image ram : List ℕ) (wall : ℕ)
    → Refusing (1 ∷ 2 ∷ 3 ∷ 4 ∷ 5 ∷ 6 ∷ 7 ∷ 8 ∷ 9 ∷ 10 ∷ 11 ∷ 12 ∷ []) (mounting image ram wall)
unfolding mount_noes header.noes mount.area_after
mount_refuses image ram wall =
    by_first (mounting image ram wall) (mount_is_first image ram wall) (λ v w e. cc) (λ w e. cc) refl
    (λ w e. ap (λ (x : Result Cartridge MountRefusal). mount.area_by x ram) e)

-- `bus::read` and `bus::write`, of any cartridge, any lent image and area, any address and any byte. Order 4: "A read asks 13, 14, 15, a
-- write 13, 14, 15, 16, in this order.": of a read 16 never holds.
pub read_refuses : (c : Cartridge) (rom ram : List ℕ) (addr : ℕ) → Refusing (13 ∷ 14 ∷ 15 ∷ 16 ∷ []) (reading c rom ram addr)
unfolding read_of read_verdict verdict_of noes
read_refuses c rom ram addr =
    by_first (reading c rom ram addr)
    (first_map (read_by c rom ram addr) Err (reading c rom ram addr).tests (pick (in_rom addr) (Ok Rom) (Ok Ram)))
    (λ v w e. cc) (read_taken c rom ram addr) refl (λ w e. refl)

pub write_refuses : (c : Cartridge) (ram : List ℕ) (addr byte : ℕ) → Refusing (13 ∷ 14 ∷ 15 ∷ 16 ∷ []) (writing c ram addr byte)
unfolding write_of write_verdict verdict_of noes
write_refuses c ram addr byte =
    by_first (writing c ram addr byte)
    (first_map (write_by c addr byte) Err (writing c ram addr byte).tests (pick (in_rom addr) (Ok Rom) (Ok Ram)))
    (λ v w e. cc) (write_taken c addr byte) refl (laws.refused_area c ram addr byte)

-- `bus::advance`, of any cartridge and any count, and `Clock::advance`, of any clock. Order 5: "An advance asks 13, then 17."
pub advance_refuses : (c : Cartridge) (n : ℕ) → Refusing (13 ∷ 17 ∷ []) (advancing c n)
unfolding advance_of
advance_refuses c n = by_first (advancing c n) refl (λ v w e. cc) (λ w e. cc) refl (λ w e. refl)

pub clock_advance_refuses : (c : Clock) (n : ℕ) → Refusing (13 ∷ 17 ∷ []) (ticking c n)
unfolding clock.advance_of
clock_advance_refuses c n = by_first (ticking c n) refl (λ v w e. cc) (λ w e. cc) refl (λ w e. refl)

-- `save_file::save`, of any lent area, any room and any wall time. Order 7: "Writing a save asks 13, 14 of the RAM area, 18, 21"
pub save_refuses : (c : Cartridge) (ram room : List ℕ) (wall : ℕ) → Refusing (13 ∷ 14 ∷ 18 ∷ 21 ∷ []) (saving c ram room wall)
unfolding save_of save_noes admit_noes room_after
save_refuses c ram room wall =
    by_first (saving c ram room wall) refl (λ v w e. cc) (λ w e. cc) refl
    (λ w e. ap (room_by (bytes_of c.mapper ram wall) room) e)

-- `save_file::ask_room`, of any cartridge. Order 7: "asking for its size 13, 18"
pub ask_room_refuses : (c : Cartridge) → Refusing (13 ∷ 18 ∷ []) (sizing c)
unfolding room_for
ask_room_refuses c = by_first (sizing c) refl (λ v w e. cc) (λ w e. cc) refl (λ w e. refl)

-- `save_file::load`, of any lent area, any save bytes and any wall time. Order 6: "Reading a save asks 13, 14 of the RAM area, 18, 19,
-- 20, 17, in this order"
pub load_refuses : (c : Cartridge) (ram bytes : List ℕ) (wall : ℕ)
    → Refusing (13 ∷ 14 ∷ 18 ∷ 19 ∷ 20 ∷ 17 ∷ []) (loading c ram bytes wall)
unfolding load_of load_noes admit_noes block.block_noes load.area_after
load_refuses c ram bytes wall =
    by_first (loading c ram bytes wall) refl (λ v w e. cc) (load_taken c (drop (length ram) bytes) wall) refl
    (λ w e. ap (load.area_by ram bytes) e)

-- `Block::wake`, of a block alone.
pub wake_refuses : (b : Block) (wall : ℕ) → Refusing (20 ∷ 17 ∷ []) (waking b wall)
unfolding block.wake_of block.block_noes
wake_refuses b wall = by_first (waking b wall) refl (λ v w e. cc) (λ w e. cc) refl (λ w e. refl)

-- `trace::next_record`, of any bytes and any place. Order 8: "A place of a trace is tested for 22, then for 23"
pub next_record_refuses : (s : List ℕ) (at : ℕ) → Refusing (22 ∷ 23 ∷ []) (stepping s at)
next_record_refuses s at =
    by_first (stepping s at) (next_is_first s at) (λ v w e. cc) (taken_is_none s at) refl (λ w e. refl)

-- `replay_program::write`, of any two files. Trace 4: "Where one is missing or longer, which is tested first, all that it writes is `F`",
-- exactly then, and the room for RAM stays;
pub replay_files_exactly : (image s : Option (List ℕ))
    → (written_of image s ≡ file_line) ↔ (either (not_read image 32768) (not_read s 16384) ≡ true)
replay_files_exactly = file_exactly

pub replay_files_keep : (image s : Option (List ℕ)) (ram : List ℕ) → written_of image s ≡ file_line → ram_after image s ram ≡ ram
replay_files_keep = file_keeps

-- where both were read, Trace 5: "Where mounting is refused, all that it writes is `M` and the number", 12 exactly where the image asks
-- for more than 8,192 bytes.
pub replay_refuses : (image s ram : List ℕ) → length image ≤ 32768 → length s ≤ 16384 → 8192 ≤ length ram
    → Refusing (1 ∷ 2 ∷ 3 ∷ 4 ∷ 5 ∷ 6 ∷ 7 ∷ 8 ∷ 9 ∷ 10 ∷ 11 ∷ 12 ∷ []) (replaying image s ram)
unfolding program_noes header.noes
replay_refuses image s ram h l r =
    by_first (replaying image s ram) (replay_is_first image s h l) one_refusal
    (λ w. text_is_no_refusal image (machine (cart_of (facts_in image) (length image) 0) (replicate (asked_in image) 0)) s (mount.number_of w))
    refl (λ w. refused_keeps image s h l ram (mount.number_of w) r)

-- Above 8 MiB it is number 1, whatever stands in the image.
pub too_long_is_1 : (image : List ℕ) → 8388608 < length image → check_of image ≡ Err TooLong
too_long_is_1 image h = sym (no_1 image h)

-- An image that is lent the area that `mount::ask_area` asks for is mounted.
pub asked_area_mounts : (image ram : List ℕ) (wall : ℕ) (d : Facts) → check_of image ≡ Ok d
    → mount.area_for image ≡ Ok (length ram) → mount_of image ram wall ≡ Ok (cart_of d (length image) wall)
asked_area_mounts = laws.asked_mounts

-- Where `save_file::ask_room` asks for n bytes, `save_file::save` into a room of n is not refused, and writes n.
pub asked_room_saves : (c : Cartridge) (ram : List ℕ) (n wall : ℕ) → length ram ≡ area_of c → room_for c ≡ Ok n
    → save_of c ram n wall ≡ Ok n
asked_room_saves = asked_saves

-- 2. Demand 1: "a refused call changes neither the cartridge nor any lent byte": of an access, the cartridge and its area together.
pub refused_changes_nothing : (rom : List ℕ) (m : Machine) (a : Access) (k : ℕ) → (step_of rom m a).answer ≡ run.refused k
    → (step_of rom m a).left ≡ m
refused_changes_nothing = sequence.refused_left

-- 3. Number 13 is never given for a state that this library handed out: mounting gives a fit cartridge, and so does every accepted
-- call,
pub mounted_is_fit : (image ram : List ℕ) (wall : ℕ) (c : Cartridge) → mount_of image ram wall ≡ Ok c → fit_cart c ≡ true
mounted_is_fit = laws.mount_fit

pub written_is_fit : (c d : Cartridge) (ram : List ℕ) (addr byte : ℕ) → byte < 256 → write_of c ram addr byte ≡ Ok d
    → fit_cart d ≡ true
written_is_fit = laws.write_fit

pub advanced_is_fit : (c d : Cartridge) (n : ℕ) → advance_of c n ≡ Ok d → fit_cart d ≡ true
advanced_is_fit = laws.advance_fit

pub loaded_is_fit : (c d : Cartridge) (area : ℕ) (bytes : List ℕ) (wall : ℕ) → load_of c area bytes wall ≡ Ok (Some d)
    → fit_cart d ≡ true
loaded_is_fit = saves.load_fit

-- nor 14 for the image and the area that it was mounted with: on mounting both are as they should be, and they stay so through any
-- sequence of accesses and a save that is read,
pub mounted_is_ready : (image ram : List ℕ) (wall : ℕ) (c : Cartridge) → mount_of image ram wall ≡ Ok c
    → Ready image (record { cart = c; area = mount.area_after image ram wall })
mounted_is_ready = sequence.mount_ready

pub stays_ready : (rom : List ℕ) (m : Machine) (as' : List Access) → Ready rom m → Octets as' → Ready rom (run_of rom m as').left
stays_ready = sequence.run_ready

pub loaded_is_ready : (rom : List ℕ) (m : Machine) (d : Cartridge) (bytes : List ℕ) (wall : ℕ) → Ready rom m
    → load_of m.cart (length m.area) bytes wall ≡ Ok (Some d)
    → Ready rom (record { cart = d; area = load.area_after m.cart m.area bytes wall })
loaded_is_ready = saves.whole_ready

-- no access is answered with either, and a save and a load have only their later tests left.
pub never_13_nor_14 : (rom : List ℕ) (m : Machine) (as' : List Access) → Ready rom m → Octets as'
    → AllNeither (run_of rom m as').answers
never_13_nor_14 = sequence.run_neither

pub ready_saves : (rom : List ℕ) (m : Machine) (room wall : ℕ) → Ready rom m
    → save_of m.cart m.area room wall
    ≡ first_no Err (drop 2 (save_noes m.cart m.area room wall))
    (Ok (length (bytes_of m.cart.mapper m.area wall)))
ready_saves rom m room wall r = saves.fit_saves m.cart m.area room wall r.fit r.area

pub ready_loads : (rom : List ℕ) (m : Machine) (bytes : List ℕ) (wall : ℕ) → Ready rom m
    → load_of m.cart (length m.area) bytes wall
    ≡ first_no Err (drop 2 (load_noes m.cart (length m.area) bytes wall))
    (accepted_of m.cart (drop (length m.area) bytes) wall)
ready_loads rom m bytes wall r = saves.fit_loads m.cart (length m.area) bytes wall r.fit r.area

-- 4. Demand 1: "or touch memory that it was not lent": every mapped place is inside the padded image
pub rom_place_inside : (c : Cartridge) (addr : ℕ) → fit_cart c ≡ true
    → rom_place c.banks (mapper.bank_at c.mapper addr) addr < padded_length c.length
rom_place_inside c addr fit =
    let p = eqb-true (padded_length c.length) (c.banks * 0x4000) (fit_padded c fit) in
    let i = rom_inside c.banks (mapper.bank_at c.mapper addr) addr (fit_banks c fit) in omega arith

-- or inside the RAM area.
pub ram_place_inside : (c : Cartridge) (addr : ℕ) → Within (way_of c.mapper c.size addr) c.size (area_of c)
ram_place_inside c addr = way_within c.mapper c.size addr
