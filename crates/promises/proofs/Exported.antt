-- Of the exported calls, Demand 1: "Every bad input has its number, and a refused call changes neither the cartridge nor any lent byte.",
-- in the form of Demand1, of any bytes as a state.
use Rattle.std.specs.Prelude.{Ok, Err, Some, None, Result, Option}
use mathlib.Core.Bool.{Bool, true, false, not}
use mathlib.Core.List.{List, [], ◌∷◌, ◌++◌, map}
use mathlib.Core.Logic.{◌⊎◌, inl, inr}
use mathlib.Core.Path.{◌≡◌, refl, sym, ap, ◌∙◌}
use Prim.Native.Nat.{ℕ, zero, suc, ◌+◌, ◌%◌, ◌-◌, ◌<◌}
use native.Mathlib.Omega.{arith}
use lib.Dec.{ltb, leb-suc-suc}
use lib.ListN.{length, get_or, drop, get_or-map}
use Rattle.facts.specs.Choice.{pick, either}
use Rattle.facts.specs.Refusals.{No, no, first_no, any_no, First}
use Rattle.facts.proofs.ChoiceLaws.{false≢true, pick_has}
use Rattle.facts.proofs.RefusalLaws.{none_or_first}
use Rattle.bytes_le.specs.Little.{Octets}
use Rattle.bytes_le.proofs.OctetLaws.{octets_at}
use Rattle.clock.specs.Ticking as clock
use Rattle.clock.specs.declared.AdvanceRefusal.{AdvanceRefusal}
use Rattle.clock.specs.declared.AdvanceRefusal.TheVariants as advancing-no
use Rattle.clock_block.specs.declared.BlockRefusal.TheVariants as block_no
use Rattle.image.specs.Image.{byte_at}
use Rattle.header.specs.Check as header
use Rattle.header.specs.declared.HeaderRefusal.{HeaderRefusal}
use Rattle.header.specs.declared.HeaderRefusal.TheVariants as header-no
use Rattle.battery.specs.Battery.{has_block}
use Rattle.cartridge.specs.Fit.{fit_cart}
use Rattle.cartridge.specs.declared.Cartridge.{Cartridge}
use Rattle.save_file.specs.Admit as admit
use Rattle.save_file.specs.Load as load
use Rattle.save_file.specs.Load.{accepted_of}
use Rattle.save_file.specs.declared.SaveRefusal.{SaveRefusal}
use Rattle.save_file.specs.declared.SaveRefusal.TheVariants as saving-no
use Rattle.mount.specs.Mount as mount
use Rattle.mount.specs.declared.MountRefusal.{MountRefusal}
use Rattle.mount.specs.declared.MountRefusal.TheVariants.{Header, WrongArea}
use Rattle.access.specs.Verdict as access
use Rattle.access.specs.declared.BusRefusal.{BusRefusal}
use Rattle.access.specs.declared.BusRefusal.TheVariants.{Unfit, WrongLength, BadAddress, BadSelection}
use Rattle.access.specs.declared.Target.{Target}
use Rattle.bus.specs.Bus as bus
use Rattle.bus.specs.Bus.{write_by}
use Rattle.states.specs.Reading.{decode_of}
use Rattle.states.specs.OnState.{on_state}
use Rattle.windows.specs.Windows.{windows_of, ask_of}
use Rattle.windows.specs.Through.{place_in, rom_start, ram_seen, seen_of, put_by, put_of}
use Rattle.windows.specs.declared.Windows.{Windows}
use Rattle.windows.specs.declared.Miss.TheVariants.{Ask}
use Rattle.windows.specs.declared.Miss.TheVariants as miss
use Rattle.player.specs.Header.{header_by, header_of}
use Rattle.player.specs.Bus.{mount_number, mount_of, read_number, read_of, write_number, write_of, advance_number, advance_of}
use Rattle.player.specs.Save.{size_number, size_of, save_of, loaded_number, load_of}
use Rattle.player.specs.Windows.{windows_in, asked_number, windows_number, seen_number, put_number, window_read, window_write, area_through}
use Rattle.shipped.proofs.WidthLaws.{decoded_widths}
use Rattle.shipped.proofs.ByteLaws.{octets_or, read_lt}
use Rattle.shipped.proofs.NumberLaws.{header_some, mount_some, bus_some, save_some}
use Rattle.promises.specs.Refusing.{Call, Refusing}
use Rattle.promises.specs.PublicCalls.{checking, mounting, reading, writing, advancing, saving, sizing, loading}
use Rattle.promises.specs.ExportedCalls.{in_numbers, on_bytes, imf_header, imf_mount, bus_none, imf_write, imf_advance, imf_save_size, imf_save_out, load_none, imf_save_in, read_refused, imf_read, windows_no, imf_windows, outside, outside_no, outside_read, ask_state, ram_byte, byte_through, ram_taken, taken_through, imf_window_read, imf_window_write}
use Rattle.promises.proofs.RefusingLaws.{by_first}
use Rattle.promises.proofs.Demand1.{check_refuses, mount_refuses, read_refuses, write_refuses, advance_refuses, ask_room_refuses, save_refuses, load_refuses}
use Rattle.promises.proofs.Boundary.{refused_header_keeps, refused_mount_keeps, refused_write_keeps, refused_advance_keeps, refused_size_keeps, refused_save_keeps, refused_load_keeps, refused_windows_keep, refused_window_write_keeps}

-- ---- a call's answers as numbers

module _ {R A : Type 0} {numbers : List ℕ} (c : Call R A) (number_of : R → ℕ) (number : A → ℕ) (refuse : R → ℕ) (before after : List ℕ)
    (r : Refusing numbers c) (order : map (λ (t : No R). number_of t.why) c.tests ≡ numbers)
    (says : (w : R) → number (c.refuse w) ≡ refuse w) (apart : (w : R) → number c.accepted ≡ refuse w → false ≡ true)
    (one : (v w : R) → refuse v ≡ refuse w → v ≡ w) where
  told : (f : First c.tests) → number c.answer ≡ refuse f.test.why
  told f = ap number (r.first f) ∙ says f.test.why

  pub as_numbers : ((w : R) → number c.answer ≡ refuse w → after ≡ before)
      → Refusing numbers (in_numbers c number_of number refuse (number c.answer) before after)
  as_numbers stays =
      record {
        order = order;
        first = told;
        given = λ w e. given w e (none_or_first c.tests);
        none = λ n. ap number (r.none n);
        only = λ e. only e (none_or_first c.tests);
        stays = stays;
      }
    where
      given : (w : R) → number c.answer ≡ refuse w → (any_no c.tests ≡ false) ⊎ First c.tests
          → (f : First c.tests) × (f.test.why ≡ w)
      given w e (inl n) = false≢true (apart w (sym (ap number (r.none n)) ∙ e))
      given w e (inr f) = (f, one f.test.why w (sym (told f) ∙ e))

      only : number c.answer ≡ number c.accepted → (any_no c.tests ≡ false) ⊎ First c.tests → any_no c.tests ≡ false
      only e (inl n) = n
      only e (inr f) = false≢true (apart f.test.why (sym e ∙ told f))

-- ---- a call on bytes

module _ {R A : Type 0} {numbers : List ℕ} (f : Cartridge → Call R A) (why : R) (rest : List (No R)) (number_of : R → ℕ) (number : A → ℕ)
    (refuse : R → ℕ) (all : (c : Cartridge) → Refusing numbers (f c))
    (order : (c : Cartridge) → map (λ (t : No R). number_of t.why) (f c).tests ≡ numbers)
    (order₀ : map (λ (t : No R). number_of t.why) (no true why ∷ rest) ≡ numbers)
    (says : (c : Cartridge) (w : R) → number ((f c).refuse w) ≡ refuse w)
    (apart : (c : Cartridge) (w : R) → number (f c).accepted ≡ refuse w → false ≡ true) (apart₀ : (w : R) → 0 ≡ refuse w → false ≡ true)
    (one : (v w : R) → refuse v ≡ refuse w → v ≡ w) (thirteen : 13 ≡ refuse why) where
  pub on_bytes_lem : (d : Option Cartridge) (before after : List ℕ)
      → ((w : R) → on_state (λ c. number (f c).answer) 13 d ≡ refuse w → after ≡ before)
      → Refusing numbers
      (on_bytes f (no true why ∷ rest) number_of number refuse d (on_state (λ c. number (f c).answer) 13 d) before after)
  on_bytes_lem (Some c) before after stays = as_numbers (f c) number_of number refuse before after (all c) (order c) (says c) (apart c) one stays
  on_bytes_lem None before after stays =
      by_first (on_bytes f (no true why ∷ rest) number_of number refuse None 13 before after) thirteen one apart₀ order₀ stays

-- ---- the numbers of the refusals: none is 0, and no two are one

header_refusals : List HeaderRefusal
header_refusals =
    header-no.TooLong
    ∷ header-no.TooLong
    ∷ header-no.BadLogo
    ∷ header-no.BadTitle
    ∷ header-no.BadType
    ∷ header-no.BadRomCode
    ∷ header-no.BadRomSize
    ∷ header-no.BadRamCode
    ∷ header-no.NeedlessRam
    ∷ header-no.BadChecksum
    ∷ header-no.Unsupported
    ∷ header-no.Beyond
    ∷ []

header_back : (w : HeaderRefusal) → get_or header_refusals (header.number_of w) header-no.TooLong ≡ w
unfolding header_refusals
header_back header-no.TooLong = refl
header_back header-no.BadLogo = refl
header_back header-no.BadTitle = refl
header_back header-no.BadType = refl
header_back header-no.BadRomCode = refl
header_back header-no.BadRomSize = refl
header_back header-no.BadRamCode = refl
header_back header-no.NeedlessRam = refl
header_back header-no.BadChecksum = refl
header_back header-no.Unsupported = refl
header_back header-no.Beyond = refl

mount_refusals : List MountRefusal
mount_refusals =
    WrongArea
    ∷ Header header-no.TooLong
    ∷ Header header-no.BadLogo
    ∷ Header header-no.BadTitle
    ∷ Header header-no.BadType
    ∷ Header header-no.BadRomCode
    ∷ Header header-no.BadRomSize
    ∷ Header header-no.BadRamCode
    ∷ Header header-no.NeedlessRam
    ∷ Header header-no.BadChecksum
    ∷ Header header-no.Unsupported
    ∷ Header header-no.Beyond
    ∷ []

mount_back : (w : MountRefusal) → get_or mount_refusals (mount.number_of w) WrongArea ≡ w
unfolding mount_refusals
mount_back (Header header-no.TooLong) = refl
mount_back (Header header-no.BadLogo) = refl
mount_back (Header header-no.BadTitle) = refl
mount_back (Header header-no.BadType) = refl
mount_back (Header header-no.BadRomCode) = refl
mount_back (Header header-no.BadRomSize) = refl
mount_back (Header header-no.BadRamCode) = refl
mount_back (Header header-no.NeedlessRam) = refl
mount_back (Header header-no.BadChecksum) = refl
mount_back (Header header-no.Unsupported) = refl
mount_back (Header header-no.Beyond) = refl
mount_back WrongArea = refl

bus_back : (w : BusRefusal) → get_or (Unfit ∷ WrongLength ∷ BadAddress ∷ BadSelection ∷ []) (access.number_of w - 13) Unfit ≡ w
bus_back Unfit = refl
bus_back WrongLength = refl
bus_back BadAddress = refl
bus_back BadSelection = refl

clock_some : (w : AdvanceRefusal) → clock.number_of w ≡ suc (clock.number_of w - 1)
clock_some advancing-no.Unfit = refl
clock_some advancing-no.Late = refl

clock_back : (w : AdvanceRefusal) → get_or (advancing-no.Unfit ∷ []) (clock.number_of w - 13) advancing-no.Late ≡ w
clock_back advancing-no.Unfit = refl
clock_back advancing-no.Late = refl

save_refusals : List SaveRefusal
save_refusals =
    saving-no.Unfit
    ∷ saving-no.WrongLength
    ∷ saving-no.Unfit
    ∷ saving-no.Unfit
    ∷ saving-no.Block block_no.Late
    ∷ saving-no.NoBattery
    ∷ saving-no.ShortSave
    ∷ saving-no.Block block_no.Beyond
    ∷ saving-no.ShortRoom
    ∷ []

save_back : (w : SaveRefusal) → get_or save_refusals (admit.number_of w - 13) saving-no.Unfit ≡ w
unfolding save_refusals
save_back saving-no.Unfit = refl
save_back saving-no.WrongLength = refl
save_back saving-no.NoBattery = refl
save_back saving-no.ShortSave = refl
save_back (saving-no.Block block_no.Beyond) = refl
save_back (saving-no.Block block_no.Late) = refl
save_back saving-no.ShortRoom = refl

-- what is read back from a number is one
back_one : {R : Type 0} (number_of : R → ℕ) (back : ℕ → R) → ((w : R) → back (number_of w) ≡ w) → (v w : R) → number_of v ≡ number_of w → v ≡ w
back_one number_of back h v w e = sym (h v) ∙ ap back e ∙ h w

no_zero : {R : Type 0} (number_of : R → ℕ) → ((w : R) → number_of w ≡ suc (number_of w - 1)) → (w : R) → 0 ≡ number_of w → false ≡ true
no_zero number_of h w e = absurd (omega (arith, e, h w))

-- a load that is taken answers 0
taken_zero : (c : Cartridge) (behind : List ℕ) (wall : ℕ) (w : SaveRefusal) → loaded_number (accepted_of c behind wall) ≡ admit.number_of w → false ≡ true
unfolding accepted_of
taken_zero c behind wall w =
    pick_has (λ (x : Result (Option Cartridge) SaveRefusal). loaded_number x ≡ admit.number_of w → false ≡ true) (has_block c.mapper behind)
    (no_zero admit.number_of save_some w) (no_zero admit.number_of save_some w)

windows_first : (s : List ℕ)
    → windows_number s ≡ first_no windows_no (on_state (λ c. no (not (fit_cart c)) tt ∷ []) (no true tt ∷ []) (decode_of s)) 0
unfolding windows_number ask_of
windows_first s = go (decode_of s)
  where
    fits : (b : Bool) (w : Windows) → asked_number (pick b (Some w) None) ≡ first_no windows_no (no (not b) tt ∷ []) 0
    fits true w = refl
    fits false w = refl

    go : (d : Option Cartridge) → on_state (λ c. asked_number (ask_of c)) 13 d
        ≡ first_no windows_no (on_state (λ c. no (not (fit_cart c)) tt ∷ []) (no true tt ∷ []) d) 0
    go (Some c) = fits (fit_cart c) (windows_of c)
    go None = refl

joined : {x y v z : List ℕ} → (x ≡ y) × (v ≡ z) → x ++ v ≡ y ++ z
joined {y = y} {v = v} p = ap (λ (l : List ℕ). l ++ v) p.0 ∙ ap (λ (l : List ℕ). y ++ l) p.1

-- ---- through windows

-- below 0x8000 one answer, in the RAM window one of these by how it is mapped, and else the refusal
window_first : {A : Type 0} (number : A → ℕ) (refuse : Unit {0} → ℕ) (addr how : ℕ) (low none asks : A) (ways : List A)
    → number none ≡ refuse tt
    → number (pick (ltb addr 0x8000) low (pick (access.in_ram addr) (get_or ways how asks) none))
    ≡ first_no refuse (outside addr) (pick (access.in_rom addr) (number low) (get_or (map number ways) how (number asks)))
window_first number refuse addr how low none asks ways e =
    ap (λ (b : Bool). number (pick b low (pick (access.in_ram addr) (get_or ways how asks) none))) (leb-suc-suc addr 0x7FFF)
    ∙ go (access.in_rom addr) (access.in_ram addr)
  where
    go : (rom ram : Bool) → number (pick rom low (pick ram (get_or ways how asks) none))
        ≡ first_no refuse (no (not (either rom ram)) tt ∷ []) (pick rom (number low) (get_or (map number ways) how (number asks)))
    go true ram = refl
    go false true = sym (get_or-map number ways how asks)
    go false false = e

window_read_first : (numbers image ram : List ℕ) (addr : ℕ)
    → window_read numbers image ram addr ≡ first_no outside_read (outside addr) (byte_through (windows_in numbers) image ram addr)
unfolding window_read seen_of ram_seen
window_read_first numbers image ram addr =
    let w = windows_in numbers in
    let byte = get_or ram (place_in w addr) 0xFF in
    window_first seen_number outside_read addr w.how (Ok (byte_at image (rom_start w addr + addr % 0x4000))) (Err miss.BadAddress) (Err Ask)
    (Ok 0xFF ∷ Ok byte ∷ Ok (0xF0 + byte % 16) ∷ []) refl

window_write_first : (numbers : List ℕ) (addr : ℕ)
    → window_write numbers addr ≡ first_no outside_no (outside addr) (taken_through (windows_in numbers) addr)
unfolding window_write put_of put_by
window_write_first numbers addr =
    window_first put_number outside_no addr (windows_in numbers).how (Err Ask) (Err miss.BadAddress) (Err Ask) (Ok tt ∷ Ok tt ∷ Ok tt ∷ []) refl

-- neither a byte nor 0x200 is 0x10F
byte_apart : (w : Windows) (image ram : List ℕ) (addr : ℕ) → Octets image → Octets ram → byte_through w image ram addr ≡ 0x10F → false ≡ true
byte_apart w image ram addr i r =
    pick_has (λ (n : ℕ). n ≡ 0x10F → false ≡ true) (access.in_rom addr)
    (λ e. absurd (omega (arith, e, octets_at image i (rom_start w addr + addr % 0x4000))))
    (by_how w.how (get_or ram (place_in w addr) 0xFF) (octets_or ram r (place_in w addr) 0xFF (omega arith)))
  where
    by_how : (how b : ℕ) → b < 256 → ram_byte b how ≡ 0x10F → false ≡ true
    by_how zero b h e = absurd (omega (arith, e))
    by_how (suc zero) b h e = absurd (omega (arith, e, h))
    by_how (suc (suc zero)) b h e = absurd (omega (arith, e))
    by_how (suc (suc (suc how))) b h e = absurd (omega (arith, e))

-- neither 0 nor 0x200 is 15
taken_apart : (w : Windows) (addr : ℕ) → taken_through w addr ≡ 15 → false ≡ true
taken_apart w addr =
    pick_has (λ (n : ℕ). n ≡ 15 → false ≡ true) (access.in_rom addr) (λ e. absurd (omega (arith, e))) (by_how w.how)
  where
    by_how : (how : ℕ) → ram_taken how ≡ 15 → false ≡ true
    by_how zero e = absurd (omega (arith, e))
    by_how (suc zero) e = absurd (omega (arith, e))
    by_how (suc (suc zero)) e = absurd (omega (arith, e))
    by_how (suc (suc (suc how))) e = absurd (omega (arith, e))

-- ---- the calls

pub imf_header_refuses : (image facts : List ℕ) → Refusing (1 ∷ 2 ∷ 3 ∷ 4 ∷ 5 ∷ 6 ∷ 7 ∷ 8 ∷ 9 ∷ 10 ∷ 11 ∷ []) (imf_header image facts)
unfolding header_of
imf_header_refuses image facts =
    as_numbers (checking image) header.number_of header_by header.number_of facts _ (check_refuses image) (check_refuses image).order
    (λ w. refl) (no_zero header.number_of header_some)
    (back_one header.number_of (λ n. get_or header_refusals n header-no.TooLong) header_back)
    (λ w e. refused_header_keeps image facts (header.number_of w - 1) (e ∙ header_some w))

pub imf_mount_refuses : (s image ram : List ℕ) (wall : ℕ)
    → Refusing (1 ∷ 2 ∷ 3 ∷ 4 ∷ 5 ∷ 6 ∷ 7 ∷ 8 ∷ 9 ∷ 10 ∷ 11 ∷ 12 ∷ []) (imf_mount s image ram wall)
unfolding mount_of
imf_mount_refuses s image ram wall =
    as_numbers (mounting image ram wall) mount.number_of mount_number mount.number_of (s ++ ram) _ (mount_refuses image ram wall)
    (mount_refuses image ram wall).order (λ w. refl) (no_zero mount.number_of mount_some)
    (back_one mount.number_of (λ n. get_or mount_refusals n WrongArea) mount_back)
    (λ w e. joined (refused_mount_keeps s image ram wall (mount.number_of w - 1) (e ∙ mount_some w)))

pub imf_write_refuses : (s ram : List ℕ) (addr byte : ℕ) → Refusing (13 ∷ 14 ∷ 15 ∷ 16 ∷ []) (imf_write s ram addr byte)
unfolding write_of
imf_write_refuses s ram addr byte =
    on_bytes_lem (λ c. writing c ram addr byte) Unfit (no false WrongLength ∷ no false BadAddress ∷ no false BadSelection ∷ []) access.number_of
    write_number access.number_of (λ c. write_refuses c ram addr byte) (λ c. (write_refuses c ram addr byte).order) refl (λ c w. refl)
    (λ c w. pick_has (λ (v : Result Target BusRefusal). write_number (write_by c addr byte v) ≡ access.number_of w → false ≡ true) (access.in_rom addr)
    (no_zero access.number_of bus_some w) (no_zero access.number_of bus_some w))
    (no_zero access.number_of bus_some)
    (back_one access.number_of (λ n. get_or (Unfit ∷ WrongLength ∷ BadAddress ∷ BadSelection ∷ []) (n - 13) Unfit) bus_back) refl
    (decode_of s) (s ++ ram) _ (λ w e. joined (refused_write_keeps s ram addr byte (access.number_of w - 1) (e ∙ bus_some w)))

pub imf_advance_refuses : (s : List ℕ) (n : ℕ) → Refusing (13 ∷ 17 ∷ []) (imf_advance s n)
unfolding advance_of
imf_advance_refuses s n =
    on_bytes_lem (λ c. advancing c n) advancing-no.Unfit (no false advancing-no.Late ∷ []) clock.number_of advance_number clock.number_of
    (λ c. advance_refuses c n) (λ c. (advance_refuses c n).order) refl (λ c w. refl) (λ c. no_zero clock.number_of clock_some)
    (no_zero clock.number_of clock_some)
    (back_one clock.number_of (λ k. get_or (advancing-no.Unfit ∷ []) (k - 13) advancing-no.Late) clock_back) refl (decode_of s) s _
    (λ w e. refused_advance_keeps s n (clock.number_of w - 1) (e ∙ clock_some w))

pub imf_save_size_refuses : (s : List ℕ) (size : ℕ) → Refusing (13 ∷ 18 ∷ []) (imf_save_size s size)
unfolding size_of
imf_save_size_refuses s size =
    on_bytes_lem sizing saving-no.Unfit (no false saving-no.NoBattery ∷ []) admit.number_of size_number admit.number_of ask_room_refuses
    (λ c. (ask_room_refuses c).order) refl (λ c w. refl) (λ c. no_zero admit.number_of save_some) (no_zero admit.number_of save_some)
    (back_one admit.number_of (λ n. get_or save_refusals (n - 13) saving-no.Unfit) save_back) refl (decode_of s) (size ∷ []) _
    (λ w e. ap (λ (n : ℕ). n ∷ []) (refused_size_keeps s size (admit.number_of w - 1) (e ∙ save_some w)))

pub imf_save_out_refuses : (s ram room : List ℕ) (wall size : ℕ) → Refusing (13 ∷ 14 ∷ 18 ∷ 21 ∷ []) (imf_save_out s ram room wall size)
unfolding save_of
imf_save_out_refuses s ram room wall size =
    on_bytes_lem (λ c. saving c ram room wall) saving-no.Unfit
    (no false saving-no.WrongLength ∷ no false saving-no.NoBattery ∷ no false saving-no.ShortRoom ∷ []) admit.number_of size_number
    admit.number_of (λ c. save_refuses c ram room wall) (λ c. (save_refuses c ram room wall).order) refl (λ c w. refl)
    (λ c. no_zero admit.number_of save_some) (no_zero admit.number_of save_some)
    (back_one admit.number_of (λ n. get_or save_refusals (n - 13) saving-no.Unfit) save_back) refl (decode_of s) (size ∷ room) _
    (λ w e. behind (refused_save_keeps s ram room wall size (admit.number_of w - 1) (e ∙ save_some w)))
  where
    behind : {x y : List ℕ} {m n : ℕ} → (x ≡ y) × (m ≡ n) → m ∷ x ≡ n ∷ y
    behind {x = x} {n = n} p = ap (λ (k : ℕ). k ∷ x) p.1 ∙ ap (λ (l : List ℕ). n ∷ l) p.0

-- Order 6: "Reading a save asks 13, 14 of the RAM area, 18, 19, 20, 17, in this order"
pub imf_save_in_refuses : (s ram bytes : List ℕ) (wall clock : ℕ)
    → Refusing (13 ∷ 14 ∷ 18 ∷ 19 ∷ 20 ∷ 17 ∷ []) (imf_save_in s ram bytes wall clock)
unfolding load_of
imf_save_in_refuses s ram bytes wall clock =
    go (decode_of s) (clock ∷ (s ++ ram)) _
    (λ w e. three (refused_load_keeps s ram bytes wall clock (admit.number_of w - 1) (e ∙ save_some w)))
  where
    three : {x y v z : List ℕ} {m n : ℕ} → (x ≡ y) × ((v ≡ z) × (m ≡ n)) → m ∷ (x ++ v) ≡ n ∷ (y ++ z)
    three {x = x} {v = v} {n = n} p =
        ap (λ (k : ℕ). k ∷ (x ++ v)) p.1.1 ∙ ap (λ (l : List ℕ). n ∷ l) (joined (p.0, p.1.0))

    go : (d : Option Cartridge) (before after : List ℕ)
        → ((w : SaveRefusal) → on_state (λ c. loaded_number (load.load_of c (length ram) bytes wall)) 13 d ≡ admit.number_of w → after ≡ before)
        → Refusing (13 ∷ 14 ∷ 18 ∷ 19 ∷ 20 ∷ 17 ∷ [])
        (on_bytes (λ c. loading c ram bytes wall) load_none admit.number_of loaded_number admit.number_of d
        (on_state (λ c. loaded_number (load.load_of c (length ram) bytes wall)) 13 d) before after)
    go (Some c) before after stays =
        as_numbers (loading c ram bytes wall) admit.number_of loaded_number admit.number_of before after (load_refuses c ram bytes wall)
        (load_refuses c ram bytes wall).order (λ w. refl) (taken_zero c (drop (length ram) bytes) wall)
        (back_one admit.number_of (λ n. get_or save_refusals (n - 13) saving-no.Unfit) save_back) stays
    go None before after stays =
        by_first (on_bytes (λ c. loading c ram bytes wall) load_none admit.number_of loaded_number admit.number_of None 13 before after) refl
        (back_one admit.number_of (λ n. get_or save_refusals (n - 13) saving-no.Unfit) save_back) (no_zero admit.number_of save_some) refl stays

-- The types give at the boundary that what is lent is bytes. So no byte that is read, of a fit state or another, is a refusal's number.
pub imf_read_refuses : (s image ram : List ℕ) (addr : ℕ) → Octets s → Octets image → Octets ram
    → Refusing (13 ∷ 14 ∷ 15 ∷ 16 ∷ []) (imf_read s image ram addr)
unfolding read_of
imf_read_refuses s image ram addr o i r = go (decode_of s) (λ c e. read_lt c image ram addr (decoded_widths s c o e) i r)
  where
    one : (v w : BusRefusal) → read_refused v ≡ read_refused w → v ≡ w
    one v w e =
        back_one access.number_of (λ n. get_or (Unfit ∷ WrongLength ∷ BadAddress ∷ BadSelection ∷ []) (n - 13) Unfit) bus_back v w (omega (arith, e))

    go : (d : Option Cartridge) → ((c : Cartridge) → d ≡ Some c → read_number (reading c image ram addr).accepted < 0x100)
        → Refusing (13 ∷ 14 ∷ 15 ∷ 16 ∷ [])
        (on_bytes (λ c. reading c image ram addr) bus_none access.number_of read_number read_refused d
        (on_state (λ c. read_number (bus.read_of c image ram addr)) 0x10D d) [] [])
    go (Some c) small =
        as_numbers (reading c image ram addr) access.number_of read_number read_refused [] [] (read_refuses c image ram addr)
        (read_refuses c image ram addr).order (λ w. refl) (λ w e. absurd (omega (arith, e, small c refl))) one (λ w e. refl)
    go None small =
        by_first (on_bytes (λ c. reading c image ram addr) bus_none access.number_of read_number read_refused None 0x10D [] []) refl one
        (λ w e. absurd (omega (arith, e))) refl (λ w e. refl)

pub imf_windows_refuses : (s numbers : List ℕ) → Refusing (13 ∷ []) (imf_windows s numbers)
imf_windows_refuses s numbers =
    by_first (imf_windows s numbers) (windows_first s) (λ v w e. refl) (λ w e. absurd (omega (arith, e))) (order (decode_of s))
    (λ w e. refused_windows_keep s numbers 12 e)
  where
    order : (d : Option Cartridge) → map (λ (t : No (Unit {0})). windows_no t.why) (on_state (λ c. no (not (fit_cart c)) tt ∷ []) (no true tt ∷ []) d) ≡ 13 ∷ []
    order (Some c) = refl
    order None = refl

-- 15 is given outside the windows and nowhere else, whatever the numbers are.
pub imf_window_read_refuses : (numbers image ram : List ℕ) (addr : ℕ) → Octets image → Octets ram
    → Refusing (15 ∷ []) (imf_window_read numbers image ram addr)
imf_window_read_refuses numbers image ram addr i r =
    by_first (imf_window_read numbers image ram addr) (window_read_first numbers image ram addr) (λ v w e. refl)
    (λ w e. byte_apart (windows_in numbers) image ram addr i r e) refl (λ w e. refl)

pub imf_window_write_refuses : (numbers ram : List ℕ) (addr byte : ℕ) → Refusing (15 ∷ []) (imf_window_write numbers ram addr byte)
imf_window_write_refuses numbers ram addr byte =
    by_first (imf_window_write numbers ram addr byte) (window_write_first numbers addr) (λ v w e. refl)
    (λ w e. taken_apart (windows_in numbers) addr e) refl (λ w e. refused_window_write_keeps numbers ram addr byte 14 e)

-- Where the state is to be asked the area stays too.
pub imf_window_write_asks : (numbers ram : List ℕ) (addr byte : ℕ) → window_write numbers addr ≡ ask_state
    → area_through numbers ram addr byte ≡ ram
imf_window_write_asks numbers ram addr byte = refused_window_write_keeps numbers ram addr byte 0x1FF
