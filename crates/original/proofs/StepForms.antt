-- An access to the original's cartridge by what its mapper answers. Nothing is asked of our machine.
use mathlib.Core.Bool.{true}
use mathlib.Core.List.{List}
use mathlib.Core.Path.{◌≡◌, refl, ap, ◌∙◌}
use Prim.Native.Nat.{ℕ, zero, suc, ◌*◌, ◌<◌, ◌≤◌}
use native.Mathlib.Omega.{arith}
use lib.ListN.{length, get_or}
use borrow.Author.Tests.{eqb-true}
use Rattle.banking.specs.Banks.{rom_place}
use Rattle.banking.proofs.Laws.{rom_inside}
use Rattle.image.specs.Image.{byte_at, padded_length}
use Rattle.mapper.specs.Mappers as mapper
use Rattle.cartridge.specs.Fit.{fit_cart}
use Rattle.cartridge.specs.declared.Cartridge as our
use Rattle.cartridge.proofs.Laws.{fit_banks, fit_padded}
use Rattle.bus.specs.Bus.{rom_byte}
use Rattle.bus.specs.Run.{reads, writes, clocks, gave, took}
use Rattle.runs.specs.Padded.{padded}
use Rattle.runs.proofs.ImageLaws.{padded_length_lem, padded_byte}
use Rattle.original.specs.Machine.{Outcome, ok, panic, bind, index}
use Rattle.original.specs.MappingResult.{MappingResult, Mapped, mapped}
use Rattle.original.specs.Mapper as original
use Rattle.original.specs.Cartridge.{
  Cartridge,
  Read,
  with_mapper,
  with_ram,
  read_at,
  write_at,
  read_rom0,
  read_romx,
  write_to_bank_controller,
  read_ram,
  write_ram,
  clock_mapper,
}
use Rattle.original.specs.Step.{Left, left, clocks_of, original_step}
use Rattle.original.proofs.MachineLaws.{index_ok, inside, outside, arm_cases}

-- n calls of `clock`
abbrev pub mapper_clocks : ℕ → original.Mapper → Outcome original.Mapper
mapper_clocks zero o = ok o
mapper_clocks (suc n) o = bind (mapper_clocks n o) original.clock

-- ---- a read below 0x8000, of the image that our cartridge was mounted from

module _ (image : List ℕ) (c : our.Cartridge) (o : Cartridge) (fit : fit_cart c ≡ true) (long : length image ≡ c.length)
    (rom : o.rom ≡ padded image) where
  rom_long : length o.rom ≡ c.banks * 0x4000
  rom_long = ap length rom ∙ padded_length_lem image ∙ ap padded_length long ∙ eqb-true _ _ (fit_padded c fit)

  rom_byte_lem : (bank addr : ℕ) → index o.rom (rom_place c.banks bank addr) ≡ ok (byte_at image (rom_place c.banks bank addr))
  rom_byte_lem bank addr =
      let place = rom_place c.banks bank addr in
      index_ok o.rom place (omega (arith, rom_long, rom_inside c.banks bank addr (fit_banks c fit)))
      ∙ ap (λ (x : List ℕ). ok (get_or x place 0)) rom ∙ ap ok (padded_byte image place)

  pub rom_read : (addr : ℕ) → addr < 0x8000
      → (addr < 0x4000 → original.map_read_rom0 o.mapper addr ≡ ok (rom_place c.banks (mapper.bank0 c.mapper) addr))
      → (0x4000 ≤ addr → original.map_read_romx o.mapper addr ≡ ok (rom_place c.banks (mapper.bank_x c.mapper) addr))
      → original_step o (reads addr) ≡ ok (left (gave (rom_byte c image addr)) o)
  unfolding read_rom0 read_romx mapper.bank_at
  rom_read addr h first second =
      let f : ℕ → Outcome Left = λ bank. ok (left (gave (byte_at image (rom_place c.banks bank addr))) o) in
      let gives : Outcome ℕ → Outcome Left = λ x. bind x (λ b. ok (left (gave b) o)) in
      let at_place : Outcome ℕ → Outcome Left = λ x. gives (bind x (λ i. index o.rom i)) in
      arm_cases f 0x0000 0x3FFF addr (omega arith)
      (λ low. ap at_place (first (omega arith)) ∙ ap gives (rom_byte_lem (mapper.bank0 c.mapper) addr))
      (λ high.
      rw (inside 0x4000 0x7FFF addr (omega arith) (omega arith))
      (ap at_place (second (omega arith)) ∙ ap gives (rom_byte_lem (mapper.bank_x c.mapper) addr)))

module _ (o : Cartridge) where
  -- ---- the RAM window

  pub window_read_lem : (addr : ℕ) (next : original.Mapper) (result : MappingResult) (b : ℕ) → 0xA000 ≤ addr → addr ≤ 0xBFFF
      → original.map_ram_read o.mapper addr ≡ ok (mapped next result) → read_at o.ram result ≡ ok b
      → original_step o (reads addr) ≡ ok (left (gave b) (with_mapper o next))
  unfolding read_ram
  window_read_lem addr next result b l h e f =
      let reading : Mapped original.Mapper → Outcome ℕ → Outcome Read =
      λ y x. bind x (λ byte. ok (record { self = with_mapper o y.0; byte = byte })) in
      let is : read_ram o addr ≡ ok (record { self = with_mapper o next; byte = b }) =
      ap (λ (y : Outcome (Mapped original.Mapper)). bind y (λ z. reading z (read_at o.ram z.1))) e
      ∙ ap (reading (mapped next result)) f in
      rw (outside 0x0000 0x3FFF addr (omega arith), outside 0x4000 0x7FFF addr (omega arith), inside 0xA000 0xBFFF addr l h)
      (ap (λ (y : Outcome Read). bind y (λ z. ok (left (gave z.byte) z.self))) is)

  pub window_write_lem : (addr byte : ℕ) (next : original.Mapper) (result : MappingResult) (ram : List ℕ) → 0xA000 ≤ addr
      → addr ≤ 0xBFFF → original.map_ram_write o.mapper addr byte ≡ ok (mapped next result)
      → write_at o.ram result byte ≡ ok ram → original_step o (writes addr byte) ≡ ok (left took (with_ram o next ram))
  unfolding write_ram
  window_write_lem addr byte next result ram l h e f =
      let storing : Mapped original.Mapper → Outcome (List ℕ) → Outcome Cartridge =
      λ y x. bind x (λ z. ok (with_ram o y.0 z)) in
      let is : write_ram o addr byte ≡ ok (with_ram o next ram) =
      ap (λ (y : Outcome (Mapped original.Mapper)). bind y (λ z. storing z (write_at o.ram z.1 byte))) e
      ∙ ap (storing (mapped next result)) f in
      rw (outside 0x0000 0x7FFF addr (omega arith), inside 0xA000 0xBFFF addr l h)
      (ap (λ (y : Outcome Cartridge). bind y (λ d. ok (left took d))) is)

  -- ---- a register

  -- the access is taken with the mapper that comes of it, or panics as the mapper does
  abbrev pub taken_with : Outcome original.Mapper → Outcome Left
  taken_with x = bind (bind x (λ y. ok (with_mapper o y))) (λ d. ok (left took d))

  pub register_write : (addr byte : ℕ) (x : Outcome original.Mapper) → addr < 0x8000
      → original.write_bank_controller_register o.mapper addr byte ≡ x → original_step o (writes addr byte) ≡ taken_with x
  unfolding write_to_bank_controller
  register_write addr byte x h e = rw (inside 0x0000 0x7FFF addr (omega arith) (omega arith)) (ap taken_with e)

  -- ---- clocks: those of the mapper

  cart_clocks : (n : ℕ) → clocks_of n o ≡ bind (mapper_clocks n o.mapper) (λ x. ok (with_mapper o x))
  unfolding clocks_of clock_mapper
  cart_clocks zero = refl
  cart_clocks (suc n) =
      ap (λ (y : Outcome Cartridge). bind y clock_mapper) (cart_clocks n) ∙ go (mapper_clocks n o.mapper)
    where
      go : (y : Outcome original.Mapper) → bind (bind y (λ x. ok (with_mapper o x))) clock_mapper
          ≡ bind (bind y original.clock) (λ x. ok (with_mapper o x))
      go (ok y) = refl
      go panic = refl

  pub clocks_pass : (n : ℕ) (x : Outcome original.Mapper) → mapper_clocks n o.mapper ≡ x → original_step o (clocks n) ≡ taken_with x
  clocks_pass n x e = ap (λ (y : Outcome Cartridge). bind y (λ d. ok (left took d))) (cart_clocks n) ∙ ap taken_with e
