-- One access to the original's cartridge, and a list of them: the function that serves the address, as the comments above
-- `read_rom0`, `read_romx`, `write_to_bank_controller`, `read_ram` and `write_ram` say. No function serves another address, so
-- such an access is none that can be made.
use Rattle.std.specs.Prelude.{List, [], ◌∷◌, ℕ, zero, suc}
use Rattle.facts.specs.Choice.{pick}
use Rattle.bus.specs.Run.{Access, Answer, reads, writes, clocks, gave, took}
use Rattle.original.specs.Machine.{Outcome, ok, panic, bind, within}
use Rattle.original.specs.Cartridge.{
  Cartridge,
  read_rom0,
  read_romx,
  write_to_bank_controller,
  read_ram,
  write_ram,
  clock_mapper,
}

-- the answer to an access, and the cartridge then
pub record Left : Type 0 where
  pub answer : Answer
  pub left : Cartridge

abbrev pub left : Answer → Cartridge → Left
left x c = record { answer = x; left = c }

-- n calls of `clock_mapper`
unfoldable pub clocks_of : ℕ → Cartridge → Outcome Cartridge
clocks_of zero c = ok c
clocks_of (suc n) c = bind (clocks_of n c) clock_mapper

abbrev pub original_step : Cartridge → Access → Outcome Left
original_step c (reads addr) =
    pick (within 0x0000 0x3FFF addr) (bind (read_rom0 c addr) (λ b. ok (left (gave b) c)))
    (pick (within 0x4000 0x7FFF addr) (bind (read_romx c addr) (λ b. ok (left (gave b) c)))
    (pick (within 0xA000 0xBFFF addr) (bind (read_ram c addr) (λ r. ok (left (gave r.byte) r.self))) panic))
original_step c (writes addr byte) =
    pick (within 0x0000 0x7FFF addr) (bind (write_to_bank_controller c addr byte) (λ d. ok (left took d)))
    (pick (within 0xA000 0xBFFF addr) (bind (write_ram c addr byte) (λ d. ok (left took d))) panic)
original_step c (clocks n) = bind (clocks_of n c) (λ d. ok (left took d))

-- all the answers, and what is left at the end
pub record Ran : Type 0 where
  pub answers : List Answer
  pub left : Cartridge

unfoldable pub original_run : Cartridge → List Access → Outcome Ran
original_run c [] = ok (record { answers = []; left = c })
original_run c (a ∷ as') =
    bind (original_step c a) (λ s.
    bind (original_run s.left as') (λ r. ok (record { answers = s.answer ∷ r.answers; left = r.left })))
