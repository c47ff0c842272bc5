-- A clock into which the block of a save was read, at a wall time: ours, and the Rust's.
use Rattle.std.specs.Prelude.{ℕ, Option}
use Rattle.clock.specs.Access.{shown_of}
use Rattle.clock.specs.declared.Clock.{Clock}
use Rattle.clock_block.specs.Layout.{block_bytes, block_in}
use Rattle.clock_block.specs.Waking.{woken_of}
use Rattle.clock_block.specs.declared.Block.{Block}
use Rattle.original.specs.Machine.{Outcome, ok, bind}
use Rattle.original.specs.Rtc.{RtcRegister, default, read_register}
use Rattle.original_saves.specs.Battery.{rtc_load}

abbrev pub our_clock : Block → ℕ → Clock
our_clock b wall = woken_of (block_in (block_bytes b)) wall

abbrev pub rust_clock : Block → ℕ → Outcome RtcRegister
rust_clock b wall = rtc_load (default wall) (block_bytes b)

-- register n, as the two then show it
abbrev pub ours_shows : Block → ℕ → ℕ → Option ℕ
ours_shows b wall n = shown_of (our_clock b wall) n

abbrev pub rust_shows : Block → ℕ → ℕ → Outcome ℕ
rust_shows b wall n = bind (rust_clock b wall) (λ r. bind (read_register r n) (λ p. ok p.1))
