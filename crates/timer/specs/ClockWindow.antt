-- The clock's registers in the RAM window (Bus 18, Bus 19).
use Rattle.std.specs.Prelude.{Bool, not, ℕ, Some, None, Option, unwrap_or}
use Rattle.facts.specs.Choice.{pick, both}
use Rattle.clock.specs.Access.{shown_of, written_of}
use Rattle.clock.specs.declared.Clock.{Clock}
use Rattle.mbc3.specs.Registers.{with_clock}
use Rattle.mbc3.specs.declared.Mbc3.{Mbc3}

-- Bus 19: "where a clock register is selected, and RAM is enabled, it shows that register at every address"; Bus 18: "Without a
-- timer a clock selection is taken, and then nothing is mapped"
abbrev pub on_clock : Mbc3 → Bool
on_clock m = both m.timer (both m.enabled (not m.memory))

-- Bus 6: "What is not mapped reads 0xFF"
abbrev pub byte_or : Option ℕ → ℕ
byte_or b = unwrap_or b 0xFF

unfoldable pub window_read : Mbc3 → ℕ
window_read m = pick (on_clock m) (byte_or (shown_of m.clock m.register)) 0xFF

-- Bus 6: "a write there changes nothing"
abbrev pub clock_or : Mbc3 → Option Clock → Mbc3
clock_or m (Some c) = with_clock m c
clock_or m None = m

unfoldable pub window_written : Mbc3 → ℕ → Mbc3
window_written m byte = pick (on_clock m) (clock_or m (written_of m.clock m.register byte)) m
