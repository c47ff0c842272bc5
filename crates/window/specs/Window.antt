-- The RAM window 0xA000..=0xBFFF: what it shows, what a write to it changes (Bus 5, Bus 6, Bus 15, Bus 19).
use Rattle.std.specs.Prelude.{List, ◌++◌, ◌≡◌, ℕ, ◌+◌, get_or, set, take, drop, Some, None, Option}
use Rattle.facts.specs.Choice.{pick}
use Rattle.banking.specs.Banks.{Inside}
use Rattle.no_mapper.specs.Registers as none
use Rattle.mbc1.specs.Registers as mbc1
use Rattle.mbc2.specs.Registers as mbc2
use Rattle.mbc3.specs.Registers as mbc3
use Rattle.timer.specs.ClockWindow as clock
use Rattle.mbc3.specs.declared.Mbc3 as declared
use Rattle.mbc5.specs.Registers as mbc5
use Rattle.mapper.specs.declared.Mapper.{Mapper}
use Rattle.mapper.specs.declared.Mapper.TheVariants.{NoMapper, Mbc1, Mbc2, Mbc3, Mbc5}
use Rattle.window.specs.declared.Way.{Way}
use Rattle.window.specs.declared.Way.TheVariants.{Bytes, Half, Timer}

-- Bus 19: "MBC3's window shows RAM where RAM is selected .. where a clock register is selected .. it shows that register"
abbrev pub by_selection : declared.Mbc3 → ℕ → ℕ → Way
by_selection m size addr = pick m.memory (Bytes (mbc3.ram_at m size addr)) (Timer m)

-- what an address of the window leads to
abbrev pub way_of : Mapper → ℕ → ℕ → Way
way_of (NoMapper m) size addr = Bytes (none.ram_at m size addr)
way_of (Mbc1 m) size addr = Bytes (mbc1.ram_at m size addr)
way_of (Mbc2 m) size addr = Half m
way_of (Mbc3 m) size addr = by_selection m size addr
way_of (Mbc5 m) size addr = Bytes (mbc5.ram_at m size addr)

-- Bus 6: "What is not mapped reads 0xFF, and a write there changes nothing"
abbrev pub loaded : List ℕ → Option ℕ → ℕ
loaded ram (Some i) = get_or ram i 0
loaded ram None = 0xFF

abbrev pub stored : List ℕ → Option ℕ → ℕ → List ℕ
stored ram (Some i) byte = set ram i byte
stored ram None byte = ram

-- Header 12: "half-bytes, which are the last 512 of the area .. MBC2's operations are lent that part alone"
abbrev pub read_by : Way → ℕ → List ℕ → ℕ → ℕ
read_by (Bytes p) size ram addr = loaded ram p
read_by (Half m) size ram addr = mbc2.half_read m (drop size ram) addr
read_by (Timer m) size ram addr = clock.window_read m

abbrev pub area_by : Way → ℕ → List ℕ → ℕ → ℕ → List ℕ
area_by (Bytes p) size ram addr byte = stored ram p byte
area_by (Half m) size ram addr byte = take size ram ++ mbc2.half_after m (drop size ram) addr byte
area_by (Timer m) size ram addr byte = ram

abbrev pub mapper_by : Way → Mapper → ℕ → Mapper
mapper_by (Bytes p) m byte = m
mapper_by (Half h) m byte = m
mapper_by (Timer t) m byte = Mbc3 (clock.window_written t byte)

-- the byte that is read, and the area and the mapper after a write
unfoldable pub read_of : Mapper → ℕ → List ℕ → ℕ → ℕ
read_of m size ram addr = read_by (way_of m size addr) size ram addr

unfoldable pub area_after : Mapper → ℕ → List ℕ → ℕ → ℕ → List ℕ
area_after m size ram addr byte = area_by (way_of m size addr) size ram addr byte

unfoldable pub mapper_after : Mapper → ℕ → ℕ → ℕ → Mapper
mapper_after m size addr byte = mapper_by (way_of m size addr) m byte

-- a way stays within an area of n bytes
abbrev pub Within : Way → ℕ → ℕ → Type 0
Within (Bytes p) size n = Inside p n
Within (Half m) size n = n ≡ size + 512
Within (Timer m) size n = Unit {0}
