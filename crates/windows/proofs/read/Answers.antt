-- `windows::read` meets its contract: by the window.
use Rattle.std.specs.Prelude.{Ok}
use mathlib.Core.Path.{ap, ◌∙◌}
use Prim.Native.Nat.{ℕ, ◌+◌, ◌%◌}
use Rattle.image.specs.Image.{byte_at}
use Rattle.windows.proofs.Laws.{seen_rom, seen_ram, seen_outside}
use Rattle.access.proofs.Laws.{below_ram, above_ram}
use Rattle.windows.proofs.read.Goals as goal

pub returns-in-0-to-32767 : goal.returns-in-0-to-32767
returns-in-0-to-32767 c =
    let a = c.args in
    ap Ok
    (c.rom_byte.ensures ∙ ap (λ (k : ℕ). byte_at a.rom.now (k + a.addr % 0x4000)) c.rom_start.ensures)
    ∙ seen_rom a.w a.rom.now a.ram.now a.addr c.in-0-to-32767.if-addr-lt32768-own.true

pub returns-in-40960-to-49151 : goal.returns-in-40960-to-49151
returns-in-40960-to-49151 c =
    let a = c.args in
    c.ram_seen.ensures
    ∙ seen_ram a.w a.rom.now a.ram.now a.addr c.in-40960-to-49151.if-addr-lt40960-own.false c.in-40960-to-49151.if-addr-lt49152-own.true

pub returns-in_default : goal.returns-in_default
returns-in_default c =
    let a = c.args in
    seen_outside a.w a.rom.now a.ram.now a.addr c.in_default.if-addr-lt32768-own.false (below_ram a.addr c.in_default.if-addr-lt40960-own.true)

pub returns-in_default-2 : goal.returns-in_default-2
returns-in_default-2 c =
    let a = c.args in
    seen_outside a.w a.rom.now a.ram.now a.addr c.in_default.if-addr-lt32768-own.false (above_ram a.addr c.in_default.if-addr-lt49152-own.false)
