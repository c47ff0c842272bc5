-- `player::imf_window_read` meets its contract: by what is seen.
use Rattle.std.specs.Prelude.{Err}
use mathlib.Core.Path.{sym, ap, ◌∙◌}
use Prim.Native.Nat.{ℕ, ◌+◌, ◌%◌}
use Rattle.image.specs.Image.{byte_at}
use Rattle.windows.specs.Through.{seen_of}
use Rattle.windows.specs.declared.Windows.{Windows}
use Rattle.windows.proofs.Laws.{seen_rom}
use Rattle.player.specs.Windows.{windows_in, seen_number, window_read}
use Rattle.player.proofs.imf_window_read.Goals as goal

pub returns-then-addr-lt32768 : goal.returns-then-addr-lt32768
unfolding window_read
returns-then-addr-lt32768 c =
    let a = c.args in
    c.rom_byte.ensures
    ∙ ap (λ (k : ℕ). byte_at a.image.now (k + a.addr % 0x4000)) c.rom_start.ensures
    ∙ ap seen_number (seen_rom (windows_in a.windows.now) a.image.now a.ram.now a.addr c.if-addr-lt32768.true)

pub returns-in-Ok : goal.returns-in-Ok
unfolding window_read
returns-in-Ok c =
    let a = c.args in
    ap seen_number
    (sym c.in-Ok.is ∙ c.read.ensures
    ∙ ap (λ (w : Windows). seen_of w a.image.now a.ram.now a.addr) c.windows_in.ensures)

pub returns-in-Err-BadAddress : goal.returns-in-Err-BadAddress
unfolding window_read
returns-in-Err-BadAddress c =
    let a = c.args in
    ap seen_number
    (sym (c.in-Err-BadAddress.is ∙ ap Err c.in-Err-BadAddress.field-0-is) ∙ c.read.ensures
    ∙ ap (λ (w : Windows). seen_of w a.image.now a.ram.now a.addr) c.windows_in.ensures)

pub returns-in-Err-Ask : goal.returns-in-Err-Ask
unfolding window_read
returns-in-Err-Ask c =
    let a = c.args in
    ap seen_number
    (sym (c.in-Err-Ask.is ∙ ap Err c.in-Err-Ask.field-0-is) ∙ c.read.ensures
    ∙ ap (λ (w : Windows). seen_of w a.image.now a.ram.now a.addr) c.windows_in.ensures)
