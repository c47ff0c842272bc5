-- `player::imf_window_write` meets its contract: by what was done.
use Rattle.std.specs.Prelude.{Err}
use mathlib.Core.Path.{sym, ap, ◌∙◌}
use Rattle.windows.specs.Through.{put_of, area_after}
use Rattle.windows.specs.declared.Windows.{Windows}
use Rattle.player.specs.Windows.{put_number, window_write, area_through}
use Rattle.player.proofs.imf_window_write.Goals as goal

pub returns-in-Ok : goal.returns-in-Ok
unfolding window_write area_through
returns-in-Ok c =
    let a = c.args in
    let w = c.windows_in.ensures in
    record {
      value = ap put_number (sym c.in-Ok.is ∙ c.write.ensures.value ∙ ap (λ (x : Windows). put_of x a.addr) w);
      ram_after = c.write.ensures.ram_after ∙ ap (λ (x : Windows). area_after x a.ram.now a.addr a.byte) w;
    }

pub returns-in-Err-BadAddress : goal.returns-in-Err-BadAddress
unfolding window_write area_through
returns-in-Err-BadAddress c =
    let a = c.args in
    let w = c.windows_in.ensures in
    record {
      value = ap put_number (sym (c.in-Err-BadAddress.is ∙ ap Err c.in-Err-BadAddress.field-0-is) ∙ c.write.ensures.value ∙ ap (λ (x : Windows). put_of x a.addr) w);
      ram_after = c.write.ensures.ram_after ∙ ap (λ (x : Windows). area_after x a.ram.now a.addr a.byte) w;
    }

pub returns-in-Err-Ask : goal.returns-in-Err-Ask
unfolding window_write area_through
returns-in-Err-Ask c =
    let a = c.args in
    let w = c.windows_in.ensures in
    record {
      value = ap put_number (sym (c.in-Err-Ask.is ∙ ap Err c.in-Err-Ask.field-0-is) ∙ c.write.ensures.value ∙ ap (λ (x : Windows). put_of x a.addr) w);
      ram_after = c.write.ensures.ram_after ∙ ap (λ (x : Windows). area_after x a.ram.now a.addr a.byte) w;
    }
