-- `windows::by_way` meets its contract: by the way.
use mathlib.Core.Path.{sym, ap, ◌∙◌}
use Rattle.window.specs.declared.Way.{Way}
use Rattle.windows.specs.Windows.{Small, by_way}
use mathlib.Core.Path.{subst}
use Rattle.windows.proofs.by_way.Goals as goal

pub bytes_at-requires : goal.bytes_at-requires
bytes_at-requires c =
    subst (λ (w : Way). Small w c.args.size) c.in-Bytes.is c.requires

pub halves_at-requires : goal.halves_at-requires
halves_at-requires c =
    subst (λ (w : Way). Small w c.args.size) c.in-Half.is c.requires

pub returns-in-Bytes : goal.returns-in-Bytes
returns-in-Bytes c =
    c.bytes_at.ensures ∙ ap (λ (w : Way). by_way w c.args.size) (sym c.in-Bytes.is)

pub returns-in-Half : goal.returns-in-Half
returns-in-Half c =
    c.halves_at.ensures ∙ ap (λ (w : Way). by_way w c.args.size) (sym c.in-Half.is)

pub returns-in-Timer : goal.returns-in-Timer
returns-in-Timer c =
    c.asks.ensures ∙ ap (λ (w : Way). by_way w c.args.size) (sym c.in-Timer.is)
