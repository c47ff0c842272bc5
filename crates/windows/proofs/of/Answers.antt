-- `windows::of` meets its contract: a fit cartridge's windows stand.
use mathlib.Core.Path.{sym, ◌∙◌}
use Rattle.windows.specs.Windows.{ask_of}
use Rattle.windows.proofs.Laws.{fit_stands}
use Rattle.windows.proofs.of.Goals as goal

pub standing-requires : goal.standing-requires
standing-requires c =
    fit_stands c.args.cart (sym c.fit.ensures ∙ c.if-fit.true)

pub returns-then-fit : goal.returns-then-fit
unfolding ask_of
returns-then-fit c =
    rw (sym c.fit.ensures ∙ c.if-fit.true, c.standing.ensures)

pub returns : goal.returns
unfolding ask_of
returns c =
    rw (sym c.fit.ensures ∙ c.if-fit.false)
