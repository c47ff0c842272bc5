-- `mbc3::Mbc3::ram_at` meets its contract: enabled and selected, or not.
use mathlib.Core.Path.{sym, ◌∙◌}
use Rattle.mbc3.specs.Registers.{ram_at}
use Rattle.mbc3.proofs.Mbc3.ram_at.Goals as goal

pub returns-then-both : goal.returns-then-both
unfolding ram_at
returns-then-both c =
    simp (sym c.both.ensures ∙ c.if-both.true) c.banked_place.ensures

pub returns : goal.returns
unfolding ram_at
returns c =
    simp (sym c.both.ensures ∙ c.if-both.false)
