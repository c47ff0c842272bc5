-- `window::write` meets its contract: every way is within the area.
use mathlib.Core.Path.{ap, ◌∙◌}
use Rattle.window.proofs.Laws.{lent_within}
use Rattle.window.specs.Window.{mapper_by, area_by, mapper_after, area_after}
use Rattle.window.proofs.write.Goals as goal

pub write_by-requires : goal.write_by-requires
write_by-requires c =
    lent_within c.args.mapper c.args.size c.args.addr c.way_of.ensures c.requires

pub returns : goal.returns
unfolding mapper_after area_after
returns c =
    record {
      value = c.write_by.ensures.value
          ∙ ap (λ w. mapper_by w c.args.mapper c.args.byte) c.way_of.ensures;
      ram_after = c.write_by.ensures.ram_after
          ∙ ap (λ w. area_by w c.args.size c.args.ram.now c.args.addr c.args.byte)
          c.way_of.ensures;
    }
