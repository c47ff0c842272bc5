-- `image::title` meets its contract: the end is title_end's.
use Rattle.std.proofs.Common.{rules}
use Rattle.image.proofs.ImageLaws.{title_none, start_early, start_late}
use Rattle.image.proofs.title.Goals as goal

pub returns-then-image-a : goal.returns-then-image-a
returns-then-image-a c =
    record {
      result_value = title_none _ c.if-image-a.true;
      ref_ptr_value = start_early _ _ c.if-image-a.true;
    }

pub returns : goal.returns
returns c =
    record {
      result_value = search rules;
      ref_ptr_value = start_late _ _ c.if-image-a.false;
    }
