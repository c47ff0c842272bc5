-- `header::check` meets its contract: the tests 1 to 4, and then the rest.
use Rattle.header.proofs.CheckLaws.{no_1, no_2, no_3, no_4, on_to_5}
use mathlib.Core.Bool.{not}
use mathlib.Core.Path.{ap}
use Rattle.header.proofs.check.Goals as goal

pub returns-then-image-gt8388608 : goal.returns-then-image-gt8388608
returns-then-image-gt8388608 c =
    no_1 _ c.if-image-gt8388608.true

pub returns-then-not-logo_at : goal.returns-then-not-logo_at
returns-then-not-logo_at c =
    no_2 _ c.if-image-gt8388608.false c.logo_at.ensures (ap not c.if-not-logo_at.true)

pub returns-then-not-is_utf8 : goal.returns-then-not-is_utf8
returns-then-not-is_utf8 c =
    no_3 _ c.if-image-gt8388608.false c.logo_at.ensures (ap not c.if-not-logo_at.false) c.title.ensures.result_value c.is_utf8.ensures (ap not c.if-not-is_utf8.true)

pub returns : goal.returns
returns c =
    on_to_5 _ c.if-image-gt8388608.false c.logo_at.ensures (ap not c.if-not-logo_at.false) c.title.ensures.result_value c.is_utf8.ensures (ap not c.if-not-is_utf8.false) c.byte_at.ensures c.find.ensures c.in-Some.is c.check_sizes.ensures

pub returns-in_default : goal.returns-in_default
returns-in_default c =
    no_4 _ c.if-image-gt8388608.false c.logo_at.ensures (ap not c.if-not-logo_at.false) c.title.ensures.result_value c.is_utf8.ensures (ap not c.if-not-is_utf8.false) c.byte_at.ensures c.find.ensures c.in_default.is
