-- `states::decode` meets its contract, by its kind and flags.
use Rattle.std.specs.Prelude.{Some}
use mathlib.Core.Bool.{true, false}
use mathlib.Core.Path.{refl, ap, ◌∙◌}
use Rattle.states.specs.Reading.{cart_in}
use Rattle.states.proofs.Laws.{decoded}
use Rattle.states.proofs.decode.Goals as goal

pub returns-then-both : goal.returns-then-both
returns-then-both c =
    let s = c.args.s.now in
    decoded s true c.read-kind.ensures c.are_flags.ensures c.both.ensures c.if-both.true
    (ap Some (c.cart_in.ensures ∙ ap (cart_in s) c.mapper_in.ensures))

pub returns : goal.returns
returns c =
    decoded c.args.s.now false c.read-kind.ensures c.are_flags.ensures c.both.ensures c.if-both.false refl
