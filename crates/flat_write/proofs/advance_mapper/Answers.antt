-- `flat_write::advance_mapper` meets its contract: the mapper's answer, put into the bytes.
use Rattle.facts.proofs.Handed.{handed_on}
use Rattle.std.specs.Prelude.{Result}
use mathlib.Core.Path.{sym, ap, ◌∙◌}
use Rattle.bus.specs.Advance.{from_mapper}
use Rattle.states.specs.Reading.{cart_in}
use Rattle.flat_write.specs.Calls.{passed_by, advance_state}
use Rattle.flat_write.proofs.Laws.{put_timed}
use Rattle.flat_write.proofs.advance_mapper.Goals as goal
use Rattle.mapper.specs.declared.Mapper.{Mapper}
use Rattle.clock.specs.declared.AdvanceRefusal.{AdvanceRefusal}

pub returns : goal.returns
returns c =
    let a = c.args in
    let s = a.s.now in
    let e = sym c.in_ok-next.was ∙ c.advance.ensures in
    record {
      value = ap (λ (x : Result Mapper AdvanceRefusal). passed_by (from_mapper (cart_in s a.m) x)) e;
      s_after = put_timed s a.m a.n e c.requires c.put.ensures;
    }

pub returns-in_err-next : goal.returns-in_err-next
returns-in_err-next c =
    let a = c.args in
    let s = a.s.now in
    let e = sym c.in_err-next.was ∙ c.advance.ensures in
    record {
      value = handed_on _ c.from_residual.ensures ∙ ap (λ (x : Result Mapper AdvanceRefusal). passed_by (from_mapper (cart_in s a.m) x)) e;
      s_after = ap (λ (x : Result Mapper AdvanceRefusal). advance_state s (from_mapper (cart_in s a.m) x)) e;
    }
