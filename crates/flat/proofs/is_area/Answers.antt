-- `flat::is_area` meets its contract: an MBC2's, or the header's RAM.
use mathlib.Core.Path.{ap, ◌∙◌}
use Prim.Native.Nat.{ℕ, ◌+◌}
use lib.Dec.{eqb}
use Rattle.bytes_le.specs.Little.{field_at}
use Rattle.mapper.specs.Mappers.{area_of}
use Rattle.mapper.specs.declared.Mapper.{Mapper}
use Rattle.mapper.specs.declared.Mapper.TheVariants.{Mbc2}
use Rattle.states.specs.Reading.{mapper_at}
use Rattle.states.proofs.Laws.{of_kind}
use Rattle.flat.proofs.Laws.{area_of_size}
use Rattle.flat.proofs.is_area.Goals as goal

pub returns-then-kind-eq3 : goal.returns-then-kind-eq3
unfolding mapper_at
returns-then-kind-eq3 c =
    let a = c.args in
    of_kind (λ (m : Mapper). eqb a.len (area_of m (field_at 8 a.s.now 24))) a.s.now c.if-kind-eq3.true
    (ap Mbc2 c.mbc2_in.ensures) (c.is_area.ensures ∙ ap (λ (z : ℕ). eqb a.len (z + 512)) c.read-size.ensures)

pub returns : goal.returns
returns c =
    let a = c.args in
    ap (eqb a.len) (c.read-size.ensures ∙ area_of_size a.s.now a.kind (field_at 8 a.s.now 24) c.if-kind-eq3.false)
