-- `mapper::Mapper::area` meets its contract: by the mapper.
use mathlib.Core.Path.{sym, ap}
use Rattle.mapper.specs.Mappers.{area_of}
use Rattle.mapper.specs.declared.Mapper.{Mapper}
use Rattle.mapper.proofs.Mapper.area.Goals as goal

pub returns-in-Mbc2 : goal.returns-in-Mbc2
returns-in-Mbc2 c =
    ap (λ (m : Mapper). area_of m c.args.size) (sym c.in-Mbc2.is)
