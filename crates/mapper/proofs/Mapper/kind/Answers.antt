-- `mapper::Mapper::kind` meets its contract: by the mapper that is in it.
use mathlib.Core.Path.{sym, ap}
use Rattle.mapper.specs.Mappers.{kind_of}
use Rattle.mapper.proofs.Mapper.kind.Goals as goal

pub returns-in-Mbc3 : goal.returns-in-Mbc3
returns-in-Mbc3 c =
    ap kind_of (sym c.in-Mbc3.is)
