-- `MapperType` and `MappingResult` (mappers/mod.rs).
use Rattle.std.specs.Prelude.{Bool, ℕ}

pub data MapperType : Type 0 where
  NoMapper : MapperType
  Mbc1 : Bool → MapperType
  Mbc2 : MapperType
  Mbc3 : Bool → MapperType
  Mbc5 : Bool → MapperType
  Mmm01 : MapperType
  Mbc6 : MapperType
  Mbc7 : MapperType

pub data MappingResult : Type 0 where
  Addr : ℕ → MappingResult
  Value : ℕ → MappingResult
  NotMapped : MappingResult

-- what a function of `&mut self` hands back: the state, and its result
abbrev pub Mapped : Type 0 → Type 0
Mapped S = S × MappingResult

abbrev pub mapped : {S : Type 0} → S → MappingResult → Mapped S
mapped s r = (s, r)
