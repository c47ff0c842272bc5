-- Without an MBC3 the domain is the two windows: number 15 is all that it asks.
use mathlib.Core.Bool.{Bool, true}
use mathlib.Core.Path.{◌≡◌, refl}
use Rattle.mbc3.specs.declared.Mbc3 as declared
use Rattle.mapper.specs.declared.Mapper.{Mapper}
use Rattle.mapper.specs.declared.Mapper.TheVariants.{NoMapper, Mbc1, Mbc2, Mbc3, Mbc5}
use Rattle.bus.specs.Run.{Access, reads, writes, clocks}
use Rattle.original.specs.Domain.{Since, followed, still, clear, proper, timed, reached, selects, in_time, Allowed}

abbrev pub NoClock : Mapper → Type 0
NoClock (NoMapper m) = Unit {0}
NoClock (Mbc1 m) = Unit {0}
NoClock (Mbc2 m) = Unit {0}
NoClock (Mbc3 m) = ⊥
NoClock (Mbc5 m) = Unit {0}

untimed : (f : declared.Mbc3 → Bool) (m : Mapper) → NoClock m → timed f m ≡ true
untimed f (NoMapper m) n = refl
untimed f (Mbc1 m) n = refl
untimed f (Mbc2 m) n = refl
untimed f (Mbc3 m) n = absurd n
untimed f (Mbc5 m) n = refl

selected : (m : Mapper) (a : Access) → NoClock m → selects m a ≡ true
selected m (reads addr) n = refl
selected (NoMapper m) (writes addr byte) n = refl
selected (Mbc1 m) (writes addr byte) n = refl
selected (Mbc2 m) (writes addr byte) n = refl
selected (Mbc3 m) (writes addr byte) n = absurd n
selected (Mbc5 m) (writes addr byte) n = refl
selected m (clocks k) n = refl

timely : (m : Mapper) (past : Since) (a : Access) → NoClock m → in_time m past a ≡ true
timely (NoMapper m) past a n = refl
timely (Mbc1 m) past a n = refl
timely (Mbc2 m) past a n = refl
timely (Mbc3 m) past a n = absurd n
timely (Mbc5 m) past a n = refl

pub windows_suffice : (m next : Mapper) (past : Since) (a : Access) → NoClock m → NoClock next → reached a ≡ true
    → Allowed m past a next
windows_suffice m next past a n k r =
    record {
      address = r;
      selection = selected m a n;
      time = timely m past a n;
      followed = untimed (followed past a) m n;
      still = untimed (still a) m n;
      clear = untimed clear next k;
      proper = untimed (proper a) m n;
    }
