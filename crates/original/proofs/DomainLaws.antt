-- What the domain's clauses say of an access to an MBC3, as premises of the laws.
use mathlib.Core.Bool.{Bool, true, false, not}
use mathlib.Core.List.{List, [], ◌∷◌}
use mathlib.Core.Path.{◌≡◌, refl, sym, ap, ◌∙◌, subst}
use Prim.Native.Nat.{ℕ, ◌+◌, ◌%◌, ◌<◌}
use native.Mathlib.Omega.{arith}
use lib.Dec.{eqb}
use borrow.Author.Tests.{eq-eqb, eqb-true, leb-true, ltb-false}
use Rattle.facts.specs.Choice.{pick, both, either}
use Rattle.facts.proofs.ChoiceLaws.{false≢true, both_parts, both_true, either_true, not_true, neither}
use Rattle.clock.specs.Access.{written_clock}
use Rattle.clock.specs.Ticking.{ticks}
use Rattle.mbc3.specs.Registers as mbc3
use Rattle.mbc3.specs.declared.Mbc3 as declared
use Rattle.timer.specs.Advance as timer
use Rattle.timer.specs.ClockWindow.{on_clock, window_written}
use Rattle.timer.proofs.WindowLaws.{on_timer, write_on, written_there}
use Rattle.mapper.specs.Mappers.{clocks_on}
use Rattle.mapper.specs.declared.Mapper.{Mapper}
use Rattle.mapper.specs.declared.Mapper.TheVariants.{Mbc3}
use Rattle.access.specs.Verdict.{in_ram}
use Rattle.bus.specs.Run.{Access, writes, clocks, Machine, step_of}
use Rattle.original.specs.Machine.{u64}
use Rattle.original.specs.Mbc3 as rust
use Rattle.original.specs.Domain.{
  Since,
  completed,
  latch_write,
  clock_write,
  followed,
  still,
  clear,
  proper,
  timed,
  within,
  since_after,
  Allowed,
  InDomain,
}
use Rattle.original.specs.Clauses.{Tests, tests, all_hold, meet, tests_of, kept}
use Rattle.original.specs.Follows.{Same}
use Rattle.original.proofs.FollowsLaws.{ProperWrite}
use Rattle.original.proofs.Mbc3Laws.{ClockWrite, Clocks}

-- ---- a sequence all of whose tests hold is in the domain

met : (x y : Tests) → meet x y ≡ all_hold → (x ≡ all_hold) × (y ≡ all_hold)
met x y e =
    let a = both_parts x.address y.address (ap (λ (t : Tests). t.address) e) in
    let b = both_parts x.selection y.selection (ap (λ (t : Tests). t.selection) e) in
    let c = both_parts x.time y.time (ap (λ (t : Tests). t.time) e) in
    let d = both_parts x.followed y.followed (ap (λ (t : Tests). t.followed) e) in
    let f = both_parts x.still y.still (ap (λ (t : Tests). t.still) e) in
    let g = both_parts x.clear y.clear (ap (λ (t : Tests). t.clear) e) in
    let h = both_parts x.proper y.proper (ap (λ (t : Tests). t.proper) e) in (
      row a.0 b.0 c.0 d.0 f.0 g.0 h.0,
      row a.1 b.1 c.1 d.1 f.1 g.1 h.1,
    )
  where
    row : {a b c d f g h : Bool} → a ≡ true → b ≡ true → c ≡ true → d ≡ true → f ≡ true → g ≡ true → h ≡ true
        → tests a b c d f g h ≡ all_hold
    row p q r s t u v = rw (p, q, r, s, t, u, v) refl

pub kept_domain : (rom : List ℕ) (m : Machine) (s : Since) (as' : List Access) → kept rom m s as' ≡ all_hold
    → InDomain rom m s as'
kept_domain rom m s [] e = tt
kept_domain rom m s (a ∷ as') e =
    let next = (step_of rom m a).left in
    let x = tests_of m.cart.mapper s a next.cart.mapper in
    let y = kept rom next (since_after m.cart.mapper s a) as' in
    let parts = met x y e in (
      record {
        address = ap (λ (t : Tests). t.address) parts.0;
        selection = ap (λ (t : Tests). t.selection) parts.0;
        time = ap (λ (t : Tests). t.time) parts.0;
        followed = ap (λ (t : Tests). t.followed) parts.0;
        still = ap (λ (t : Tests). t.still) parts.0;
        clear = ap (λ (t : Tests). t.clear) parts.0;
        proper = ap (λ (t : Tests). t.proper) parts.0;
      },
      kept_domain rom next (since_after m.cart.mapper s a) as' parts.1,
    )

-- ---- the clauses one by one

implied : (a b : Bool) → either (not a) b ≡ true → a ≡ true → b ≡ true
implied true b e q = e
implied false b e q = false≢true q

-- a clause of a cartridge with a timer
of_timer : (f : declared.Mbc3 → Bool) (t : declared.Mbc3) → timed f (Mbc3 t) ≡ true → t.timer ≡ true → f t ≡ true
of_timer f t = implied t.timer (f t)

-- this is not so, Numbers 17: "the clock's time would pass 2^64 - 1 seconds"
pub in_time_lem : (t : declared.Mbc3) (s : Since) (n : ℕ) → within t s (clocks n) ≡ true
    → (ticks (pick t.timer n (s.idle + n)) t.clock).time < u64
in_time_lem t s n e =
    let x = (ticks (pick t.timer n (s.idle + n)) t.clock).time in
    let l = ltb-false 18446744073709551615 x (not_true _ e) in
    omega arith

module _ (banks size : ℕ) (s : Since) (t : declared.Mbc3) (u : rust.Mbc3) (same : Same banks size s t u) where
  module _ (at byte : ℕ) (next : Mapper) (allowed : Allowed (Mbc3 t) s (writes at byte) next) where
    -- Original 3: "before any latch write, clock write": nothing is due
    none_due : t.timer ≡ true → either (latch_write at) (clock_write t at) ≡ true → s.due ≡ 0
    none_due h e =
        eqb-true s.due 0
        (go (eqb s.due 0) (either (latch_write at) (clock_write t at))
        (of_timer (followed s (writes at byte)) t allowed.followed h) e)
      where
        go : (a b : Bool) → either a (not b) ≡ true → b ≡ true → a ≡ true
        go true b p q = refl
        go false true p q = p
        go false false p q = false≢true q

    pub latch_due : latch_write at ≡ true → t.timer ≡ true → s.due ≡ 0
    latch_due l h = none_due h (ap (λ (b : Bool). either b (clock_write t at)) l)

    -- Original 3: "nobody writes 60 to the minute or 24 to the hour"
    never : clock_write t at ≡ true → ProperWrite t.register byte
    never w = (
      λ n q. clash (both_true (eq-eqb t.register 1 n) (eq-eqb (byte % 64) 60 q)) none.0,
      λ n q. clash (both_true (eq-eqb t.register 2 n) (eq-eqb (byte % 32) 24 q)) none.1,
    )
      where
        clash : {b : Bool} → b ≡ true → b ≡ false → ⊥
        clash p q = false≢true (sym q ∙ p)

        timer : t.timer ≡ true
        timer = on_timer t (both_parts (in_ram at) (on_clock t) w).1

        none : (both (eqb t.register 1) (eqb (byte % 64) 60) ≡ false)
            × (both (eqb t.register 2) (eqb (byte % 32) 24) ≡ false)
        none =
            neither (both (eqb t.register 1) (eqb (byte % 64) 60)) (both (eqb t.register 2) (eqb (byte % 32) 24))
            (ap (λ (b : Bool). both b
            (either (both (eqb t.register 1) (eqb (byte % 64) 60)) (both (eqb t.register 2) (eqb (byte % 32) 24))))
            (sym w)
            ∙ not_true _ (of_timer (proper (writes at byte)) t allowed.proper timer))

    pub clock_write_lem : in_ram at ≡ true → next ≡ Mbc3 (window_written t byte) → on_clock t ≡ true
        → ClockWrite banks size s t u same byte
    clock_write_lem i e on =
        let w : clock_write t at ≡ true = both_true i on in
        let timer = on_timer t on in
        let there : window_written t byte ≡ mbc3.with_clock t (written_clock t.clock t.register byte) =
        sym (write_on t byte _ on refl) ∙ written_there t byte same.register in
        let kept = subst (λ (m : Mapper). timed clear m ≡ true) (e ∙ ap Mbc3 there) allowed.clear in
        record {
          none = none_due timer (ap (either (latch_write at)) w ∙ either_true (latch_write at));
          proper = never w;
          clear = not_true _ (of_timer clear (mbc3.with_clock t (written_clock t.clock t.register byte)) kept timer);
        }

  module _ (n : ℕ) (allowed : Allowed (Mbc3 t) s (clocks n) (clocks_on (Mbc3 t) n)) where
    -- what Original 3 asks of seconds: no carry, none in a freeze, and after each a read before the next
    pub clocks_allowed : t.timer ≡ true → Clocks banks size s t u same n
    unfolding timer.clocks_on
    clocks_allowed h =
        let there : timer.clocks_on t n ≡ mbc3.with_clock t (ticks n t.clock) =
        ap (λ (b : Bool). pick b (mbc3.with_clock t (ticks n t.clock)) t) h in
        let kept = subst (λ (m : declared.Mbc3). timed clear (Mbc3 m) ≡ true) there allowed.clear in
        record {
          clear = not_true _ (of_timer clear (mbc3.with_clock t (ticks n t.clock)) kept h);
          still =
              λ l.
              eqb-true (completed t n) 0
              (implied t.clock.latched (eqb (completed t n) 0) (of_timer (still (clocks n)) t allowed.still h) l);
          few = leb-true (s.due + completed t n) 1 (of_timer (followed s (clocks n)) t allowed.followed h);
        }
