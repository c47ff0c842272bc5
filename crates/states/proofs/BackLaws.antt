-- The bytes of each kind of cartridge give it back, field by field.
use Rattle.std.specs.Prelude.{Some, None}
use mathlib.Core.Bool.{Bool, true, false}
use mathlib.Core.List.{List, [], ◌∷◌}
use mathlib.Core.Path.{◌≡◌, refl, ap, ◌∙◌}
use Prim.Native.Nat.{ℕ, ◌*◌, ◌^◌, ◌<◌}
use native.Mathlib.Omega.{arith}
use lib.Dec.{eqb, ltb, leb}
use lib.ListN.{replicate}
use Rattle.facts.specs.Choice.{pick, both, bit}
use Rattle.facts.proofs.ChoiceLaws.{both_true, bit_lt, pick_has}
use Rattle.bytes_le.specs.Little.{field_at}
use Rattle.clock.specs.Access.{start_at}
use Rattle.no_mapper.specs.declared.NoMapper as none-state
use Rattle.mbc1.specs.Registers as mbc1
use Rattle.mbc1.specs.declared.Mbc1 as mbc1-state
use Rattle.mbc2.specs.declared.Mbc2 as mbc2-state
use Rattle.mbc3.specs.Registers as mbc3
use Rattle.mbc3.specs.declared.Mbc3 as mbc3-state
use Rattle.mbc5.specs.declared.Mbc5 as mbc5-state
use Rattle.mapper.specs.declared.Mapper.{Mapper}
use Rattle.mapper.specs.declared.Mapper.TheVariants.{NoMapper, Mbc1, Mbc2, Mbc3, Mbc5}
use Rattle.cartridge.specs.With.{with_mapper}
use Rattle.cartridge.specs.declared.Cartridge.{Cartridge}
use Rattle.state_fields.specs.Fields.{Field, stored, flag_at, is_flag, are_flags}
use Rattle.state_fields.proofs.Laws.{registers_of_lem, clock_of_lem}
use Rattle.state_fields.proofs.StoredLaws.{clear, nth, lasting, reads_back}
use Rattle.states.specs.Layout.{kind_of, mbc3_fields, mapper, fields_of, encode_of}
use Rattle.states.specs.Reading.{flags_of, mbc1_in, cart_in, mapper_at, cart_at, is_state, decode_of}
use Rattle.states.specs.Plain.{plain}
use Rattle.states.specs.Widths.{Widths}
use Rattle.states.proofs.Laws.{mbc1_of_lem, mbc2_of_lem, mbc3_of_lem, mbc5_of_lem, cart_of_lem}

-- ---- fields of a state

abbrev written : List Field → List ℕ
written fs = stored fs (replicate 64 0)

-- a number, and a flag
module _ (fs : List Field) where
  number : (w k : ℕ) → lasting w k fs 64 ≡ true → (nth k fs).value < 2 ^ (w * 8) → field_at w (written fs) (nth k fs).at ≡ (nth k fs).value
  number w k e l = reads_back w k fs (replicate 64 0) e l

  flag_number : (b : Bool) (k : ℕ) → lasting 1 k fs 64 ≡ true → (nth k fs).value ≡ bit b → field_at 1 (written fs) (nth k fs).at ≡ bit b
  flag_number b k e p = number 1 k e (omega (arith, p, bit_lt b)) ∙ p

  flag : (b : Bool) (k : ℕ) → lasting 1 k fs 64 ≡ true → (nth k fs).value ≡ bit b → flag_at (written fs) (nth k fs).at ≡ b
  flag b k e p = ap (λ (n : ℕ). eqb n 1) (flag_number b k e p) ∙ is_one b
    where
      is_one : (b : Bool) → eqb (bit b) 1 ≡ b
      is_one true = refl
      is_one false = refl

  good : (b : Bool) (k : ℕ) → lasting 1 k fs 64 ≡ true → (nth k fs).value ≡ bit b → is_flag (written fs) (nth k fs).at ≡ true
  good b k e p = ap (λ (n : ℕ). leb n 1) (flag_number b k e p) ∙ is_low b
    where
      is_low : (b : Bool) → leb (bit b) 1 ≡ true
      is_low true = refl
      is_low false = refl

-- no field of a mapper stands on one of what was mounted
abbrev Off : List Field → Type 0
Off fs =
    (clear 1 0 fs ≡ true)
    × ((clear 1 1 fs ≡ true) × ((clear 2 8 fs ≡ true) × ((clear 8 16 fs ≡ true) × (clear 8 24 fs ≡ true))))

mapper_off : (m : Mapper) → Off (mapper m)
mapper_off (NoMapper m) = (refl, (refl, (refl, (refl, refl))))
mapper_off (Mbc1 m) = (refl, (refl, (refl, (refl, refl))))
mapper_off (Mbc2 m) = (refl, (refl, (refl, (refl, refl))))
mapper_off (Mbc3 m) = timed m.timer
  where
    timed : (t : Bool) → Off (mbc3_fields m t)
    timed true = (refl, (refl, (refl, (refl, refl))))
    timed false = (refl, (refl, (refl, (refl, refl))))
mapper_off (Mbc5 m) = (refl, (refl, (refl, (refl, refl))))

-- ---- what was mounted

module _ (c : Cartridge) where
  kind_back : field_at 1 (encode_of c) 0 ≡ kind_of c.mapper
  unfolding encode_of
  kind_back = number (fields_of c) 1 0 (mapper_off c.mapper).0 (low c.mapper)
    where
      low : (m : Mapper) → kind_of m < 256
      low (NoMapper m) = omega arith
      low (Mbc1 m) = pick_has (λ (k : ℕ). k < 256) m.multicart (omega arith) (omega arith)
      low (Mbc2 m) = omega arith
      low (Mbc3 m) = pick_has (λ (k : ℕ). k < 256) m.timer (omega arith) (omega arith)
      low (Mbc5 m) = omega arith

  battery_good : is_flag (encode_of c) 1 ≡ true
  unfolding encode_of
  battery_good = good (fields_of c) c.battery 1 (mapper_off c.mapper).1.0 refl

  cart_back : Widths c → (m : Mapper) → cart_in (encode_of c) m ≡ with_mapper c m
  unfolding encode_of
  cart_back w m =
      let o = (mapper_off c.mapper).1 in
      let fs = fields_of c in
      cart_of_lem m (number fs 8 3 o.1.1.0 w.length) (number fs 2 2 o.1.0 w.banks) (number fs 8 4 o.1.1.1 w.size)
      (flag fs c.battery 1 o.0 refl)

  -- the answer by the kind
  module _ (w : Widths c) (k : ℕ) (m : Mapper) {n : Mapper} where
    back_to : kind_of c.mapper ≡ k → are_flags (encode_of c) (flags_of k) ≡ true
        → pick (ltb k 7) (Some (cart_at (encode_of c) k)) None ≡ Some (cart_in (encode_of c) n)
        → n ≡ m
        → decode_of (encode_of c) ≡ Some (with_mapper c m)
    unfolding decode_of
    back_to e f b p =
        let s = encode_of c in
        let kind = kind_back ∙ e in
        ap (λ (x : ℕ). pick (is_state s x) (Some (cart_at s x)) None) kind
        ∙ ap (λ (g : Bool). pick (both g (ltb k 7)) (Some (cart_at s k)) None) f
        ∙ b
        ∙ ap (λ (x : Mapper). Some (cart_in s x)) p
        ∙ ap Some (cart_back w m)

-- ---- each mapper

-- the bytes of a cartridge within its widths give it back
abbrev pub Back : Cartridge → Type 0
Back c = Widths c → decode_of (encode_of c) ≡ Some (plain c)

module _ (c : Cartridge) where
  none_back : (m : none-state.NoMapper) → Back (with_mapper c (NoMapper m))
  unfolding are_flags flags_of mapper_at plain
  none_back m w =
      let d = with_mapper c (NoMapper m) in back_to d w 0 (NoMapper m) refl (both_true (battery_good d) refl) refl refl

  -- the fields of an MBC1, and that its flags are such
  module _ (t : Bool) (m : mbc1-state.Mbc1) where
    abbrev one : mbc1-state.Mbc1
    one = mbc1.mbc1 t m.enabled m.mode m.low m.two

    mbc1_good : are_flags (encode_of (with_mapper c (Mbc1 one))) (1 ∷ 2 ∷ 3 ∷ []) ≡ true
    unfolding encode_of are_flags
    mbc1_good =
        let d = with_mapper c (Mbc1 one) in
        both_true (battery_good d)
        (both_true (good (fields_of d) m.enabled 5 refl refl) (both_true (good (fields_of d) m.mode 6 refl refl) refl))

    mbc1_fields : Widths (with_mapper c (Mbc1 one)) → mbc1_in (encode_of (with_mapper c (Mbc1 one))) t ≡ one
    unfolding encode_of
    mbc1_fields w =
        let fs = fields_of (with_mapper c (Mbc1 one)) in
        mbc1_of_lem (flag fs m.enabled 5 refl refl) (flag fs m.mode 6 refl refl) (number fs 1 7 refl w.mapper.0)
        (number fs 1 8 refl w.mapper.1)

  mbc1_back : (t : Bool) (m : mbc1-state.Mbc1) → Back (with_mapper c (Mbc1 (one t m)))
  unfolding flags_of mapper_at plain
  mbc1_back true m w =
      back_to (with_mapper c (Mbc1 (one true m))) w 2 (Mbc1 (one true m)) refl (mbc1_good true m) refl (ap Mbc1 (mbc1_fields true m w))
  mbc1_back false m w =
      back_to (with_mapper c (Mbc1 (one false m))) w 1 (Mbc1 (one false m)) refl (mbc1_good false m) refl
      (ap Mbc1 (mbc1_fields false m w))

  mbc2_back : (m : mbc2-state.Mbc2) → Back (with_mapper c (Mbc2 m))
  unfolding encode_of are_flags flags_of mapper_at plain
  mbc2_back m w =
      let d = with_mapper c (Mbc2 m) in
      let fs = fields_of d in
      back_to d w 3 (Mbc2 m) refl (both_true (battery_good d) (both_true (good fs m.enabled 5 refl refl) refl)) refl
      (ap Mbc2 (mbc2_of_lem (flag fs m.enabled 5 refl refl) (number fs 1 7 refl w.mapper)))

  mbc5_back : (m : mbc5-state.Mbc5) → Back (with_mapper c (Mbc5 m))
  unfolding encode_of are_flags flags_of mapper_at plain
  mbc5_back m w =
      let d = with_mapper c (Mbc5 m) in
      let fs = fields_of d in
      back_to d w 6 (Mbc5 m) refl (both_true (battery_good d) (both_true (good fs m.enabled 5 refl refl) refl)) refl
      (ap Mbc5
      (mbc5_of_lem (flag fs m.enabled 5 refl refl) (number fs 2 7 refl w.mapper.0) (number fs 1 8 refl w.mapper.1)))

  -- an MBC3 by its timer
  abbrev three : Bool → mbc3-state.Mbc3 → mbc3-state.Mbc3
  three t m = mbc3.mbc3 t m.enabled m.bank m.memory m.ram m.register m.clock

  untimed_back : (m : mbc3-state.Mbc3) → Back (with_mapper c (Mbc3 (three false m)))
  unfolding encode_of are_flags flags_of mapper_at plain
  untimed_back m w =
      let d = with_mapper c (Mbc3 (three false m)) in
      let fs = fields_of d in
      back_to d w 4 (Mbc3 (mbc3.mbc3 false m.enabled m.bank m.memory m.ram 0 (start_at 0))) refl
      (both_true (battery_good d)
      (both_true (good fs m.enabled 5 refl refl) (both_true (good fs m.memory 6 refl refl) refl)))
      refl
      (ap Mbc3
      (mbc3_of_lem (flag fs m.enabled 5 refl refl) (number fs 1 7 refl w.mapper.bank) (flag fs m.memory 6 refl refl)
      (number fs 1 8 refl w.mapper.ram) refl refl))

  timed_back : (m : mbc3-state.Mbc3) → Back (with_mapper c (Mbc3 (three true m)))
  unfolding encode_of are_flags flags_of mapper_at plain
  timed_back m w =
      let d = with_mapper c (Mbc3 (three true m)) in
      let fs = fields_of d in
      let k = m.clock in
      let v = w.mapper.timed refl in
      back_to d w 5 (Mbc3 (three true m)) refl
      (both_true (battery_good d)
      (both_true (good fs m.enabled 5 refl refl)
      (both_true (good fs m.memory 6 refl refl)
      (both_true (good fs k.latched 12 refl refl)
      (both_true (good fs k.running.halt 17 refl refl)
      (both_true (good fs k.running.carry 18 refl refl)
      (both_true (good fs k.frozen.halt 23 refl refl) (both_true (good fs k.frozen.carry 24 refl refl) refl))))))))
      refl
      (ap Mbc3
      (mbc3_of_lem (flag fs m.enabled 5 refl refl) (number fs 1 7 refl w.mapper.bank) (flag fs m.memory 6 refl refl)
      (number fs 1 8 refl w.mapper.ram) (number fs 1 9 refl v.register)
      (clock_of_lem
      (registers_of_lem (number fs 1 13 refl v.running.second) (number fs 1 14 refl v.running.minute)
      (number fs 1 15 refl v.running.hour) (number fs 2 16 refl v.running.day) (flag fs k.running.halt 17 refl refl)
      (flag fs k.running.carry 18 refl refl))
      (number fs 4 11 refl v.sub) (number fs 8 10 refl v.time) (flag fs k.latched 12 refl refl)
      (registers_of_lem (number fs 1 19 refl v.frozen.second) (number fs 1 20 refl v.frozen.minute)
      (number fs 1 21 refl v.frozen.hour) (number fs 2 22 refl v.frozen.day) (flag fs k.frozen.halt 23 refl refl)
      (flag fs k.frozen.carry 24 refl refl)))))

-- whatever the mapper
pub back : (c : Cartridge) (m : Mapper) → Back (with_mapper c m)
back c (NoMapper m) = none_back c m
back c (Mbc1 m) = mbc1_back c m.multicart m
back c (Mbc2 m) = mbc2_back c m
back c (Mbc3 m) = by_timer m.timer
  where
    by_timer : (t : Bool) → Back (with_mapper c (Mbc3 (three c t m)))
    by_timer true = timed_back c m
    by_timer false = untimed_back c m
back c (Mbc5 m) = mbc5_back c m
