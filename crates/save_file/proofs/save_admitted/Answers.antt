-- `save_file::save_admitted` meets its contract: no room, or the RAM and what the battery keeps behind it.
use lib.ListN.{length, drop}
use lib.Seq.{take_all}
use native.Mathlib.Omega.{arith}
use mathlib.Core.List.{List, ◌++◌}
use mathlib.Core.Path.{refl, sym, ap, ◌∙◌}
use Prim.Native.Nat.{ℕ}
use Rattle.save_file.proofs.Laws.{saved_short, saved_wrote, put_save}
use Rattle.save_file.proofs.save_admitted.Goals as goal

pub returns-then-room-ram : goal.returns-then-room-ram
returns-then-room-ram c =
    let a = c.args in
    let t = c.if-room-ram.true in
    record {
      value = saved_short a.mapper a.ram.now a.wall (length a.room.now) c.save_battery_size-kept.ensures
          (omega arith);
      room_after = refl;
    }

pub returns-then-room-ram-2 : goal.returns-then-room-ram-2
returns-then-room-ram-2 c =
    let a = c.args in
    let t = c.if-room-ram-2.true in
    let u = c.if-room-ram.false in
    record {
      value = saved_short a.mapper a.ram.now a.wall (length a.room.now) c.save_battery_size-kept.ensures
          (omega arith);
      room_after = refl;
    }

pub returns : goal.returns
returns c =
    let a = c.args in
    let z = c.save_battery_size-kept.ensures in
    let t = c.if-room-ram-2.false in
    let u = c.if-room-ram.false in
    let whole = take_all (length a.ram.now) a.ram.now (omega arith) in
    record {
      value = saved_wrote a.mapper a.ram.now a.wall (length a.room.now) z refl (omega arith);
      room_after = put_save
          a.mapper a.ram.now a.room.now a.wall refl z
          (ap (λ (x : List ℕ). x ++ drop (length a.ram.now) a.room.now) (c.copy_from_slice.ensures.after ∙ sym whole))
          c.save_battery.ensures;
    }
