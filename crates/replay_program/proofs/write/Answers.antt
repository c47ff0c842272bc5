-- `replay_program::write` meets its contract: by what was taken of each file.
use Rattle.std.specs.Prelude.{option_copied}
use mathlib.Core.Path.{refl, sym, ap, ◌∙◌}
use Prim.Native.Nat.{◌≤◌}
use native.Mathlib.Omega.{arith}
use lib.ListN.{length}
use borrow.Author.Rules.{rules}
use Rattle.replay_text.proofs.Bounds.{room_16384}
use Rattle.replay_program.proofs.Laws.{taken_le, ram_by, wrote}
use Rattle.replay_program.proofs.write.Goals as goal

pub returns-in_default : goal.returns-in_default
returns-in_default c =
    let a = c.args in
    let p = c.put_file.ensures in
    let i = sym (ap option_copied c.in_default.is) ∙ c.taken.ensures in
    let l : 2 ≤ length a.room.now = search rules in
    let x = wrote (option_copied a.image) (option_copied a.trace) i refl p (omega (arith, l, p.behind)) in
    record { value = x.0; room_after = x.1; ram_after = ram_by (option_copied a.image) (option_copied a.trace) i refl a.ram.now refl }

pub returns-in_default-taken : goal.returns-in_default-taken
returns-in_default-taken c =
    let a = c.args in
    let p = c.put_file-in_default-taken.ensures in
    let i = sym (ap option_copied c.in-Some.is) ∙ c.taken.ensures in
    let t = sym (ap option_copied c.in_default-taken.is) ∙ c.taken-2.ensures in
    let l : 2 ≤ length a.room.now = search rules in
    let x = wrote (option_copied a.image) (option_copied a.trace) i t p (omega (arith, l, p.behind)) in
    record { value = x.0; room_after = x.1; ram_after = ram_by (option_copied a.image) (option_copied a.trace) i t a.ram.now refl }

pub on_both-requires : goal.on_both-requires
on_both-requires c =
    let a = c.args in
    let t = sym (ap option_copied c.in-Some-taken.is) ∙ c.taken-2.ensures in
    let h = room_16384 (length c.in-Some-taken.trace.now) (taken_le (option_copied a.trace) 16384 (sym t)) in
    let l : 41008 ≤ length a.room.now = search rules in
    record {
      in_bounds = search rules;
      trace_in_bounds = omega (arith, h, l);
    }

pub returns : goal.returns
returns c =
    let a = c.args in
    let d = c.on_both.ensures in
    let i = sym (ap option_copied c.in-Some.is) ∙ c.taken.ensures in
    let t = sym (ap option_copied c.in-Some-taken.is) ∙ c.taken-2.ensures in
    let x = wrote (option_copied a.image) (option_copied a.trace) i t d.put d.upper_bound in
    record { value = x.0; room_after = x.1; ram_after = ram_by (option_copied a.image) (option_copied a.trace) i t a.ram.now d.ram_after }
