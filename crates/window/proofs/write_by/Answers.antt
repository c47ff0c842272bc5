-- `window::write_by` meets its contract: the bytes, the half-bytes at the area's end, or the clock.
use mathlib.Core.Path.{◌∙◌}
use native.Mathlib.Omega.{arith}
use lib.ListN.{length-drop}
use Rattle.facts.proofs.ListLaws.{part_from, part_back}
use Rattle.window.proofs.write_by.Goals as goal

pub store-requires : goal.store-requires
store-requires c =
    rw c.in-Bytes.is at c.requires

pub slice_bounds-write_half-count : goal.slice_bounds-write_half-count
slice_bounds-write_half-count c =
    let q = rw c.in-Half.is at c.requires in
    omega arith

pub slice_bounds-write_half-start : goal.slice_bounds-write_half-start
slice_bounds-write_half-start c =
    let q = rw c.in-Half.is at c.requires in
    omega arith

pub write_half-requires : goal.write_half-requires
write_half-requires c =
    let q = rw c.in-Half.is at c.requires in
    simp (part_from c.args.size c.args.ram.now) (omega (arith, length-drop c.args.size c.args.ram.now))

pub returns-in-Bytes : goal.returns-in-Bytes
returns-in-Bytes c =
    let w = c.in-Bytes.is in
    record {
      value = simp w;
      ram_after = simp (w, c.store.ensures);
    }

pub returns-in-Half : goal.returns-in-Half
returns-in-Half c =
    let w = c.in-Half.is in
    record {
      value = simp w;
      ram_after = part_back c.args.size c.args.ram.now c.write_half.new.half
          ∙ simp (w, c.write_half.ensures, part_from c.args.size c.args.ram.now);
    }

pub returns-in-Timer : goal.returns-in-Timer
returns-in-Timer c =
    let w = c.in-Timer.is in
    record {
      value = simp (w, c.write.ensures);
      ram_after = simp w;
    }
