-- `window::read_by` meets its contract: the bytes, the half-bytes at the area's end, or the clock.
use mathlib.Core.Path.{sym, ap, ◌∙◌}
use native.Mathlib.Omega.{arith}
use lib.ListN.{length-drop}
use Rattle.facts.proofs.ListLaws.{part_from}
use Rattle.window.specs.Window.{read_by}
use Rattle.window.proofs.read_by.Goals as goal

pub load-requires : goal.load-requires
load-requires c =
    rw c.in-Bytes.is at c.requires

pub slice_bounds-read_half-count : goal.slice_bounds-read_half-count
slice_bounds-read_half-count c =
    let q = rw c.in-Half.is at c.requires in
    omega arith

pub slice_bounds-read_half-start : goal.slice_bounds-read_half-start
slice_bounds-read_half-start c =
    let q = rw c.in-Half.is at c.requires in
    omega arith

pub read_half-requires : goal.read_half-requires
read_half-requires c =
    let q = rw c.in-Half.is at c.requires in
    simp (part_from c.args.size c.args.ram.now) (omega (arith, length-drop c.args.size c.args.ram.now))

pub returns-in-Bytes : goal.returns-in-Bytes
returns-in-Bytes c =
    c.load.ensures
    ∙ ap (λ w. read_by w c.args.size c.args.ram.now c.args.addr) (sym c.in-Bytes.is)

pub returns-in-Half : goal.returns-in-Half
returns-in-Half c =
    simp (c.in-Half.is, c.read_half.ensures, part_from c.args.size c.args.ram.now)

pub returns-in-Timer : goal.returns-in-Timer
returns-in-Timer c =
    c.read.ensures
    ∙ ap (λ w. read_by w c.args.size c.args.ram.now c.args.addr) (sym c.in-Timer.is)
