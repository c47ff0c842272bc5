-- `trace::record_of` meets its contract: the fields of each kind.
use mathlib.Core.Path.{sym, ap, ◌∙◌}
use Prim.Native.Nat.{ℕ}
use native.Mathlib.Omega.{arith}
use Rattle.bytes_le.specs.Little.{field_at}
use Rattle.trace.specs.Trace.{record_of}
use Rattle.trace.specs.declared.Record.TheVariants as record'
use Rattle.trace.specs.declared.Kind.{Kind}
use Rattle.trace.specs.declared.Kind.TheVariants.{Read, Write, Clocks}
use Rattle.trace.proofs.Laws.{body_in}
use Rattle.trace.proofs.record_of.Goals as goal

pub read-requires : goal.read-requires
read-requires c =
    body_in Read c.args.bytes.now c.args.at c.in-Read.is c.requires

pub read-requires-in-Write : goal.read-requires-in-Write
read-requires-in-Write c =
    let h = body_in Write c.args.bytes.now c.args.at c.in-Write.is c.requires in
    omega arith

pub read-requires-in-Write-2 : goal.read-requires-in-Write-2
read-requires-in-Write-2 c =
    let h = body_in Write c.args.bytes.now c.args.at c.in-Write.is c.requires in
    omega arith

pub read-requires-in-Clocks : goal.read-requires-in-Clocks
read-requires-in-Clocks c =
    body_in Clocks c.args.bytes.now c.args.at c.in-Clocks.is c.requires

pub returns-in-Read : goal.returns-in-Read
returns-in-Read c =
    let a = c.args in
    ap record'.Read c.read.ensures
    ∙ ap (λ (k : Kind). record_of k a.bytes.now a.at) (sym c.in-Read.is)

pub returns-in-Write : goal.returns-in-Write
returns-in-Write c =
    let a = c.args in
    ap (λ (x : ℕ). record'.Write x c.read-in-Write-2.result) c.read-in-Write.ensures
    ∙ ap (record'.Write (field_at 2 a.bytes.now a.at)) c.read-in-Write-2.ensures
    ∙ ap (λ (k : Kind). record_of k a.bytes.now a.at) (sym c.in-Write.is)

pub returns-in-Clocks : goal.returns-in-Clocks
returns-in-Clocks c =
    let a = c.args in
    ap record'.Clocks c.read-in-Clocks.ensures
    ∙ ap (λ (k : Kind). record_of k a.bytes.now a.at) (sym c.in-Clocks.is)
