-- The byte at its place in the witness, or none.
use native.Mathlib.Omega.{arith}
use Rattle.evr0_pass.specs.Maps.{layout_out}
use Rattle.evr0_marks.proofs.MarkLaws.{polarity_there, polarity_none}
use Rattle.evr0_marks.proofs.marks.polarity.Goals as goal

pub returns-then-i-tables : goal.returns-then-i-tables
returns-then-i-tables c rules =
    let t = c.args.tables in
    rw (c.witness_start.ensures.0, c.place-i.ensures)
    (polarity_there rules t.payload.now t.starts.now (layout_out t.layout) c.args.witness.0 (omega (arith, c.place-i.ensures, c.if-i-tables.true)))

pub returns-else-i-tables : goal.returns-else-i-tables
returns-else-i-tables c rules =
    let t = c.args.tables in
    polarity_none rules t.payload.now t.starts.now (layout_out t.layout) c.args.witness.0 (omega (arith, c.place-i.ensures, c.if-i-tables.false))
