-- The numbers of the record are read at their places, and the mark is the witness's or the parents', by `MarkLaws`.
use mathlib.Core.List.{[]}
use native.Mathlib.Omega.{arith}
use Rattle.evr0_pass.specs.Maps.{layout_out}
use Rattle.evr0_marks.proofs.MarkLaws.{marked_end, marked_inner}
use Rattle.evr0_marks.proofs.marks.mark_after.Goals as goal

pub returns-then-first-end : goal.returns-then-first-end
returns-then-first-end c rs =
    let t = c.args.tables in
    marked_end rs t.payload.now t.starts.now (layout_out t.layout) c.args.known.now c.requires (c.cells-first.ensures.numbers rs) c.if-first-end.true
    c.after_name-rest.ensures c.le_at.ensures (c.polarity.ensures rs) c.end_mark.ensures

pub by_parents-requires : goal.by_parents-requires
by_parents-requires c =
    (omega (arith, (c.cells-first.ensures.numbers []).1), c.cells-first.ensures.there)

pub returns : goal.returns
returns c rs =
    let t = c.args.tables in
    marked_inner rs t.payload.now t.starts.now (layout_out t.layout) c.args.known.now c.requires (c.cells-first.ensures.numbers rs) c.if-first-end.false
    (c.by_parents.ensures rs)
