-- Each turn is one step of the definition: what is made from the cell reached on is the whole answer.
use mathlib.Core.Path.{sym, ap, ◌∙◌}
use native.Mathlib.Omega.{arith}
use Rattle.derivation.specs.Mark.{joined}
use Rattle.derivation.proofs.Laws.{gathered_none}
use Rattle.evr0_pass.specs.Maps.{layout_out}
use Rattle.evr0_pass.specs.Tables.{tables_by}
use Rattle.evr0_marks.proofs.MarkLaws.{parent_turn}
use Rattle.evr0_marks.proofs.marks.by_parents.Goals as goal

pub loop-cell-preserved : goal.loop-cell-preserved
loop-cell-preserved c rs =
    let t = c.args.tables in
    parent_turn rs t.payload.now t.starts.now (layout_out t.layout) c.args.known.now c.args.end c.loop-cell.cell c.loop-cell.mark c.parent.result
    c.loop-cell-test.true (c.parent.ensures rs) (c.joined-mark.ensures ∙ ap (joined c.loop-cell.mark) c.entry_or.ensures) (c.loop-cell.invariant rs)

pub returns : goal.returns
returns c rules =
    let t = c.args.tables in
    sym (gathered_none joined (tables_by rules t) c.args.known.now _ c.loop-cell.cell c.loop-cell.mark (omega arith))
    ∙ c.loop-cell.invariant rules
