-- The first i entries are marks, from which the rest are made.
use mathlib.Core.Path.{◌≡◌, ap₂, ◌∙◌}
use native.Mathlib.Omega.{arith}
use lib.ListN.{length}
use Rattle.lent_table.specs.Lent.{lent}
use Rattle.evr0_pass.specs.Maps.{layout_out}
use Rattle.evr0_marks.proofs.MarkLaws.{none_marked, next_marked, all_marked}
use Rattle.evr0_marks.proofs.marks.mark_proofs.Goals as goal

pub loop-i-init : goal.loop-i-init
loop-i-init c rules =
    let t = c.args.tables in none_marked rules t.payload.now t.starts.now (layout_out t.layout)

pub loop-i-preserved : goal.loop-i-preserved
loop-i-preserved c rules =
    let t = c.args.tables in
    next_marked rules t.payload.now t.starts.now (layout_out t.layout) c.loop-i.i c.mark_after-mark.result c.loop-i.marks c.loop-i-test.true
    (omega arith) (c.mark_after-mark.ensures rules) (c.loop-i.invariant rules)

pub returns : goal.returns
returns c rules =
    let t = c.args.tables in
    let e : length c.loop-i.marks ≡ length c.args.marks.now = c.loop-i.auto.marks in
    c.clear_from.ensures
    ∙ ap₂ lent e (all_marked rules t.payload.now t.starts.now (layout_out t.layout) c.loop-i.i c.loop-i.marks (omega arith) c.loop-i-test.false
    (c.loop-i.invariant rules))
