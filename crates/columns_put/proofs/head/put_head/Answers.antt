-- The invariant: the fields before this one are written, and what is left stands at `at`.
use native.Mathlib.Omega.{arith}
use Rattle.columns_put.proofs.HeadLaws.{heading_first, heading_more, heading_all}
use Rattle.columns_put.proofs.head.put_head.Goals as goal

pub loop-column-init : goal.loop-column-init
loop-column-init c =
    heading_first _ _ _ (omega arith) (omega arith)

pub loop-column-preserved : goal.loop-column-preserved
loop-column-preserved c =
    heading_more c.loop-column.invariant c.requires (omega (arith, c.loop-column-test.true, c.columns-column-end.ensures)) c.item.ensures
    c.move_field-at.ensures

pub returns : goal.returns
returns c =
    heading_all c.loop-column.invariant (omega (arith, c.loop-column-test.false, c.columns-column-end.ensures))
