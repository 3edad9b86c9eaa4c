-- The invariant: the rows before this one are written, and each column stands at the next.
use native.Mathlib.Omega.{arith}
use Rattle.byte_output.proofs.WrittenLaws.{same_none, same_more}
use Rattle.columns_rebuild.proofs.RowLaws.{taking_first, taking_more, taking_all}
use Rattle.columns_rebuild.proofs.row.take_rows.Goals as goal

pub loop-row-init : goal.loop-row-init
loop-row-init c =
    (c.told-cursors, same_none _, λ rows h s. taking_first _ (omega arith) (omega arith) s)

pub loop-row-preserved : goal.loop-row-preserved
loop-row-preserved c = (
  c.take_row.ensures.long,
  same_more c.loop-row.invariant.1 c.take_row.ensures.same,
  λ rows h s. taking_more (c.loop-row.invariant.2 rows h s) (omega (arith, c.loop-row-test.true)) c.take_row.ensures.took,
)

pub returns : goal.returns
returns c =
    record {
      same = c.loop-row.invariant.1;
      took = λ rows h s. taking_all (c.loop-row.invariant.2 rows h s) (omega (arith, c.loop-row-test.false));
    }
