-- The invariant: the fields of the row before this one are written, and their columns stand at the next row.
use Prim.Native.Nat.{◌<◌}
use mathlib.Core.Path.{◌∙◌}
use native.Mathlib.Omega.{arith}
use lib.ListN.{length, length-set}
use Rattle.byte_output.proofs.WrittenLaws.{same_none, same_more}
use Rattle.column_fields.specs.Maps.{items_of}
use Rattle.columns_rebuild.proofs.RowLaws.{rowing_first, rowing_turn, rowing_all}
use Rattle.columns_rebuild.proofs.TookLaws.{items_most}
use Rattle.columns_rebuild.proofs.row.take_row.Goals as goal

pub loop-column-init : goal.loop-column-init
loop-column-init c =
    (c.told-cursors, same_none _, λ row rows s. rowing_first _ (omega arith) (omega arith) s)

pub bounds-cursors-column : goal.bounds-cursors-column
bounds-cursors-column c =
    omega (arith, c.loop-column-test.true, c.columns-column-end.ensures, items_most c.args.table)

pub loop-column-preserved : goal.loop-column-preserved
loop-column-preserved c =
    let here : c.loop-column.column < length (items_of c.args.table) = omega (arith, c.loop-column-test.true, c.columns-column-end.ensures) in (
      length-set c.loop-column.cursors c.loop-column.column c.move_field.result ∙ c.loop-column.invariant.0,
      same_more c.loop-column.invariant.1 c.move_field.ensures.puts.same,
      λ row rows s. rowing_turn (c.loop-column.invariant.2 row rows s) here c.item-item.ensures c.move_field.ensures,
    )

pub returns : goal.returns
returns c =
    record {
      long = c.loop-column.invariant.0;
      same = c.loop-column.invariant.1;
      took = λ row rows s. rowing_all (c.loop-column.invariant.2 row rows s) (omega (arith, c.loop-column-test.false, c.columns-column-end.ensures));
    }
