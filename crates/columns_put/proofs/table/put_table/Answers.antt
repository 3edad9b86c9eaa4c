-- The invariant: the columns before this one are written.
use native.Mathlib.Omega.{arith}
use Rattle.column_fields.specs.Maps.{items_of}
use Rattle.columns_put.specs.Maps.{starts_in}
use Rattle.columns_put.proofs.PlacesLaws.{reached}
use Rattle.columns_put.proofs.TableLaws.{putting_first, putting_more, putting_all}
use Rattle.columns_put.proofs.table.put_table.Goals as goal

pub loop-column-init : goal.loop-column-init
loop-column-init c =
    putting_first _ _ _ _ (omega arith) (omega arith)

pub put_column-requires : goal.put_column-requires
put_column-requires c =
    let a = c.args in (
      c.requires.1,
      reached a.bytes.now (items_of a.table) (starts_in a.records) c.loop-column.column c.path_of.result c.requires.2 c.path_of.ensures,
    )

pub loop-column-preserved : goal.loop-column-preserved
loop-column-preserved c =
    putting_more c.loop-column.invariant c.path_of.result (omega (arith, c.loop-column-test.true, c.columns-column-end.ensures)) c.item.ensures
    c.path_of.ensures c.put_column.ensures

pub returns : goal.returns
returns c =
    putting_all c.loop-column.invariant (omega (arith, c.loop-column-test.false, c.columns-column-end.ensures))
