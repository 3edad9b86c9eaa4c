-- The columns are refused, or they stand at the first row, and then all rows are written.
use native.Mathlib.Omega.{arith}
use mathlib.Core.Path.{sym}
use Rattle.column_fields.specs.Maps.{items_of}
use Rattle.columns_rebuild.proofs.TookLaws.{items_most, table_took}
use Rattle.columns_rebuild.proofs.table.take_table.Goals as goal

pub returns-clause-takes : goal.returns-clause-takes
returns-clause-takes c =
    let a = c.args in
    table_took a.bytes.now (items_of a.table) a.count a.at (sym c.in_ok-next.ensures.result_value) c.in_ok-next.ensures.noted
    (omega (arith, items_most a.table, c.in_ok-next.ensures.long)) c.take_rows.ensures.took
