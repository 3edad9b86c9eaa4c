-- The invariant: the columns before this one are written.
use Rattle.column_fields.specs.Maps.{items_of}
use Rattle.columns_put.specs.Maps.{starts_in}
use Rattle.columns_put.proofs.TableLaws.{Putting}
use Rattle.columns_put.proofs.table.put_table.Given as goal

abbrev pub invariant-loop-column : goal.invariant-loop-column
invariant-loop-column l = Putting (items_of l.table) l.bytes (starts_in l.fn.records) l.initial.out l.out l.column
