-- The invariant: the fields of the records before this one are written.
use lib.ListN.{take}
use Rattle.byte_output.specs.Maps.{Writes}
use Rattle.column_fields.specs.Maps.{item_of}
use Rattle.columns_put.specs.Maps.{starts_in, column_moved}
use Rattle.columns_put.proofs.table.put_column.Given as goal

abbrev pub invariant-loop-i : goal.invariant-loop-i
invariant-loop-i l = Writes l.initial.out (column_moved (item_of l.item) l.path l.bytes (take l.i (starts_in l.fn.records))) l.out
