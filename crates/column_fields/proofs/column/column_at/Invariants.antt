-- The invariant: the column is the column of the fields left, from here on.
use Rattle.column_fields.specs.Maps.{item_of}
use Rattle.column_fields.proofs.PastLaws.{Walking}
use Rattle.column_fields.proofs.column.column_at.Given as goal

abbrev pub invariant-loop-field : goal.invariant-loop-field
invariant-loop-field l = Walking (item_of l.item) l.bytes l.count l.at l._field l.next
