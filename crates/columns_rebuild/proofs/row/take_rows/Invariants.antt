-- The invariant: the rows before this one are written, and each column stands at the next.
use mathlib.Core.Path.{◌≡◌}
use mathlib.Core.List.{List}
use lib.ListN.{length}
use Rattle.byte_output.specs.Maps.{Same}
use Rattle.evr0_columns.specs.Layout.{Record}
use Rattle.column_fields.specs.Maps.{items_of}
use Rattle.columns_rebuild.specs.Stand.{Stand}
use Rattle.columns_rebuild.proofs.RowLaws.{Taking}
use Rattle.columns_rebuild.proofs.row.take_rows.Given as goal

abbrev pub invariant-loop-row : goal.invariant-loop-row
invariant-loop-row l = (length l.cursors ≡ 13)
    × Same l.initial.out l.out
    × ((rows : List (Record (items_of l.table))) → length rows ≡ l.count → Stand l.bytes (items_of l.table) rows l.initial.cursors
    → Taking l.bytes (items_of l.table) rows l.initial.out l._row l.cursors l.out)
