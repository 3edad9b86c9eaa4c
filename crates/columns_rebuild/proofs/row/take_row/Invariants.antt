-- The invariant: the fields of the row before this one are written, and their columns stand at the next row.
use mathlib.Core.Path.{◌≡◌}
use mathlib.Core.List.{List, ◌∷◌}
use lib.ListN.{length}
use Rattle.byte_output.specs.Maps.{Same}
use Rattle.evr0_columns.specs.Layout.{Record}
use Rattle.column_fields.specs.Maps.{items_of}
use Rattle.columns_rebuild.specs.Stand.{Stand}
use Rattle.columns_rebuild.proofs.RowLaws.{Rowing}
use Rattle.columns_rebuild.proofs.row.take_row.Given as goal

abbrev pub invariant-loop-column : goal.invariant-loop-column
invariant-loop-column l = (length l.cursors ≡ 13)
    × Same l.initial.out l.out
    × ((row : Record (items_of l.table)) (rows : List (Record (items_of l.table))) → Stand l.bytes (items_of l.table) (row ∷ rows) l.initial.cursors
    → Rowing l.bytes (items_of l.table) row rows l.initial.out l.column l.cursors l.out)
