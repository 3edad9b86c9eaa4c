-- The invariant: the columns before this one are passed, and their starts are noted.
use mathlib.Core.Path.{◌≡◌}
use lib.ListN.{length}
use Rattle.column_fields.specs.Maps.{items_of}
use Rattle.columns_rebuild.specs.Noted.{Starts}
use Rattle.columns_rebuild.proofs.FirstLaws.{Walked}
use Rattle.columns_rebuild.proofs.first.table_at.Given as goal

abbrev pub invariant-loop-column : goal.invariant-loop-column
invariant-loop-column l = (length l.starts ≡ 13)
    × Walked (items_of l.table) l.count l.bytes l.at l.column l.next
    × Starts (items_of l.table) l.count l.bytes l.at l.column l.starts
