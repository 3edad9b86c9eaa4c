-- From the code's enums to places.
use Rattle.std.specs.Prelude.{ℕ, ◌+◌, ◌*◌, ◌≤◌, ◌<◌, List, length, get_or}
use Rattle.local_format.specs.Field.{le}
use Rattle.evr0_columns.specs.Form.{each}
use Rattle.evr0_columns.specs.Layout.{Item}
use Rattle.column_fields.specs.Moved.{field_moved}
use Rattle.column_fields.specs.declared.table.Table.{Table}
use Rattle.column_fields.specs.declared.table.Table.TheVariants as table
use Rattle.columns_put.specs.Places.{evenly}
use Rattle.columns_put.specs.declared.path.Path.{Path}
use Rattle.columns_put.specs.declared.path.Path.TheVariants as path
use Rattle.columns_put.specs.declared.records.Records.{Records}
use Rattle.columns_put.specs.declared.records.Records.TheVariants as records

-- the place of a field of the record that starts at a place
abbrev pub place_of : List ℕ → Path → ℕ → ℕ
place_of c (path.From offset) start = start + offset
place_of c (path.Behind to offset) start = start + to + 2 + le 2 c (start + to) + offset

-- such a field lies in c for each of the records
abbrev pub Reach : List ℕ → Path → List ℕ → Type 0
Reach c path starts = (i : ℕ) → i < length starts → place_of c path (get_or starts i 0) ≤ length c

-- it as it stands in a column
abbrev pub column_moved : Item → Path → List ℕ → List ℕ → List ℕ
column_moved item path c starts = each (λ s. field_moved item c (place_of c path s)) starts

-- a table whose records have a text at most: not the head
abbrev pub OneText : Table → Type 0
OneText table.Head = ⊥
OneText table.Propositions = Unit {0}
OneText table.Proofs = Unit {0}
OneText (table.Witnesses span) = Unit {0}
OneText table.Parents = Unit {0}

-- where the records start
abbrev pub starts_in : Records → List ℕ
starts_in (records.Listed starts) = starts.now
starts_in (records.Even first size count) = evenly count size first

-- the place after the last of records of one size is a 64-bit number
abbrev pub Fits : Records → Type 0
Fits (records.Listed starts) = Unit {0}
Fits (records.Even first size count) = first + size * count ≤ 18446744073709551615
