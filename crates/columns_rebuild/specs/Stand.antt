-- Where the columns of a table stand while its rows are taken, one value from each column at a time.
use Rattle.std.specs.Prelude.{ℕ, zero, suc, ◌≤◌, ◌<◌, ◌≡◌, List, [], ◌∷◌, map, length, get_or, drop}
use Rattle.local_format.specs.Out.{ok}
use Rattle.byte_output.specs.Written.{Written}
use Rattle.evr0_columns.specs.Form.{get_many}
use Rattle.evr0_columns.specs.Layout.{Item, raw, Of, Record, in_bytes, in_groups, field, fields}

-- the k-th field of a record; past the last no bytes
abbrev pub part : (is : List Item) (k : ℕ) → Record is → Of (get_or is k (raw 0))
part [] k r = []
part (i ∷ is) zero r = r.0
part (i ∷ is) (suc k) r = part is k r.1

-- from a place of the file on stands the k-th field of each of these records
pub record Column (c : List ℕ) (items : List Item) (k : ℕ) (rows : List (Record items)) (at : ℕ) : Type 0 where
  pub rest : List ℕ
  pub read : get_many (field in_groups (get_or items k (raw 0))) (length rows) (length c) (drop at c)
      ≡ ok (record { value = map (part items k) rows; rest = rest })

-- each column stands at its field of the first of these records
pub record Stand (c : List ℕ) (items : List Item) (rows : List (Record items)) (cursors : List ℕ) : Type 0 where
  pub reach : length items ≤ length cursors
  pub column : (k : ℕ) → k < length items → Column c items k rows (get_or cursors k 0)

-- a row is written, and each column stands at the next
pub record RowTook (c : List ℕ) (items : List Item) (row : Record items) (rows : List (Record items)) (cursors before : List ℕ) (at : ℕ)
    (after : List ℕ) (next : ℕ) : Type 0 where
  pub puts : Written before at ((fields in_bytes items).put row) after next
  pub stand : Stand c items rows cursors
