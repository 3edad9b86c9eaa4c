-- The fields of a section, and tables of them by row and by column.
use Rattle.std.specs.Prelude.{ℕ, zero, suc, ◌/◌, ◌%◌, cond, leb, length, take, drop, replicate}
use mathlib.Core.List.{List, [], ◌∷◌, map, zip}
use Rattle.local_format.specs.Out.{ok, refuse}
use Rattle.local_format.specs.Field.{le}
use Rattle.groups.specs.Groups.{groups, number_of}
use Rattle.evr0_columns.specs.Form.{Form, nothing, and_then, many, through}

-- ---- Fields

-- so many bytes that are copied; a whole number of so many bytes; a text, with its length of two bytes
pub data Item : Type 0 where
  raw : ℕ → Item
  whole : ℕ → Item
  text : Item

-- what a field holds: bytes, or a number
abbrev pub Of : Item → Type 0
Of (raw n) = List ℕ
Of (whole width) = ℕ
Of text = List ℕ

-- so many bytes: 76 at the end where they are cut
unfoldable pub copied : ℕ → Form (List ℕ)
copied n =
    record {
      put = λ b. b;
      get = λ end c. cond (leb n (length c)) (ok (record { value = take n c; rest = drop n c })) (refuse 76 end);
    }

-- a number as a field of `width` bytes, the lowest first
unfoldable pub number : ℕ → ℕ → List ℕ
number zero n = []
number (suc width) n = n % 256 ∷ number width (n / 256)

-- a whole number in a section
unfoldable pub in_bytes : ℕ → Form ℕ
in_bytes width = through (number width) (λ b. le width b 0) (copied width)

-- and in a column: groups of seven bits
unfoldable pub in_groups : ℕ → Form ℕ
in_groups width = record { put = groups; get = number_of width }

-- ---- Records and tables, by the form of a whole number

-- a record holds what its fields hold
abbrev pub Record : List Item → Type 0
Record [] = Unit {0}
Record (i ∷ is) = Of i × Record is

-- its whole numbers, in order
abbrev pub wholes : (is : List Item) → Record is → List ℕ
wholes [] r = []
wholes (raw n ∷ is) r = wholes is r.1
wholes (whole width ∷ is) r = r.0 ∷ wholes is r.1
wholes (text ∷ is) r = wholes is r.1

module _ (numbers : ℕ → Form ℕ) where
  -- a text's length stands right before its bytes
  unfoldable pub field : (i : Item) → Form (Of i)
  field (raw n) = copied n
  field (whole width) = numbers width
  field text = through (λ b. (length b, b)) (λ t. t.1) (and_then (numbers 2) copied)

  unfoldable pub fields : (is : List Item) → Form (Record is)
  fields [] = nothing
  fields (i ∷ is) = and_then (field i) (λ v. fields is)

  -- n records one after the other
  abbrev pub by_row : ℕ → (is : List Item) → Form (List (Record is))
  by_row n is = many n (fields is)

  -- the first field of each of n records, then the second of each, and on
  unfoldable pub by_column : ℕ → (is : List Item) → Form (List (Record is))
  by_column n [] = through (λ rows. tt) (λ u. replicate n tt) nothing
  by_column n (i ∷ is) =
      through (λ rows. (map (λ r. r.0) rows, map (λ r. r.1) rows)) (λ t. zip t.0 t.1) (and_then (many n (field i)) (λ v. by_column n is))

-- ---- Several tables, one wholly before the next

-- how many records of which fields
pub record Table : Type 0 where
  pub count : ℕ
  pub items : List Item

abbrev pub Tables : List Table → Type 0
Tables [] = Unit {0}
Tables (t ∷ ts) = List (Record t.items) × Tables ts

unfoldable pub tables : (ℕ → (is : List Item) → Form (List (Record is))) → (ts : List Table) → Form (Tables ts)
tables table [] = nothing
tables table (t ∷ ts) = and_then (table t.count t.items) (λ rows. tables table ts)
