-- Where the fields of a section stand, by what they are, and what the columns hold of fields that stand there.
use Rattle.std.specs.Prelude.{ℕ, zero, suc, ◌+◌, ◌≤◌, ◌<◌, List, [], ◌∷◌, ◌++◌, length, get_or}
use Rattle.local_format.specs.Field.{le}
use Rattle.evr0_columns.specs.Form.{each}
use Rattle.evr0_columns.specs.Layout.{Item, raw, whole, text, Table}
use Rattle.column_fields.specs.Moved.{field_moved}

-- ---- Places

-- the place after a field
abbrev pub after_field : Item → List ℕ → ℕ → ℕ
after_field (raw n) c at = at + n
after_field (whole width) c at = at + width
after_field text c at = at + 2 + le 2 c at

abbrev pub after_fields : List Item → List ℕ → ℕ → ℕ
after_fields [] c at = at
after_fields (i ∷ is) c at = after_fields is c (after_field i c at)

-- so many records of one size, one after the other
unfoldable pub evenly : ℕ → ℕ → ℕ → List ℕ
evenly zero size first = []
evenly (suc n) size first = first ∷ evenly n size (first + size)

-- the records that start at these places lie in c
abbrev pub Inside : List ℕ → List Item → List ℕ → Type 0
Inside c is starts = (i : ℕ) → i < length starts → after_fields is c (get_or starts i 0) ≤ length c

-- ---- Fields as they stand in columns

-- those of one record
abbrev pub fields_moved : List Item → List ℕ → ℕ → List ℕ
fields_moved [] c at = []
fields_moved (i ∷ is) c at = field_moved i c at ++ fields_moved is c (after_field i c at)

-- a field of each of the records that start at some places, behind other fields of them
abbrev pub behind_moved : List Item → Item → List ℕ → List ℕ → List ℕ
behind_moved before i c starts = each (λ s. field_moved i c (after_fields before c s)) starts

-- so for each of the fields behind the others
unfoldable pub others_moved : List Item → List Item → List ℕ → List ℕ → List ℕ
others_moved before [] c starts = []
others_moved before (i ∷ is) c starts = behind_moved before i c starts ++ others_moved (before ++ (i ∷ [])) is c starts

abbrev pub table_moved : List Item → List ℕ → List ℕ → List ℕ
table_moved is c starts = others_moved [] is c starts

-- table by table
abbrev pub tables_moved : List Table → List ℕ → List (List ℕ) → List ℕ
tables_moved [] c starts = []
tables_moved (t ∷ ts) c [] = []
tables_moved (t ∷ ts) c (s ∷ starts) = table_moved t.items c s ++ tables_moved ts c starts
