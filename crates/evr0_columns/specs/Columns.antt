-- Sections by column (document 02, Slip 13).
use Rattle.std.specs.Prelude.{ℕ, ◌-◌, leb, length}
use mathlib.Core.List.{List, [], ◌∷◌, zip_with}
use Rattle.local_format.specs.Out.{Out, ok, refused, check, ◌>>=◌, ◌>>◌}
use Rattle.local_format.specs.Field.{le}
use Rattle.local_format.specs.Text.{bytes_at}
use Rattle.lent_table.specs.Lent.{lent}
use Rattle.evr0_section.specs.Head.{Room, span_width}
use Rattle.evr0_section.specs.Section.{Section, section_at}
use Rattle.rule_table.specs.ByTable.{Given, rules_given, decode_by}
use Rattle.evr0_columns.specs.Form.{Form, and_then, rewritten}
use Rattle.evr0_columns.specs.Layout.{Item, raw, whole, text, Record, wholes, Table, Tables, in_bytes, in_groups, fields, by_row, by_column, tables}

-- ---- The layout

abbrev pub count_items : List Item
count_items = whole 4 ∷ whole 4 ∷ whole 4 ∷ whole 4 ∷ []

-- schema, flags, two digests, epoch, both namespaces, four counts
abbrev pub payload_items : List Item
payload_items = raw 2 ∷ raw 2 ∷ raw 32 ∷ raw 32 ∷ raw 2 ∷ text ∷ text ∷ count_items

-- tag and payload length before them
abbrev pub head_items : List Item
head_items = raw 4 ∷ raw 4 ∷ payload_items

-- kind, owner, scope, type
abbrev pub proposition_items : List Item
proposition_items = text ∷ whole 4 ∷ whole 4 ∷ whole 4 ∷ []

-- number, proposition, rule, authority, first witness, witness count, first parent, parent count, operation, reserved
abbrev pub proof_items : List Item
proof_items = whole 4 ∷ whole 4 ∷ text ∷ whole 4 ∷ whole 4 ∷ whole 4 ∷ whole 4 ∷ whole 4 ∷ raw 1 ∷ raw 3 ∷ []

-- number, proposition, polarity, reserved, digest, span start and end of `width` bytes, digest
abbrev pub witness_items : ℕ → List Item
witness_items width = whole 4 ∷ whole 4 ∷ raw 1 ∷ raw 3 ∷ raw 32 ∷ whole width ∷ whole width ∷ raw 32 ∷ []

abbrev pub parent_items : List Item
parent_items = whole 4 ∷ []

abbrev pub Head : Type 0
Head = Record head_items

-- the third field
abbrev pub schema_of : Head → ℕ
schema_of h = le 2 h.1.1.0 0

-- the tables under four counts and a schema
unfoldable pub layout_of : List ℕ → ℕ → List Table
unfolding zip_with
layout_of counts schema =
    zip_with (λ count items. record { count = count; items = items }) counts
    (proposition_items ∷ proof_items ∷ witness_items (span_width schema) ∷ parent_items ∷ [])

-- the tables that a head announces: the counts are its whole numbers
abbrev pub layout : Head → List Table
layout h = layout_of (wholes head_items h) (schema_of h)

-- what a section holds
abbrev pub Contents : Type 0
Contents = (h : Head) × Tables (layout h)

-- ---- The two forms

abbrev pub section_form : Form Contents
section_form = and_then (fields in_bytes head_items) (λ h. tables (by_row in_bytes) (layout h))

abbrev pub column_form : Form Contents
column_form = and_then (fields in_groups head_items) (λ h. tables (by_column in_groups) (layout h))

-- the columns of a section: never a refusal where it is accepted
unfoldable pub columns_of : List ℕ → Out (List ℕ)
columns_of section = rewritten section_form column_form section

-- the section of some columns: 75 and 76
unfoldable pub rebuilt : List ℕ → Out (List ℕ)
rebuilt columns = rewritten column_form section_form columns

-- ---- Writing and taking back, with an output of `out` bytes: 61 at offset 0 where it is too short

-- the section that was decoded, and the bytes for the output
pub record Copy : Type 0 where
  pub section : Section
  pub bytes : List ℕ

-- the bytes of a section from its cursor to where the decoder's cursor stands after it
abbrev pub section_bytes : List ℕ → ℕ → ℕ → List ℕ
section_bytes s cursor next = bytes_at s cursor (next - cursor)

unfoldable pub written : Given → Room → ℕ → List ℕ → ℕ → Out Copy
written given room out s cursor = do
  d ← decode_by given room s cursor
  columns ← columns_of (section_bytes s cursor d.cursor)
  check (leb (length columns) out) 61 0
  ok (record { section = d; bytes = columns })

-- the rules of the call first: where they are refused, no column is looked at
unfoldable pub taken_back : Given → Room → ℕ → List ℕ → Out Copy
taken_back given room out columns = do
  rules ← rules_given given
  section ← rebuilt columns
  check (leb (length section) out) 61 0
  d ← section_at rules room section 0
  ok (record { section = d; bytes = section })

-- the answer: the length written
abbrev pub length_of : Out Copy → Out ℕ
length_of x = do
  c ← x
  ok (length c.bytes)

-- the section whose tables are lent
abbrev pub decoded_of : Out Copy → Out Section
decoded_of x = do
  c ← x
  ok c.section

-- the output afterwards: the bytes and zeros past them, or all zeros where there is a refusal
abbrev pub output_of : ℕ → Out Copy → List ℕ
output_of out (ok c) = lent out c.bytes
output_of out (refused r) = lent out []
