-- From the code's enums to the definitions' types.
use Rattle.std.specs.Prelude.{List, ℕ, drop, Result}
use Rattle.local_format.specs.Out.{Out}
use Rattle.local_format.specs.Maps.{answer_out}
use Rattle.local_format.specs.declared.refusal.Refusal.{Refusal}
use Rattle.groups.specs.Maps.{width_of}
use Rattle.evr0_columns.specs.Columns.{head_items, proposition_items, proof_items, witness_items, parent_items}
use Rattle.evr0_columns.specs.Layout.{Item, raw, whole, text}
use Rattle.column_fields.specs.declared.table.Table.{Table}
use Rattle.column_fields.specs.declared.table.Table.TheVariants as table
use Rattle.column_fields.specs.declared.item.Item as code
use Rattle.column_fields.specs.declared.item.Item.TheVariants as item

-- what is left of a file after a place
abbrev pub place_in : List ℕ → Result ℕ Refusal → Out (List ℕ)
place_in c place = answer_out (λ n. drop n c) place

abbrev pub item_of : code.Item → Item
item_of (item.Raw n) = raw n
item_of (item.Whole w) = whole (width_of w)
item_of item.Text = text

abbrev pub items_of : Table → List Item
items_of table.Head = head_items
items_of table.Propositions = proposition_items
items_of table.Proofs = proof_items
items_of (table.Witnesses span) = witness_items (width_of span)
items_of table.Parents = parent_items
