-- One component of a path.
use Rattle.std.specs.Prelude.{ℕ, List, cond, not, leb, eqb}
use Rattle.local_format.specs.Out.{Out, refuse, check, ◌>>=◌, ◌>>◌}
use Rattle.local_format.specs.Field.{field}
use Rattle.semcode_records.specs.Records.{Taken, taken}

pub data Component : Type 0 where
  tuple_index : ℕ → Component
  field_symbol : ℕ → Component
  -- the variant and the index in its payload
  variant : ℕ → ℕ → Component
  sequence_index : ℕ → Component

unfoldable pub tuple_index_at : List ℕ → ℕ → Out (Taken Component)
tuple_index_at s at = do
  index ← field 51 2 s at
  taken (tuple_index index.value) index.next

unfoldable pub field_symbol_at : List ℕ → ℕ → Out (Taken Component)
field_symbol_at s at = do
  symbol ← field 52 4 s at
  taken (field_symbol symbol.value) symbol.next

-- not in a write (event kind 1), and only from revision 22 on
unfoldable pub variant_at : ℕ → ℕ → List ℕ → ℕ → Out (Taken Component)
variant_at revision event s at = do
  check (not (eqb event 1)) 53 at
  check (leb 22 revision) 54 at
  which ← field 55 4 s at
  index ← field 56 2 s which.next
  taken (variant which.value index.value) index.next

-- from revision 22 on
unfoldable pub sequence_index_at : ℕ → List ℕ → ℕ → Out (Taken Component)
sequence_index_at revision s at = do
  check (leb 22 revision) 57 at
  index ← field 58 4 s at
  taken (sequence_index index.value) index.next

-- what follows a component's kind
unfoldable pub component_of : ℕ → ℕ → ℕ → List ℕ → ℕ → Out (Taken Component)
component_of kind revision event s at =
    cond (eqb kind 0) (tuple_index_at s at)
    (cond (eqb kind 1) (field_symbol_at s at)
    (cond (eqb kind 2) (variant_at revision event s at)
    (cond (eqb kind 3) (sequence_index_at revision s at) (refuse 59 at))))

-- a component of a path with this event kind
unfoldable pub component_at : ℕ → ℕ → List ℕ → ℕ → Out (Taken Component)
component_at revision event s at = do
  kind ← field 50 1 s at
  component_of kind.value revision event s kind.next
