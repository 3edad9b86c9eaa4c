-- Where the columns of a table start.
use Rattle.std.specs.Prelude.{ℕ, ◌<◌, ◌≡◌, List, length, get_or, take, drop, Result, Ok, Err}
use Rattle.local_format.specs.Out.{ok}
use Rattle.local_format.specs.declared.refusal.Refusal.{Refusal}
use Rattle.evr0_columns.specs.Layout.{Item}
use Rattle.column_fields.specs.Past.{table_past}

-- each start that the list reaches is the place after the columns before it
pub record Starts (items : List Item) (count : ℕ) (c : List ℕ) (at columns : ℕ) (starts : List ℕ) : Type 0 where
  pub is : (j : ℕ) → j < columns → j < length starts → ok (drop (get_or starts j 0) c) ≡ table_past (take j items) count c at

-- where no column is refused, all are noted
abbrev pub Noted : List Item → ℕ → List ℕ → ℕ → List ℕ → Result ℕ Refusal → Type 0
Noted items count c at starts (Ok n) = Starts items count c at (length items) starts
Noted items count c at starts (Err r) = Unit {0}
