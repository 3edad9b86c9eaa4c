-- What is known of a section whose columns are written.
use Rattle.std.specs.Prelude.{ℕ, ◌+◌, ◌-◌, ◌*◌, ◌≤◌, ◌≡◌, List, ◌++◌, length, drop}
use Rattle.local_format.specs.Out.{ok}
use Rattle.derivation.specs.Rule.{Rule}
use Rattle.evr0_section.specs.Rows.{starts_of}
use Rattle.evr0_section.specs.Head.{Room, witness_size}
use Rattle.evr0_section.specs.Section.{Tables, tables_of}
use Rattle.byte_output.specs.Written.{Written}
use Rattle.evr0_columns.specs.Columns.{proposition_items, proof_items, witness_items, parent_items, columns_of}
use Rattle.columns_put.specs.Places.{evenly, Inside, table_moved}

-- its tables were read, by some rules; these are the starts of its propositions and proofs, and its other numbers
pub record Due (section propositions proofs : List ℕ) (witnesses parents schema : ℕ) : Type 0 where
  pub rules : List Rule
  pub room : Room
  pub tables : Tables
  pub long : 8 ≤ length section
  pub read : tables_of rules room (drop 8 section) ≡ ok tables
  pub proposition_starts : starts_of tables.propositions.entries ≡ propositions
  pub proof_starts : starts_of tables.proofs.entries ≡ proofs
  pub witness_count : tables.head.counts.witnesses ≡ witnesses
  pub parent_count : tables.head.counts.parents ≡ parents
  pub schema_is : tables.head.schema ≡ schema

-- it has columns, and these were written to the front of an output, as far as it reaches
pub record Puts (section before after : List ℕ) (next : ℕ) : Type 0 where
  pub columns : List ℕ
  pub are : columns_of section ≡ ok columns
  pub put : Written before 0 columns after next

-- ---- The tables by the starts of their records

-- the last two end the payload: where the witnesses start, and the parents
abbrev pub parent_starts : List ℕ → ℕ → List ℕ
parent_starts p parents = evenly parents 4 (length p - 4 * parents)

abbrev pub witness_starts : ℕ → List ℕ → ℕ → ℕ → List ℕ
witness_starts width p witnesses parents =
    evenly witnesses (witness_size width) (length p - 4 * parents - witness_size width * witnesses)

-- they lie in it
pub record LastIn (width : ℕ) (p : List ℕ) (witnesses parents : ℕ) : Type 0 where
  pub room : witness_size width * witnesses + 4 * parents ≤ length p
  pub witnesses_in : Inside p (witness_items width) (witness_starts width p witnesses parents)
  pub parents_in : Inside p parent_items (parent_starts p parents)

-- their columns, and those of the first two
abbrev pub last_moved : ℕ → List ℕ → ℕ → ℕ → List ℕ
last_moved width p witnesses parents =
    table_moved (witness_items width) p (witness_starts width p witnesses parents) ++ table_moved parent_items p (parent_starts p parents)

abbrev pub listed_moved : List ℕ → List ℕ → List ℕ → List ℕ
listed_moved p propositions proofs = table_moved proposition_items p propositions ++ table_moved proof_items p proofs
