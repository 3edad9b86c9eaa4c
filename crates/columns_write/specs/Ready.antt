-- What writing the columns of an accepted section relies on.
use Rattle.std.specs.Prelude.{ℕ, ◌≡◌, List, leb, length}
use Rattle.local_format.specs.Out.{Out, ok, check, ◌>>◌}
use Rattle.lent_table.specs.Lent.{lent}
use Rattle.derivation.specs.Rule.{Rule}
use Rattle.evr0_section.specs.Head.{Counts, Room}
use Rattle.evr0_section.specs.Rows.{starts_of}
use Rattle.evr0_section.specs.Section.{Section, section_at}
use Rattle.evr0_columns.specs.Columns.{Copy}
use Rattle.evr0.specs.Answer.{Lent, Filled}

-- a section was decoded at the cursor, by some rules, which ends at `end` and has these counts and this schema; both tables hold its starts
pub record Ready (bytes : List ℕ) (cursor end : ℕ) (propositions proofs : List ℕ) (counts : Counts) (schema : ℕ) : Type 0 where
  pub rules : List Rule
  pub room : Room
  pub section : Section
  pub decoded : section_at rules room bytes cursor ≡ ok section
  pub ends : section.cursor ≡ end
  pub counted : section.tables.head.counts ≡ counts
  pub schema_is : section.tables.head.schema ≡ schema
  pub proposition_room : ℕ
  pub proposition_starts : propositions ≡ lent proposition_room (starts_of section.tables.propositions.entries)
  pub proof_room : ℕ
  pub proof_starts : proofs ≡ lent proof_room (starts_of section.tables.proofs.entries)

-- the same, with the three tables that the decoder leaves
pub record Full (bytes : List ℕ) (cursor end : ℕ) (counts : Counts) (schema : ℕ) (tables : Lent) : Type 0 where
  pub rules : List Rule
  pub room : Room
  pub section : Section
  pub decoded : section_at rules room bytes cursor ≡ ok section
  pub ends : section.cursor ≡ end
  pub counted : section.tables.head.counts ≡ counts
  pub schema_is : section.tables.head.schema ≡ schema
  pub filled : Filled (ok section) tables tables

-- columns that fit an output of `out` bytes, or 61 at offset 0
abbrev pub fitted : ℕ → Section → List ℕ → Out Copy
fitted out section columns = do
  check (leb (length columns) out) 61 0
  ok (record { section = section; bytes = columns })
