-- What the pass over the proofs relies on.
use Rattle.std.specs.Prelude.{ℕ, ◌≤◌, ◌≡◌, length, take}
use mathlib.Core.List.{List, Memᴰ}
use Rattle.local_format.specs.Out.{ok}
use Rattle.derivation.specs.Rule.{Rule, Shaped}
use Rattle.evr0_section.specs.Head.{Counts, Room}
use Rattle.evr0_section.specs.Rows.{starts_of}
use Rattle.evr0_section.specs.Section.{Section, section_at}

-- a section was decoded at the cursor, by some rules, which ends at `end` and has these counts; the table of proofs begins with its starts, and the one of
-- marks has an entry for each
pub record Due (bytes : List ℕ) (cursor end : ℕ) (counts : Counts) (proofs marks : List ℕ) : Type 0 where
  pub rules : List Rule
  pub shaped : (r : Rule) → Memᴰ r rules → Shaped r
  pub room : Room
  pub section : Section
  pub decoded : section_at rules room bytes cursor ≡ ok section
  pub ends : section.cursor ≡ end
  pub counted : section.tables.head.counts ≡ counts
  pub started : take counts.proofs proofs ≡ starts_of section.tables.proofs.entries
  pub fits : counts.proofs ≤ length marks

-- and the section has this schema
pub record DueOf (schema : ℕ) (bytes : List ℕ) (cursor end : ℕ) (counts : Counts) (proofs marks : List ℕ) : Type 0 where
  pub due : Due bytes cursor end counts proofs marks
  pub is : due.section.tables.head.schema ≡ schema
