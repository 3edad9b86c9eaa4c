-- A record of one of a section's tables by its number: which entry is asked for, what is told of it, and what the table's count, its place and
-- what is read there have to be, in any section that was decoded.
use Rattle.std.specs.Prelude.{ℕ, ◌<◌, ◌≡◌, List, length}
use Rattle.local_format.specs.Out.{Out, ok}
use Rattle.local_format.specs.Number.{numbered, Chosen, choose}
use Rattle.lent_table.specs.Lent.{lent}
use Rattle.derivation.specs.Rule.{Rule}
use Rattle.evr0_section.specs.Head as head
use Rattle.evr0_section.specs.Head.{Room}
use Rattle.evr0_section.specs.Rows.{Entry, starts_of}
use Rattle.evr0_section.specs.Section.{Section, section_at}
use Rattle.evr0_read.specs.Entry.{shown}
use Rattle.evr0_read.specs.Asked.{telling}
use Rattle.evr0_read.specs.Listing.{payload_of}

-- by some rules, with lent tables of some lengths
pub record Decoded (bytes : List ℕ) (cursor : ℕ) (d : Section) : Type 0 where
  pub rules : List Rule
  pub room : Room
  pub is : section_at rules room bytes cursor ≡ ok d

module _ {E : Type 0} (table : Section → List (Entry E)) where
  -- the entry with the number k
  abbrev pub entry_number : ℕ → Out Section → Out (Chosen Section (Entry E))
  entry_number k = choose (λ s. numbered k (table s))

  -- the table of a section with these counts has so many entries
  abbrev pub Counted : head.Counts → ℕ → Type 0
  Counted counts n = (bytes : List ℕ) (cursor : ℕ) (d : Section) → Decoded bytes cursor d → counts ≡ d.tables.head.counts → n ≡ length (table d)

  -- the entry with the number k starts at a place, by the length of the payload and by the lent tables of starts
  abbrev pub Starts : (k len schema : ℕ) → head.Counts → (propositions proofs : List ℕ) → ℕ → Type 0
  Starts k len schema counts propositions proofs at = (bytes : List ℕ) (cursor : ℕ) (d : Section) → Decoded bytes cursor d
      → len ≡ length (payload_of bytes cursor d) → schema ≡ d.tables.head.schema → counts ≡ d.tables.head.counts
      → (n m : ℕ) → propositions ≡ lent n (starts_of d.tables.propositions.entries) → proofs ≡ lent m (starts_of d.tables.proofs.entries)
      → k < length (table d) → (e : Entry E) → numbered k (table d) ≡ ok e → at ≡ e.start

  module _ {A : Type 0} (show : ℕ → E → A) where
    -- the entry that starts at a place is what was read there
    abbrev pub Reads : (payload : List ℕ) (schema start : ℕ) → Out (Entry A) → Type 0
    Reads payload schema start r = (bytes : List ℕ) (cursor : ℕ) (d : Section) → Decoded bytes cursor d
        → payload ≡ payload_of bytes cursor d → schema ≡ d.tables.head.schema
        → (k : ℕ) (e : Entry E) → numbered k (table d) ≡ ok e → start ≡ e.start → r ≡ ok (shown show e)

-- told as it is shown
abbrev pub shown_told : {E A : Type 0} → (ℕ → E → A) → Out (Chosen Section (Entry E)) → Out (Entry A)
shown_told show = telling (λ c. shown show c.value)
