-- What whoever lists all records of an accepted section relies on. The section is decoded once. Then a proposition or a proof is read at the
-- entry of the lent table with its number, a witness or a parent cell at the place that follows from schema, counts and the two cursors, and
-- what is read is what asking for that number gives.
use Rattle.std.specs.Prelude.{ℕ, ◌+◌, ◌-◌, ◌<◌, ◌≡◌, List, length, get_or, take, drop}
use Rattle.local_format.specs.Out.{ok}
use Rattle.lent_table.specs.Lent.{lent}
use Rattle.evr0_section.specs.Head.{Room, span_width}
use Rattle.evr0_section.specs.Proposition.{proposition_of}
use Rattle.evr0_section.specs.Proof.{proof_of}
use Rattle.evr0_section.specs.Witness.{witness_of, parent_row}
use Rattle.evr0_section.specs.Section.{Section}
use Rattle.evr0.specs.Answer.{proposition_starts, proof_starts}
use Rattle.evr0_read.specs.Entry.{record_at, placed_proposition, placed_proof, placed_witness, placed_parent}
use Rattle.evr0_read.specs.Ask.{proposition_number, proof_number, witness_number, parent_number, proposition_told, proof_told, entry_told}
use Rattle.evr0_read.specs.Place.{witness_place, parent_place}

-- the payload of a section at a cursor, from 8 bytes after it to the cursor after the section
abbrev pub payload_to : List ℕ → ℕ → ℕ → List ℕ
payload_to bytes cursor end = take (end - (cursor + 8)) (drop (cursor + 8) bytes)

abbrev pub payload_of : List ℕ → ℕ → Section → List ℕ
payload_of bytes cursor d = payload_to bytes cursor d.cursor

-- d was decoded from the bytes at the cursor, with lent tables of these lengths
pub record Listed (room : Room) (bytes : List ℕ) (cursor : ℕ) (d : Section) : Type 0 where
  pub size : length (payload_of bytes cursor d) ≡ d.cursor - (cursor + 8)
  pub proposition : (k : ℕ) → k < d.tables.head.counts.propositions
      → record_at proposition_of placed_proposition (payload_of bytes cursor d) (get_or (lent room.propositions (proposition_starts (ok d))) k 0)
      ≡ proposition_told (proposition_number k (ok d))
  pub proof : (k : ℕ) → k < d.tables.head.counts.proofs
      → record_at proof_of placed_proof (payload_of bytes cursor d) (get_or (lent room.proofs (proof_starts (ok d))) k 0)
      ≡ proof_told (proof_number k (ok d))
  pub witness : (k : ℕ) → k < d.tables.head.counts.witnesses
      → record_at (witness_of (span_width d.tables.head.schema)) placed_witness (payload_of bytes cursor d)
      (witness_place (d.cursor - (cursor + 8)) (span_width d.tables.head.schema) d.tables.head.counts.witnesses d.tables.head.counts.parents k)
      ≡ entry_told (witness_number k (ok d))
  pub parent : (k : ℕ) → k < d.tables.head.counts.parents
      → record_at (parent_row tt) placed_parent (payload_of bytes cursor d) (parent_place (d.cursor - (cursor + 8)) d.tables.head.counts.parents k)
      ≡ entry_told (parent_number k (ok d))
