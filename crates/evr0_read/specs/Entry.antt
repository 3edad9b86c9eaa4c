-- A record of a payload, from its start and by its number; its text at its place in the payload.
use Rattle.std.specs.Prelude.{ℕ, ◌+◌, List, drop}
use Rattle.local_format.specs.Out.{Out, ok, ◌>>=◌}
use Rattle.local_format.specs.Text.{Span}
use Rattle.evr0_section.specs.Rows.{Sized, Row, Entry}
use Rattle.evr0_section.specs.Proposition.{Proposition}
use Rattle.evr0_section.specs.Proof.{ProofRecord, Settled}
use Rattle.evr0_section.specs.Witness.{WitnessRecord}

-- a text of a record that starts at a place of the payload
abbrev pub placed : ℕ → Span → Span
placed start t = record { start = start + t.start; len = t.len; chars = t.chars; next = start + t.next }

abbrev pub with_kind : Proposition → Span → Proposition
with_kind r t = record { kind = t; owner = r.owner; scope = r.scope; type = r.type }

abbrev pub with_rule : ProofRecord → Span → ProofRecord
with_rule r t =
    record {
      number = r.number;
      proposition = r.proposition;
      rule = t;
      authority = r.authority;
      first_witness = r.first_witness;
      witness_count = r.witness_count;
      first_parent = r.first_parent;
      parent_count = r.parent_count;
      operation = r.operation;
    }

-- what is shown of an entry: the record, with its text at its place in the payload
abbrev pub shown_proposition : ℕ → Proposition → Proposition
shown_proposition start r = with_kind r (placed start r.kind)

abbrev pub shown_proof : ℕ → ProofRecord → ProofRecord
shown_proof start r = with_rule r (placed start r.rule)

abbrev pub shown_settled : ℕ → Settled → ProofRecord
shown_settled start s = shown_proof start s.proof

abbrev pub shown : {A B : Type 0} → (ℕ → A → B) → Entry A → Entry B
shown f e = record { start = e.start; item = f e.start e.item }

-- ---- From a record that was read

abbrev pub placed_proposition : ℕ → Sized Proposition → Proposition
placed_proposition start x = shown_proposition start x.item

abbrev pub placed_proof : ℕ → Sized ProofRecord → ProofRecord
placed_proof start x = shown_proof start x.item

abbrev pub placed_witness : ℕ → Sized WitnessRecord → WitnessRecord
placed_witness start x = x.item

abbrev pub placed_parent : ℕ → Row ℕ (Unit {0}) → ℕ
placed_parent start x = x.item

module _ {X A : Type 0} (read : List ℕ → Out X) (place : ℕ → X → A) where
  -- the record that starts at a place of the payload p
  unfoldable pub record_at : List ℕ → ℕ → Out (Entry A)
  record_at p start = do
    x ← read (drop start p)
    ok (record { start = start; item = place start x })
