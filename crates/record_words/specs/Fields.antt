-- What the words of a record are, where the record was read: its fields, with a text or a digest at its place in the payload.
use Rattle.std.specs.Prelude.{ℕ, ◌+◌, ◌*◌, ◌≡◌, true, List, [], ◌∷◌}
use Rattle.local_format.specs.Text.{Span, bytes_at}
use Rattle.evr0_section.specs.Proposition.{Proposition}
use Rattle.evr0_section.specs.Proof.{ProofRecord}
use Rattle.evr0_section.specs.Witness.{WitnessRecord}
use Rattle.record_words.specs.Words.{text_whole, text_words, witness_whole, witness_words}

-- a record with a text that starts at a place: it is whole, and its words are these
pub record Is (front back : ℕ) (p : List ℕ) (at : ℕ) (xs : List ℕ) : Type 0 where
  pub whole : text_whole front back p at ≡ true
  pub words : text_words front back p at ≡ xs

abbrev pub proposition_fields : ℕ → Proposition → List ℕ
proposition_fields at r = (at + r.kind.start) ∷ r.kind.len ∷ r.owner ∷ r.scope ∷ r.type ∷ []

abbrev pub proof_fields : ℕ → ProofRecord → List ℕ
proof_fields at r =
    r.number ∷ r.proposition ∷ (at + r.rule.start) ∷ r.rule.len ∷ r.authority ∷ r.first_witness ∷ r.witness_count ∷ r.first_parent ∷ r.parent_count
    ∷ r.operation ∷ []

abbrev pub text_fields : Span → List ℕ
text_fields t = t.start ∷ t.len ∷ []

-- a witness that starts at a place, each digest being the 32 bytes at its word
pub record IsWitness (width : ℕ) (p : List ℕ) (at : ℕ) (w : WitnessRecord) : Type 0 where
  pub whole : witness_whole width p at ≡ true
  pub words : witness_words width p at ≡ w.number ∷ w.proposition ∷ w.polarity ∷ (at + 12) ∷ w.span_start ∷ w.span_end ∷ (at + 44 + 2 * width) ∷ []
  pub file : w.file_digest ≡ bytes_at p (at + 12) 32
  pub origin : w.origin_digest ≡ bytes_at p (at + 44 + 2 * width) 32
