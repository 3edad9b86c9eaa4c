-- The flat structs of a section's records, of a way down and of an authorisation, with what the definitions answer.
use Rattle.std.specs.Prelude.{ℕ, Bool, true, false, List}
use Rattle.local_format.specs.Out.{Out, ok, refused}
use Rattle.local_format.specs.Text as text
use Rattle.derivation.specs.Down as of
use Rattle.evr0_section.specs.Rows.{Entry}
use Rattle.evr0_section.specs.Proposition as propositions
use Rattle.evr0_section.specs.Proof.{ProofRecord}
use Rattle.evr0_section.specs.Witness.{WitnessRecord}
use Rattle.evr0_fields.specs.Maps.{Beside}
use Rattle.falgnust.specs.Maps.{flat_refusal, no_refusal}
use Rattle.falgnust.specs.declared.span.Span.{Span}
use Rattle.falgnust.specs.declared.proposition.Proposition.{Proposition}
use Rattle.falgnust.specs.declared.proof.Proof.{Proof}
use Rattle.falgnust.specs.declared.witness.Witness.{Witness}
use Rattle.falgnust.specs.declared.parent.Parent.{Parent}
use Rattle.falgnust.specs.declared.way_down.WayDown.{WayDown}
use Rattle.falgnust.specs.declared.authorised.Authorised.{Authorised}

abbrev pub flat_span : text.Span → Span
flat_span s = record { start = s.start; len = s.len; chars = s.chars; next = s.next }

abbrev pub no_span : Span
no_span = record { start = 0; len = 0; chars = 0; next = 0 }

abbrev pub flat_proposition : Out (Entry propositions.Proposition) → Proposition
flat_proposition (ok e) =
    record {
      accepted = true;
      refusal = no_refusal;
      start = e.start;
      kind = flat_span e.item.kind;
      ast_owner_id = e.item.owner;
      semantic_scope_id = e.item.scope;
      type_obligation_id = e.item.type;
    }
flat_proposition (refused r) =
    record {
      accepted = false;
      refusal = flat_refusal r;
      start = 0;
      kind = no_span;
      ast_owner_id = 0;
      semantic_scope_id = 0;
      type_obligation_id = 0;
    }

abbrev pub flat_proof : Out (Entry ProofRecord) → Proof
flat_proof (ok e) =
    record {
      accepted = true;
      refusal = no_refusal;
      start = e.start;
      proof_id = e.item.number;
      proposition_index = e.item.proposition;
      rule_id = flat_span e.item.rule;
      authority_context = e.item.authority;
      witness_first = e.item.first_witness;
      witness_count = e.item.witness_count;
      parent_first = e.item.first_parent;
      parent_count = e.item.parent_count;
      authorized_operation = e.item.operation;
    }
flat_proof (refused r) =
    record {
      accepted = false;
      refusal = flat_refusal r;
      start = 0;
      proof_id = 0;
      proposition_index = 0;
      rule_id = no_span;
      authority_context = 0;
      witness_first = 0;
      witness_count = 0;
      parent_first = 0;
      parent_count = 0;
      authorized_operation = 0;
    }

-- with the digests that stand beside the answer
abbrev pub flat_found : List ℕ → List ℕ → Out (Entry WitnessRecord) → Witness
flat_found file origin (ok e) =
    record {
      accepted = true;
      refusal = no_refusal;
      start = e.start;
      file_digest = file;
      origin_digest = origin;
      witness_id = e.item.number;
      proposition_index = e.item.proposition;
      polarity = e.item.polarity;
      source_start = e.item.span_start;
      source_end = e.item.span_end;
    }
flat_found file origin (refused r) =
    record {
      accepted = false;
      refusal = flat_refusal r;
      start = 0;
      file_digest = file;
      origin_digest = origin;
      witness_id = 0;
      proposition_index = 0;
      polarity = 0;
      source_start = 0;
      source_end = 0;
    }

abbrev pub flat_witness : Beside (Entry WitnessRecord) → Witness
flat_witness b = flat_found b.first b.second b.answer

abbrev pub flat_parent : Out (Entry ℕ) → Parent
flat_parent (ok e) = record { accepted = true; refusal = no_refusal; start = e.start; proof_id = e.item }
flat_parent (refused r) = record { accepted = false; refusal = flat_refusal r; start = 0; proof_id = 0 }

abbrev pub flat_way : Out of.Down → WayDown
flat_way (ok (of.witness w moves)) =
    record { accepted = true; refusal = no_refusal; spent = false; witness = w; moves = moves; proof = 0 }
flat_way (ok (of.spent k)) = record { accepted = true; refusal = no_refusal; spent = true; witness = 0; moves = 0; proof = k }
flat_way (refused r) = record { accepted = false; refusal = flat_refusal r; spent = false; witness = 0; moves = 0; proof = 0 }

abbrev pub flat_authorised : Out Bool → Authorised
flat_authorised (ok b) = record { accepted = true; refusal = no_refusal; authorised = b }
flat_authorised (refused r) = record { accepted = false; refusal = flat_refusal r; authorised = false }
