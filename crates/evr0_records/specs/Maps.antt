-- From the code's structs to the definitions' types.
use Rattle.std.specs.Prelude.{ℕ, List}
use Rattle.std.specs.declared.cmp.Ordering.{Ordering}
use Rattle.std.specs.declared.cmp.Ordering.TheVariants.{Less, Equal, Greater}
use Rattle.local_format.specs.Maps.{span_out}
use Rattle.evr0_section.specs.Rows as rows
use Rattle.evr0_section.specs.Rows.{Row}
use Rattle.evr0_section.specs.Proposition as props
use Rattle.evr0_section.specs.Proof as proofs
use Rattle.evr0_section.specs.Witness.{WitnessRecord}
use Rattle.evr0_fields.specs.declared.number.ProofNumber.{ProofNumber}
use Rattle.evr0_records.specs.declared.sized.Sized.{Sized}
use Rattle.evr0_records.specs.declared.proof.Proof.{Proof}
use Rattle.evr0_records.specs.declared.proof.RuleText.{RuleText}
use Rattle.evr0_records.specs.declared.proof.Ruled.{Ruled}
use Rattle.evr0_records.specs.declared.proof.Unowned.{Unowned}
use Rattle.evr0_records.specs.Ruled as ruled
use Rattle.evr0_records.specs.Ruled.{span_by, record_by}
use Rattle.evr0_rules.specs.Maps.{named_out}
use Rattle.evr0_rules.specs.declared.settle.Rulebook.{Rulebook}
use Rattle.evr0_rules.specs.declared.settle.Rulebook.TheVariants as book
use Rattle.local_format.specs.Text.{bytes_at}
use Rattle.evr0_records.specs.declared.proposition.Proposition.{Proposition}
use Rattle.evr0_records.specs.declared.proposition.Key.{Key}
use Rattle.evr0_records.specs.declared.witness.Witness.{Witness}

-- what was read off the front of a part, its record by a map
abbrev pub sized_out : {T A : Type 0} → (T → A) → Sized T → rows.Sized A
sized_out record_out r = record { item = record_out r.item; size = r.size }

-- ---- Propositions

abbrev pub order_out : Ordering → props.Order
order_out Less = props.less
order_out Equal = props.equal
order_out Greater = props.greater

abbrev pub proposition_record : Proposition → props.Proposition
proposition_record p =
    record { kind = span_out p.kind; owner = p.ast_owner_id; scope = p.semantic_scope_id; type = p.type_obligation_id }

abbrev pub key_out : Key → props.Key
key_out k = record { kind = k.kind.now; owner = k.owner; scope = k.scope; type = k.type_obligation }

-- ---- Proofs

abbrev pub proof_record : Proof → proofs.ProofRecord
proof_record p =
    record {
      number = p.proof_id.0;
      proposition = p.proposition_index.0;
      rule = span_out p.rule_id;
      authority = p.authority_context;
      first_witness = p.witness_first.0;
      witness_count = p.witness_count;
      first_parent = p.parent_first;
      parent_count = p.parent_count;
      operation = p.authorized_operation;
    }

-- how many characters a rule's text has is told by the four, and not by a table
abbrev pub chars_by : Rulebook → ℕ → ℕ
chars_by book.Four n = n
chars_by (book.Table b) n = 0

-- the rule has the name that found it
abbrev pub rule_text_out : (ℕ → ℕ) → List ℕ → RuleText → ruled.RuleText
rule_text_out chars s t =
    record { text = span_by chars (span_out t.text); named = named_out (bytes_at s t.text.start t.text.len) t.rule }

abbrev pub ruled_out : (ℕ → ℕ) → List ℕ → Ruled → ruled.Ruled
ruled_out chars s r =
    record {
      proof = record_by chars (proof_record r.proof);
      size = r.size;
      named = named_out (bytes_at s r.proof.rule_id.start r.proof.rule_id.len) r.rule;
    }

abbrev pub unowned_out : Unowned → proofs.Unowned
unowned_out u = record { proof = u.proof; witness = u.witness; parent = u.parent }

-- ---- Witnesses and parents

abbrev pub witness_record : Witness → WitnessRecord
witness_record w =
    record {
      number = w.witness_id.0;
      proposition = w.proposition_index.0;
      polarity = w.polarity;
      file_digest = w.file_digest;
      span_start = w.source_start;
      span_end = w.source_end;
      origin_digest = w.origin_digest;
    }

abbrev pub parent_out : Sized ProofNumber → Row ℕ (Unit {0})
parent_out p = record { item = p.item.0; size = p.size; state = tt }
