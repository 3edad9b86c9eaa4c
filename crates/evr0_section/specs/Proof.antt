-- A proof record and its own checks.
use Rattle.std.specs.Prelude.{ℕ, suc, ◌+◌, List, Bool, ◌&&◌, ltb, leb, eqb}
use Rattle.local_format.specs.Out.{Out, ok, refuse, check, ◌>>=◌, ◌>>◌}
use Rattle.local_format.specs.Text.{Span, bytes_at, section_field, text_at}
use Rattle.derivation.specs.Rule.{Rule, Named, known, unknown, rule_named}
use Rattle.evr0_section.specs.Rows.{Sized, Row}
use Rattle.evr0_section.specs.Head.{Counts}

-- three reserved bytes, which are one field: the place after them
unfoldable pub zeros_at : List ℕ → ℕ → Out ℕ
zeros_at s at = do
  g ← section_field 3 s at
  check (eqb g.value 0) 9 g.next
  ok g.next

-- the rule's name as a text at its place in the record
pub record ProofRecord : Type 0 where
  pub number : ℕ
  pub proposition : ℕ
  pub rule : Span
  pub authority : ℕ
  pub first_witness : ℕ
  pub witness_count : ℕ
  pub first_parent : ℕ
  pub parent_count : ℕ
  pub operation : ℕ

-- what follows the rule's name
abbrev pub rest_of : List ℕ → ℕ → ℕ → Span → Out (Sized ProofRecord)
rest_of s number proposition rule = do
  authority ← section_field 4 s rule.next
  first_witness ← section_field 4 s authority.next
  witness_count ← section_field 4 s first_witness.next
  first_parent ← section_field 4 s witness_count.next
  parent_count ← section_field 4 s first_parent.next
  operation ← section_field 1 s parent_count.next
  next ← zeros_at s operation.next
  ok (record {
    item = record {
      number = number;
      proposition = proposition;
      rule = rule;
      authority = authority.value;
      first_witness = first_witness.value;
      witness_count = witness_count.value;
      first_parent = first_parent.value;
      parent_count = parent_count.value;
      operation = operation.value;
    };
    size = next;
  })

-- the proof at the front of s
unfoldable pub proof_of : List ℕ → Out (Sized ProofRecord)
proof_of s = do
  number ← section_field 4 s 0
  proposition ← section_field 4 s number.next
  rule ← text_at s proposition.next
  rest_of s number.value proposition.value rule

-- ---- The checks

-- the next proof's number, and the next unowned witness and parent cell
pub record Unowned : Type 0 where
  pub proof : ℕ
  pub witness : ℕ
  pub parent : ℕ

abbrev pub none_owned : Unowned
none_owned = record { proof = 0; witness = 0; parent = 0 }

abbrev pub or_unknown : ℕ → ℕ → Named → Out Rule
or_unknown number at (known r) = ok r
or_unknown number at unknown = refuse number at

-- whether a proof's witness count, parent count and operation are the rule's
unfoldable pub has_numbers : Rule → ProofRecord → Bool
has_numbers rule r = eqb r.witness_count rule.witnesses && (eqb r.parent_count rule.parents && eqb r.operation rule.operation)

-- the rule of a proof that is the next one; `name` is what its rule text holds
unfoldable pub check_proof : List Rule → Counts → Unowned → List ℕ → ProofRecord → Out Rule
check_proof rules counts u name r = do
  check (eqb r.number u.proof && ltb r.proposition counts.propositions) 17 0
  check (eqb r.first_witness u.witness && eqb r.first_parent u.parent) 18 0
  check (leb (u.witness + r.witness_count) counts.witnesses && leb (u.parent + r.parent_count) counts.parents) 19 0
  rule ← or_unknown 20 0 (rule_named rules name)
  check (has_numbers rule r) 21 0
  ok rule

-- ---- The table's row

-- a proof record and the rule that its name settles
pub record Settled : Type 0 where
  pub proof : ProofRecord
  pub rule : Rule

unfoldable pub proof_row : List Rule → Counts → Unowned → List ℕ → Out (Row Settled Unowned)
proof_row rules counts u s = do
  r ← proof_of s
  rule ← check_proof rules counts u (bytes_at s r.item.rule.start r.item.rule.len) r.item
  ok (record {
    item = record { proof = r.item; rule = rule };
    size = r.size;
    state = record { proof = suc u.proof; witness = u.witness + r.item.witness_count; parent = u.parent + r.item.parent_count };
  })
