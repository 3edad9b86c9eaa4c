-- A proof with what its rule's text names: by `names` of the text's bytes in s, and with `chars` of its number of characters.
use Rattle.std.specs.Prelude.{ℕ, ◌≡◌, List}
use Rattle.local_format.specs.Out.{Out, ok, ◌>>=◌}
use Rattle.local_format.specs.Text.{Span, bytes_at, text_at}
use Rattle.derivation.specs.Rule.{Rule, Named, unknown, rule_named}
use Rattle.evr0_section.specs.Rows.{Sized}
use Rattle.evr0_section.specs.Proof.{ProofRecord}

abbrev pub span_by : (ℕ → ℕ) → Span → Span
span_by chars t = record { start = t.start; len = t.len; chars = chars t.chars; next = t.next }

abbrev pub record_by : (ℕ → ℕ) → ProofRecord → ProofRecord
record_by chars r =
    record {
      number = r.number;
      proposition = r.proposition;
      rule = span_by chars r.rule;
      authority = r.authority;
      first_witness = r.first_witness;
      witness_count = r.witness_count;
      first_parent = r.first_parent;
      parent_count = r.parent_count;
      operation = r.operation;
    }

-- none of the rules has the text at a place as its name
abbrev pub NoneNamed : List Rule → List ℕ → ℕ → Type 0
NoneNamed rules s at = (t : Span) → text_at s at ≡ ok t → rule_named rules (bytes_at s t.start t.len) ≡ unknown

pub record RuleText : Type 0 where
  pub text : Span
  pub named : Named

abbrev pub text_by : (ℕ → ℕ) → (List ℕ → Named) → List ℕ → Out Span → Out RuleText
text_by chars names s x = do
  t ← x
  ok (record { text = span_by chars t; named = names (bytes_at s t.start t.len) })

pub record Ruled : Type 0 where
  pub proof : ProofRecord
  pub size : ℕ
  pub named : Named

abbrev pub ruled_by : (ℕ → ℕ) → (List ℕ → Named) → List ℕ → Out (Sized ProofRecord) → Out Ruled
ruled_by chars names s x = do
  r ← x
  ok (record { proof = record_by chars r.item; size = r.size; named = names (bytes_at s r.item.rule.start r.item.rule.len) })
