-- Meets its contract: each return goes along the steps of `PayloadLaws.payload_kept`.
use mathlib.Core.Path.{◌≡◌, sym}
use mathlib.Core.List.{List}
use Rattle.std.proofs.Common.{rules}
use Rattle.local_format.specs.Out.{Out, ok, refused}
use Rattle.local_format.specs.Maps.{refusal_out}
use Rattle.derivation.specs.Rule.{Rule}
use Rattle.evr0_section.specs.Head.{span_width}
use Rattle.evr0_section.specs.Proposition.{first, proposition_row}
use Rattle.evr0_section.specs.Proof.{none_owned, proof_row}
use Rattle.evr0_section.specs.Section.{Tables, tables_after}
use Rattle.evr0_section.proofs.Inside.{proposition_row_in, proof_row_in}
use Rattle.evr0_head.specs.Maps.{counts_out}
use Rattle.evr0_rules.specs.Maps.{book_rules}
use Rattle.evr0_tables.specs.PayloadMaps.{under, payload_in}
use Rattle.evr0_tables.proofs.PayloadLaws.{next_of_part, front_of_part, next_within, owned_next, payload_kept, unread, all_begun}
use Rattle.evr0_tables.proofs.payload.read_four.Goals as goal

pub returns-in_err-proofs_at-clause-begins : goal.returns-in_err-proofs_at-clause-begins
returns-in_err-proofs_at-clause-begins c head =
    let a = c.args in
    let among : List Rule = book_rules a.rules.now in
    let whole : Out Tables = under head (tables_after among (span_width a.schema) (counts_out a.counts) a.payload.now a.at) in
    let told = next_of_part a.payload.now a.at a.tables.now.propositions.now a.counts.propositions c.requires.room.0 c.in_err-proofs_at.ensures.result_value in
    let e : payload_in whole ≡ refused (refusal_out c.in_err-proofs_at.field-0.0) =
    rw (
      payload_kept among (span_width a.schema) _ _ _ head,
      ← told,
    ) in
    unread e (search rules) _ _

pub read_proofs-requires : goal.read_proofs-requires
read_proofs-requires c =
    let a = c.args in
    let told = next_of_part a.payload.now a.at a.tables.now.propositions.now a.counts.propositions c.requires.room.0 c.in_ok-proofs_at.ensures.result_value in
    record {
      proofs_in_bounds = (c.requires.room.1, c.requires.room.2);
      at_in_bounds = next_within proposition_row proposition_row_in _ _ first _ c.requires.bounds.1 (sym told);
    }

pub returns-in_err-unowned-clause-begins : goal.returns-in_err-unowned-clause-begins
returns-in_err-unowned-clause-begins c head =
    let a = c.args in
    let among : List Rule = book_rules a.rules.now in
    let whole : Out Tables = under head (tables_after among (span_width a.schema) (counts_out a.counts) a.payload.now a.at) in
    let told = next_of_part a.payload.now a.at a.tables.now.propositions.now a.counts.propositions c.requires.room.0 c.in_ok-proofs_at.ensures.result_value in
    let e : payload_in whole ≡ refused (refusal_out c.in_err-unowned.field-0.0) =
    rw (
      payload_kept among (span_width a.schema) _ _ _ head,
      ← told,
      ← c.in_err-unowned.ensures.result_value,
    ) in
    unread e (search rules) _ _

pub returns-in_err-check-clause-begins : goal.returns-in_err-check-clause-begins
returns-in_err-check-clause-begins c head =
    let a = c.args in
    let among : List Rule = book_rules a.rules.now in
    let whole : Out Tables = under head (tables_after among (span_width a.schema) (counts_out a.counts) a.payload.now a.at) in
    let told = next_of_part a.payload.now a.at a.tables.now.propositions.now a.counts.propositions c.requires.room.0 c.in_ok-proofs_at.ensures.result_value in
    let e : payload_in whole ≡ refused (refusal_out c.in_err-check.field-0.0) =
    rw (
      payload_kept among (span_width a.schema) _ _ _ head,
      ← told,
      ← c.in_ok-unowned.ensures.result_value,
      ← c.in_err-check.ensures,
    ) in
    unread e (search rules) _ _

pub read_rest-requires : goal.read_rest-requires
read_rest-requires c =
    let among : List Rule = book_rules c.args.rules.now in
    let counts = counts_out c.args.counts in
    let a = c.args in
    let told = next_of_part a.payload.now a.at a.tables.now.propositions.now a.counts.propositions c.requires.room.0 c.in_ok-proofs_at.ensures.result_value in
    let within = next_within proposition_row proposition_row_in _ _ first _ c.requires.bounds.1 (sym told) in
    let read = owned_next _ (sym c.in_ok-unowned.ensures.result_value) in
    (c.requires.bounds.0, next_within (proof_row among counts) (λ q u. proof_row_in q among counts u) _ _ none_owned _ within read)

pub returns-in_err-parents_at-clause-begins : goal.returns-in_err-parents_at-clause-begins
returns-in_err-parents_at-clause-begins c head =
    let a = c.args in
    let among : List Rule = book_rules a.rules.now in
    let whole : Out Tables = under head (tables_after among (span_width a.schema) (counts_out a.counts) a.payload.now a.at) in
    let told = next_of_part a.payload.now a.at a.tables.now.propositions.now a.counts.propositions c.requires.room.0 c.in_ok-proofs_at.ensures.result_value in
    let e : payload_in whole ≡ refused (refusal_out c.in_err-parents_at.field-0.0) =
    rw (
      payload_kept among (span_width a.schema) _ _ _ head,
      ← told,
      ← c.in_ok-unowned.ensures.result_value,
      ← c.in_ok-check.ensures,
      ← c.in_err-parents_at.ensures,
    ) in
    unread e (search rules) _ _

pub returns-clause-begins : goal.returns-clause-begins
returns-clause-begins c head =
    let a = c.args in
    let among : List Rule = book_rules a.rules.now in
    let whole : Out Tables = under head (tables_after among (span_width a.schema) (counts_out a.counts) a.payload.now a.at) in
    let told = next_of_part a.payload.now a.at a.tables.now.propositions.now a.counts.propositions c.requires.room.0 c.in_ok-proofs_at.ensures.result_value in
    let e : payload_in whole ≡ ok (record {
      head = head;
      witnesses_at = c.in_ok-unowned.field-0.next;
      parents_at = c.in_ok-parents_at.parents_at;
    }) =
    rw (
      payload_kept among (span_width a.schema) _ _ _ head,
      ← told,
      ← c.in_ok-unowned.ensures.result_value,
      ← c.in_ok-check.ensures,
      ← c.in_ok-parents_at.ensures,
    ) in
    let front = front_of_part a.payload.now a.at a.tables.now.propositions.now a.counts.propositions c.requires.room.0 _ _ c.in_ok-proofs_at.ensures.front in
    all_begun among _ _ _ _ head e told front c.read_proofs.ensures.front c.read_proofs.ensures.polarities_after
