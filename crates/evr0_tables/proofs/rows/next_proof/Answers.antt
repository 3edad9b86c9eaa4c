-- Meets its contract: each return by what the callees ensure, by `RowLaws`.
use mathlib.Core.Path.{◌≡◌, ap, ◌∙◌}
use mathlib.Core.List.{List}
use Prim.Native.Nat.{ℕ}
use Rattle.std.proofs.Common.{rules}
use Rattle.local_format.specs.Out.{ok, refused}
use Rattle.local_format.specs.Text.{bytes_at}
use Rattle.local_format.specs.Maps.{refusal_out}
use Rattle.derivation.specs.Rule.{Rule}
use Rattle.evr0_section.specs.Proof.{Unowned, proof_row}
use Rattle.evr0_head.specs.Maps.{counts_out}
use Rattle.evr0_rules.specs.Maps.{book_rules}
use Rattle.evr0_records.specs.Maps.{unowned_out, proof_record, chars_by}
use Rattle.evr0_tables.specs.Maps.{noted_in}
use Rattle.evr0_tables.proofs.RowLaws.{row_refused, name_told, row_unsettled, row_settled}
use Rattle.evr0_tables.proofs.rows.next_proof.Goals as goal

pub returns-in_err-proof : goal.returns-in_err-proof
returns-in_err-proof c =
    let a = c.args in
    let among : List Rule = book_rules a.rules.now in
    let part : List ℕ = c.tail.result.now in
    let e : refused (refusal_out c.in_err-proof.field-0.0) ≡ noted_in (proof_row among (counts_out a.counts) (unowned_out a.unowned) part) =
    row_refused (chars_by a.rules.now) among part _ _ c.in_err-proof.ensures in
    rw (← c.tail.ensures, ← e) (search rules)

pub returns-in_err-rule : goal.returns-in_err-rule
returns-in_err-rule c =
    let a = c.args in
    let among : List Rule = book_rules a.rules.now in
    let part : List ℕ = c.tail.result.now in
    let proof = c.in_ok-proof.field-0.proof in
    let name : List ℕ = bytes_at part proof.rule_id.start proof.rule_id.len in
    let told = name_told (chars_by a.rules.now) among part (proof_record proof) _ _ c.in_ok-proof.ensures in
    let e : refused (refusal_out c.in_err-rule.field-0.0) ≡ noted_in (proof_row among (counts_out a.counts) (unowned_out a.unowned) part) =
    row_unsettled (chars_by a.rules.now) among part _ _ _ c.in_ok-proof.ensures _ _ (c.in_err-rule.ensures among name told) in
    rw (← c.tail.ensures, ← e) (search rules)

pub returns : goal.returns
returns c =
    let a = c.args in
    let among : List Rule = book_rules a.rules.now in
    let part : List ℕ = c.tail.result.now in
    let proof = c.in_ok-proof.field-0.proof in
    let name : List ℕ = bytes_at part proof.rule_id.start proof.rule_id.len in
    let told = name_told (chars_by a.rules.now) among part (proof_record proof) _ _ c.in_ok-proof.ensures in
    let settled = row_settled (chars_by a.rules.now) among part (proof_record proof) _ _ c.in_ok-proof.ensures
    (counts_out a.counts) (unowned_out a.unowned) (c.in_ok-rule.ensures among name told) in
    rw (← c.tail.ensures)
    (ap (λ (u : Unowned). ok (record { polarity = c.in_ok-rule.rule.polarity; kept = record { size = c.in_ok-proof.field-0.size; state = u } }))
    c.after_proof.ensures ∙ settled)
